-- The path: the dictionaries that the pivot rule comes to from the first one, and where it ends.
use Rattle.std.specs.Prelude.{◌≡◌, ◌≢◌, ℕ, zero, suc, ◌<◌, ◌⊎◌, ℤ, pos, ◌-ℤ◌, Option, Some, None, length}
use Rattle.rat128.specs.Rationals.{ℚ, zero_ℚ, whole, ◌*ℚ◌, inv_ℚ, ◌<ℚ◌, ◌≤ℚ◌}
use Rattle.ip_rows.specs.declared.lp.Lp.{Lp}
use Rattle.dict_pivot.specs.Tables.{Table, IsColumn, IsPivot}
use Rattle.dict_pivot.specs.Quantities.{IsStart, AreLeast}

-- the first of h numbers that differs is less
pub record LexLess (h : ℕ) (f g : ℕ → ℚ) : Type 0 where
  pub at : ℕ
  pub within : at < h
  pub less : f at <ℚ g at
  pub before : (k : ℕ) → k < at → f k ≡ g k

-- the first of h numbers that differs is less, or none differs
abbrev pub LexAtMost : ℕ → (ℕ → ℚ) → (ℕ → ℚ) → Type 0
LexAtMost h f g = LexLess h f g ⊎ ((i : ℕ) → i < h → f i ≡ g i)

-- row r is the first whose constant is below the least that its quantity may be; row 0 is the objective
pub record FirstViolated (least : ℕ → ℚ) (t : Table) (r : ℕ) : Type 0 where
  pub some : 0 < r
  pub within : r < t.height
  pub below : t.cell r 0 <ℚ least r
  pub before : (i : ℕ) → 0 < i → i < r → least i ≤ℚ t.cell i 0

-- no row is violated
abbrev pub NoneViolated : (ℕ → ℚ) → Table → Type 0
NoneViolated least t = (i : ℕ) → 0 < i → i < t.height → least i ≤ℚ t.cell i 0

-- column j after division by its factor in row r
abbrev pub divided : Table → ℕ → ℕ → ℕ → ℚ
divided t r j i = t.cell i j *ℚ inv_ℚ (t.cell r j)

-- c is the first of the least columns with a positive factor in row r
pub record Enters (t : Table) (r c : ℕ) : Type 0 where
  pub column : IsColumn t c
  pub positive : zero_ℚ <ℚ t.cell r c
  pub least : (j : ℕ) → IsColumn t j → j ≢ c → zero_ℚ <ℚ t.cell r j → LexLess t.height (divided t r c) (divided t r j) ⊎ (((i : ℕ) → i < t.height → divided t r c i ≡ divided t r j i) × (c < j))

-- no column has a positive factor in row r
abbrev pub NoneEnters : Table → ℕ → Type 0
NoneEnters t r = (j : ℕ) → IsColumn t j → t.cell r j ≤ℚ zero_ℚ

-- a best value is there, and the objective's constant is above it less 1
abbrev pub IsPast : Option ℤ → Table → Type 0
IsPast None t = ⊥
IsPast (Some best) t = whole (best -ℤ pos 1) <ℚ t.cell 0 0

-- a dictionary is an end: past the best value, or with no violated row, or with one that no column can mend
pub data IsEnd (least : ℕ → ℚ) (best : Option ℤ) (t : Table) : Type 0 where
  Past : IsPast best t → IsEnd least best t
  Solved : NoneViolated least t → IsEnd least best t
  Stuck : (r : ℕ) → FirstViolated least t r → NoneEnters t r → IsEnd least best t

-- the rule's next pivot of a dictionary that is no end
pub record IsChosen (least : ℕ → ℚ) (best : Option ℤ) (t : Table) (r c : ℕ) : Type 0 where
  pub ahead : IsPast best t → ⊥
  pub violated : FirstViolated least t r
  pub enters : Enters t r c

-- t' is the next dictionary on the path
pub record Next (least : ℕ → ℚ) (best : Option ℤ) (t t' : Table) : Type 0 where
  pub row : ℕ
  pub column : ℕ
  pub chosen : IsChosen least best t row column
  pub pivot : IsPivot least t row column t'

-- t stands on the path after k steps, none of them from an end
abbrev pub OnPath : Lp → (ℕ → ℚ) → Option ℤ → ℕ → Table → Type 0
OnPath lp least best zero t = IsStart lp t
OnPath lp least best (suc k) t' = (t : Table) × OnPath lp least best k t × Next least best t t'

-- at each step of the path the constants of the objective and of the columns' values rise
abbrev pub PathRises : Lp → Option ℤ → Type 0
PathRises lp best =
    (least : ℕ → ℚ) (k : ℕ) (t t' : Table) → AreLeast lp least → OnPath lp least best k t → Next least best t t' → LexLess (suc (length lp.sides)) (λ i. t.cell i 0) (λ i. t'.cell i 0)
