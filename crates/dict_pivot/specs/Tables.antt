-- Dictionaries over fractions of any size: what they say of their quantities, and what a pivot makes of them.
use Rattle.std.specs.Prelude.{◌≡◌, ◌≢◌, ℕ, zero, suc, ◌<◌, ◌≤◌}
use Rattle.rat128.specs.Rationals.{ℚ, zero_ℚ, one_ℚ, ◌+ℚ◌, ◌-ℚ◌, ◌*ℚ◌, neg_ℚ, inv_ℚ}

-- each row's quantity is a constant, in column 0, plus factors of the free quantities, in columns 1 to width
pub record Table : Type 0 where
  pub height : ℕ
  pub width : ℕ
  pub cell : ℕ → ℕ → ℚ
  pub free : ℕ → ℕ

-- a column that has a free quantity
pub record IsColumn (t : Table) (j : ℕ) : Type 0 where
  pub some : 0 < j
  pub within : j ≤ t.width

-- what column c is multiplied by where it is added to column j: the constant first falls to the least that row r's quantity may be
abbrev pub share : (ℕ → ℚ) → Table → ℕ → ℕ → ℕ → ℚ
share least t r c zero = neg_ℚ ((t.cell r 0 -ℚ least r) *ℚ inv_ℚ (t.cell r c))
share least t r c (suc j) = neg_ℚ (t.cell r (suc j) *ℚ inv_ℚ (t.cell r c))

-- t' is t after the pivot at row r and column c, where row i's quantity is at least `least i`
pub record IsPivot (least : ℕ → ℚ) (t : Table) (r c : ℕ) (t' : Table) : Type 0 where
  pub height : t'.height ≡ t.height
  pub width : t'.width ≡ t.width
  pub others : (i j : ℕ) → i < t.height → j ≤ t.width → i ≢ r → j ≢ c → t'.cell i j ≡ t.cell i j +ℚ t.cell i c *ℚ share least t r c j
  pub column : (i : ℕ) → i < t.height → i ≢ r → t'.cell i c ≡ t.cell i c *ℚ inv_ℚ (t.cell r c)
  pub constant : t'.cell r 0 ≡ least r
  pub factors : (j : ℕ) → IsColumn t j → j ≢ c → t'.cell r j ≡ zero_ℚ
  pub own : t'.cell r c ≡ one_ℚ
  pub free : t'.free c ≡ r
  pub frees : (j : ℕ) → IsColumn t j → j ≢ c → t'.free j ≡ t.free j

-- the sum of f 1 to f k
abbrev pub total : ℕ → (ℕ → ℚ) → ℚ
total zero f = zero_ℚ
total (suc k) f = total k f +ℚ f (suc k)

-- how far the quantity of row i stands above the least that it may be
abbrev pub distance : (ℕ → ℚ) → (ℕ → ℚ) → ℕ → ℚ
distance least q i = q i -ℚ least i

-- what row i says of its quantity, where the quantities are q
abbrev pub said : (ℕ → ℚ) → Table → (ℕ → ℚ) → ℕ → ℚ
said least t q i = t.cell i 0 +ℚ total t.width (λ j. t.cell i j *ℚ distance least q (t.free j))

-- the quantities q meet every row
pub record Solves (least : ℕ → ℚ) (t : Table) (q : ℕ → ℚ) : Type 0 where
  pub each : (i : ℕ) → i < t.height → q i ≡ said least t q i

-- each free quantity's row is itself
pub record IsUnits (t : Table) : Type 0 where
  pub row : (j : ℕ) → IsColumn t j → t.free j < t.height
  pub own : (j : ℕ) → IsColumn t j → t.cell (t.free j) j ≡ one_ℚ
  pub apart : (j l : ℕ) → IsColumn t j → IsColumn t l → j ≢ l → t.cell (t.free j) l ≡ zero_ℚ

-- each free quantity's constant is the least that it may be
pub record IsHome (least : ℕ → ℚ) (t : Table) : Type 0 where
  pub home : (j : ℕ) → IsColumn t j → t.cell (t.free j) 0 ≡ least (t.free j)
