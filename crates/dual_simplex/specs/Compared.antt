-- Columns as they are compared. Public contracts cite none of this.
use Rattle.std.specs.Prelude.{◌≡◌, ◌≢◌, ℕ, ◌<◌, ◌⊎◌, Option, Some, None}
use Rattle.std.specs.declared.cmp.Ordering.{Ordering}
use Rattle.std.specs.declared.cmp.Ordering.TheVariants.{Less, Equal, Greater}
use Rattle.rat128.specs.Rationals.{ℚ, zero_ℚ, ◌<ℚ◌, ◌≤ℚ◌}
use Rattle.dict_pivot.specs.Tables.{Table}
use Rattle.dual_simplex.specs.Path.{LexLess, divided}

-- how the first h numbers of f and g compare in lexicographic order
abbrev pub Compares : ℕ → (ℕ → ℚ) → (ℕ → ℚ) → Ordering → Type 0
Compares h f g Less = LexLess h f g
Compares h f g Equal = (i : ℕ) → i < h → f i ≡ g i
Compares h f g Greater = LexLess h g f

-- c is the first of the least columns below `end` with a positive factor in row r
pub record IsLeastBelow (t : Table) (r end c : ℕ) : Type 0 where
  pub some : 0 < c
  pub below : c < end
  pub positive : zero_ℚ <ℚ t.cell r c
  pub least : (j : ℕ) → 0 < j → j < end → j ≢ c → zero_ℚ <ℚ t.cell r j → LexLess t.height (divided t r c) (divided t r j) ⊎ (((i : ℕ) → i < t.height → divided t r c i ≡ divided t r j i) × (c < j))

abbrev pub IsLeastSoFar : Table → ℕ → ℕ → Option ℕ → Type 0
IsLeastSoFar t r end None = (j : ℕ) → 0 < j → j < end → t.cell r j ≤ℚ zero_ℚ
IsLeastSoFar t r end (Some c) = IsLeastBelow t r end c
