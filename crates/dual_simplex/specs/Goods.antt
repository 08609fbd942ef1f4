-- What keeps the rule going. Public contracts cite none of this.
use Rattle.std.specs.Prelude.{◌≡◌, ◌≢◌, ℕ, ◌<◌}
use Rattle.rat128.specs.Rationals.{ℚ, zero_ℚ, one_ℚ, ◌<ℚ◌}
use Rattle.dict_pivot.specs.Tables.{Table, IsColumn}

-- the first of h numbers that is not 0 is above 0
pub record LexPositive (h : ℕ) (f : ℕ → ℚ) : Type 0 where
  pub at : ℕ
  pub within : at < h
  pub above : zero_ℚ <ℚ f at
  pub before : (k : ℕ) → k < at → f k ≡ zero_ℚ

-- columns above 0, and each free quantity's row is itself
pub record IsGood (t : Table) : Type 0 where
  pub positive : (j : ℕ) → IsColumn t j → LexPositive t.height (λ i. t.cell i j)
  pub row : (j : ℕ) → IsColumn t j → t.free j < t.height
  pub own : (j : ℕ) → IsColumn t j → t.cell (t.free j) j ≡ one_ℚ
  pub apart : (j l : ℕ) → IsColumn t j → IsColumn t l → j ≢ l → t.cell (t.free j) l ≡ zero_ℚ
