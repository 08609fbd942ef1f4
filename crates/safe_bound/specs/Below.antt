-- What a bound is over, and what it says of the relaxed points of a box.
use Rattle.std.specs.Prelude.{◌<◌, ℕ, List, length, All, Contains}
use Rattle.std.specs.List.Sorted.{IsStrictlyIncreasing}
use Rattle.rat128.specs.Rationals.{ℚ, value, zero_ℚ, ◌≤ℚ◌}
use Rattle.ip_rows.specs.declared.Bounds.{Bounds}
use Rattle.ip_rows.specs.declared.rows.Coef.{Coef}
use Rattle.ip_rows.specs.declared.rows.IpRow.{IpRow}
use Rattle.ip_rows.specs.declared.mult.Mult.{Mult}
use Rattle.ip_rows.specs.Rows.{AreTerms}
use Rattle.ip_rows.specs.Points.{terms_at, IsWithin, Meets}
use Rattle.safe_bound.specs.Bound.{row_at}

-- the columns of the reach rise, are there, and have every column of the aim and of the named rows among them
pub record IsReach (columns : ℕ) (rows : List IpRow) (aim : List Coef) (multipliers : List Mult) (reach : List ℕ) : Type 0 where
  pub rising : IsStrictlyIncreasing reach
  pub there : All (λ (column : ℕ). column < columns) reach
  pub aim_within : All (λ (term : Coef). Contains reach term.column) aim
  pub rows_within : All (λ (m : Mult). All (λ (term : Coef). Contains reach term.column) (row_at rows m.row).terms) multipliers

-- no multiplier is negative
abbrev pub AreNotNegative : List Mult → Type 0
AreNotNegative multipliers = All (λ (m : Mult). zero_ℚ ≤ℚ value m.factor) multipliers

-- the point meets each row that a multiplier names
abbrev pub MeetsNamed : (ℕ → ℚ) → List IpRow → List Mult → Type 0
MeetsNamed point rows multipliers = All (λ (m : Mult). Meets point (row_at rows m.row)) multipliers

-- every relaxed point within the sides that meets the named rows has an objective of at least z
abbrev pub IsAtMost : ℚ → List IpRow → List Coef → List Bounds → List Mult → Type 0
IsAtMost z rows aim sides multipliers =
    (point : ℕ → ℚ) → IsWithin sides point → MeetsNamed point rows multipliers → z ≤ℚ terms_at point aim
