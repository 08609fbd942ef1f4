-- How large the sums of terms become on the way, at a point.
use Rattle.std.specs.Prelude.{ℕ, ℤ, ◌+◌, ◌*◌, ◌<◌, ◌≤◌, ◌^◌, unsigned_abs, List, [], ◌∷◌, length, All}
use Rattle.ip_rows.specs.declared.rows.Coef.{Coef}
use Rattle.ip_rows.specs.Programs.{number_at}

-- the sum, over the terms, of the factor's size times the size of the column's number
abbrev pub weight_at : List ℤ → List Coef → ℕ
weight_at point [] = 0
weight_at point (term ∷ terms) = unsigned_abs term.factor * unsigned_abs (number_at point term.column) + weight_at point terms

-- the terms name numbers of the point, and weigh little there
pub record IsBounded (point : List ℤ) (terms : List Coef) : Type 0 where
  pub there : All (λ (term : Coef). term.column < length point) terms
  pub small : weight_at point terms ≤ 2 ^ 120
