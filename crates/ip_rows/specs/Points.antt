-- Relaxed points: a number for each column, whole or not.
use Rattle.std.specs.Prelude.{◌<◌, ℕ, List, [], ◌∷◌, length}
use Rattle.rat128.specs.Rationals.{ℚ, whole, zero_ℚ, ◌+ℚ◌, ◌*ℚ◌, ◌≤ℚ◌}
use Rattle.ip_rows.specs.declared.Bounds.{Bounds}
use Rattle.ip_rows.specs.declared.rows.Coef.{Coef}
use Rattle.ip_rows.specs.declared.rows.IpRow.{IpRow}
use Rattle.ip_rows.specs.Rows.{side_at}

-- what the terms come to at a point
abbrev pub terms_at : (ℕ → ℚ) → List Coef → ℚ
terms_at point [] = zero_ℚ
terms_at point (term ∷ terms) = whole term.factor *ℚ point term.column +ℚ terms_at point terms

-- each column's number lies within its sides
pub record IsWithin (sides : List Bounds) (point : ℕ → ℚ) : Type 0 where
  pub low : (column : ℕ) → column < length sides → whole (side_at sides column).lo ≤ℚ point column
  pub high : (column : ℕ) → column < length sides → point column ≤ℚ whole (side_at sides column).hi

-- the point has what the row asks
abbrev pub Meets : (ℕ → ℚ) → IpRow → Type 0
Meets point row = whole row.least ≤ℚ terms_at point row.terms
