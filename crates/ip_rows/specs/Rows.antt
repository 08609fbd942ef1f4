-- Lists of terms, and rows: which are well formed, and how large their sums can be.
use Rattle.std.specs.Prelude.{◌≢◌, ◌+◌, ◌*◌, ◌<◌, ◌≤◌, ◌^◌, ◌==◌, ℕ, ℤ, pos, unsigned_abs, List, [], ◌∷◌, map, max, sum_by, All, slice_index_or, if◌then◌else◌}
use Rattle.std.specs.List.Sorted.{IsStrictlyIncreasing}
use Rattle.ip_rows.specs.declared.Bounds.{Bounds}
use Rattle.ip_rows.specs.declared.rows.Coef.{Coef}
use Rattle.ip_rows.specs.declared.rows.IpRow.{IpRow}

-- the sides of a column that is there
abbrev pub side_at : List Bounds → ℕ → Bounds
side_at sides column = slice_index_or sides column (record { lo = pos 0; hi = pos 0 })

-- the factor of a column: 0 where no term names it
abbrev pub factor_at : List Coef → ℕ → ℤ
factor_at [] column = pos 0
factor_at (term ∷ terms) column = if term.column == column then term.factor else factor_at terms column

-- the terms rise by column
abbrev pub Rise : List Coef → Type 0
Rise terms = IsStrictlyIncreasing (map (λ (term : Coef). term.column) terms)

-- the terms rise, name columns below this number, and have no factor 0
pub record AreTerms (columns : ℕ) (terms : List Coef) : Type 0 where
  pub rising : Rise terms
  pub there : All (λ (term : Coef). term.column < columns) terms
  pub factors : All (λ (term : Coef). term.factor ≢ pos 0) terms

-- the greater size of a column's two sides
abbrev pub greater_size : Bounds → ℕ
greater_size side = max (unsigned_abs side.lo) (unsigned_abs side.hi)

-- the sum, over the terms, of the factor's size times the greater size of the column's sides
abbrev pub weight : List Bounds → List Coef → ℕ
weight sides terms = sum_by (λ (term : Coef). unsigned_abs term.factor * greater_size (side_at sides term.column)) terms

-- a row is measured where its weight and the size of what it asks are together at most 2 ^ 120
abbrev pub IsMeasuredRow : List Bounds → IpRow → Type 0
IsMeasuredRow sides row = weight sides row.terms + unsigned_abs row.least ≤ 2 ^ 120
