-- The number that a bound is, over exact fractions of any size.
use Rattle.std.specs.Prelude.{ℕ, List, [], ◌∷◌, if◌then◌else◌}
use Rattle.std.specs.Ordering.{is_lt}
use Rattle.rat128.specs.Rationals.{ℚ, value, whole, zero_ℚ, order_ℚ, ◌+ℚ◌, ◌-ℚ◌, ◌*ℚ◌}
use Rattle.ip_rows.specs.declared.Bounds.{Bounds}
use Rattle.ip_rows.specs.declared.rows.Coef.{Coef}
use Rattle.ip_rows.specs.declared.rows.IpRow.{IpRow}
use Rattle.ip_rows.specs.declared.mult.Mult.{Mult}
use Rattle.ip_rows.specs.Rows.{side_at, factor_at}
use Rattle.safe_bound.specs.Bound.{row_at}

-- the sum of a number for each column
abbrev pub over : (ℕ → ℚ) → List ℕ → ℚ
over f [] = zero_ℚ
over f (column ∷ columns) = f column +ℚ over f columns

-- what the named rows ask, each times its multiplier
abbrev pub leasts : List IpRow → List Mult → ℚ
leasts rows [] = zero_ℚ
leasts rows (m ∷ ms) = value m.factor *ℚ whole (row_at rows m.row).least +ℚ leasts rows ms

-- d, less the factor that each named row has at the column times its multiplier
abbrev pub rest : List IpRow → ℕ → ℚ → List Mult → ℚ
rest rows column d [] = d
rest rows column d (m ∷ ms) =
    rest rows column (d -ℚ value m.factor *ℚ whole (factor_at (row_at rows m.row).terms column)) ms

-- the least that d times a number within the sides can be
abbrev pub least_at : ℚ → Bounds → ℚ
least_at d side = d *ℚ whole (if is_lt (order_ℚ d zero_ℚ) then side.hi else side.lo)

-- what the rows ask, and the least that is left of each column
abbrev pub exact_bound : List IpRow → List Coef → List Bounds → List Mult → List ℕ → ℚ
exact_bound rows aim sides multipliers reach =
    leasts rows multipliers
    +ℚ over (λ column. least_at (rest rows column (whole (factor_at aim column)) multipliers) (side_at sides column)) reach
