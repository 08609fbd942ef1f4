-- The bound that multipliers of rows give, in its order of operations: None where one of them is.
use Rattle.std.specs.Prelude.{◌==◌, ℕ, ℤ, zero, suc, pos, negsuc, int_lt, List, [], ◌∷◌, Option, Some, None, if◌then◌else◌, slice_index_or}
use Rattle.rat128.specs.Fractions.{Fraction, whole_fraction}
use Rattle.rat128.specs.Operations.{add_of, sub_of, mul_of}
use Rattle.ip_rows.specs.declared.Bounds.{Bounds}
use Rattle.ip_rows.specs.declared.rows.Coef.{Coef}
use Rattle.ip_rows.specs.declared.rows.IpRow.{IpRow}
use Rattle.ip_rows.specs.declared.mult.Mult.{Mult}
use Rattle.ip_rows.specs.Rows.{side_at, factor_at}

infixl 10 ◌>>=◌
abbrev pub ◌>>=◌ : {A B : Type 0} → Option A → (A → Option B) → Option B
Some a >>= f = f a
None >>= f = None

-- the row of a number that is there
abbrev pub row_at : List IpRow → ℕ → IpRow
row_at rows k = slice_index_or rows k (record { terms = []; least = pos 0 })

-- t + m n
unfoldable pub plus_product : Fraction → Fraction → ℤ → Option Fraction
plus_product t m n = do
  p ← mul_of m (whole_fraction n)
  add_of t p

-- d - m a, by two operations, and by none where a is 0
unfoldable pub less_product : Fraction → Fraction → ℤ → Option Fraction
less_product d m (pos zero) = Some d
less_product d m (pos (suc a)) = do
  p ← mul_of m (whole_fraction (pos (suc a)))
  sub_of d p
less_product d m (negsuc a) = do
  p ← mul_of m (whole_fraction (negsuc a))
  sub_of d p

-- t, and what each named row asks times its multiplier
abbrev pub plus_leasts : List IpRow → Fraction → List Mult → Option Fraction
plus_leasts rows t [] = Some t
plus_leasts rows t (m ∷ ms) = do
  t' ← plus_product t m.factor (row_at rows m.row).least
  plus_leasts rows t' ms

-- d, less the factor that each named row has at the column times its multiplier
abbrev pub rest_of : List IpRow → ℕ → Fraction → List Mult → Option Fraction
rest_of rows column d [] = Some d
rest_of rows column d (m ∷ ms) = do
  d' ← less_product d m.factor (factor_at (row_at rows m.row).terms column)
  rest_of rows column d' ms

-- the side at which d times the column's number is least: the lower one where d is not negative, else the upper one
abbrev pub worst_side : Fraction → Bounds → ℤ
worst_side d side = if int_lt d.num (pos 0) then side.hi else side.lo

module _ (rows : List IpRow) (aim : List Coef) (sides : List Bounds) (multipliers : List Mult) where
  -- t, and what is left of each column's factor times its worst side
  abbrev pub plus_columns : Fraction → List ℕ → Option Fraction
  plus_columns t [] = Some t
  plus_columns t (column ∷ columns) = do
    d ← rest_of rows column (whole_fraction (factor_at aim column)) multipliers
    t' ← plus_product t d (worst_side d (side_at sides column))
    plus_columns t' columns

  -- the rows in their order, then the columns of the reach in theirs
  unfoldable pub bound_of : List ℕ → Option Fraction
  bound_of reach = do
    t ← plus_leasts rows (whole_fraction (pos 0)) multipliers
    plus_columns t reach
