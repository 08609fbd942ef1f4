-- What `relax` answers with, and what each answer shows.
use Rattle.std.specs.Prelude.{◌≡◌, ◌==◌, ℕ, zero, suc, ◌+◌, ◌<◌, cond, ℤ, pos, ◌-ℤ◌, List, [], ◌∷◌, ◌++◌, length, drop, slice_index, slice_index_or, unsigned_abs, Option, Some, IfSome}
use Rattle.rat128.specs.Fractions.{Fraction, whole_fraction, minus}
use Rattle.rat128.specs.Rationals.{ℚ, value, whole, zero_ℚ, ◌<ℚ◌, ◌≤ℚ◌}
use Rattle.ip_rows.specs.declared.rows.Coef.{Coef}
use Rattle.ip_rows.specs.declared.lp.Lp.{Lp}
use Rattle.ip_rows.specs.declared.mult.Mult.{Mult}
use Rattle.ip_rows.specs.Points.{terms_at, IsWithin, Meets}
use Rattle.safe_bound.specs.Bound.{bound_of}
use Rattle.safe_bound.specs.Below.{AreNotNegative}
use Rattle.dict_pivot.specs.Dictionaries.{Dictionary, cell_of, least_of, table, IsFirstWide}
use Rattle.dict_pivot.specs.Quantities.{quantities, row_of}
use Rattle.dual_simplex.specs.Path.{LexAtMost, FirstViolated, NoneViolated, NoneEnters, IsPast, IsChosen, OnPath}

-- ---- multipliers
-- the number, in row i, of the column in which the quantity of row k is free: 0 where it is not free
abbrev pub factor_of_free : Dictionary → ℕ → ℕ → ℕ → Fraction
factor_of_free d i k zero = whole_fraction (pos 0)
factor_of_free d i k (suc j) =
    cond (slice_index d.free (suc j) == k) (cell_of d i (suc j)) (factor_of_free d i k j)

-- the row in the dictionary of row r of the Lp
abbrev pub surplus_row : Lp → ℕ → ℕ
surplus_row lp r = suc (length lp.sides + length lp.sides + r)

-- the multiplier of row r in the objective
abbrev pub objective_multiplier : Lp → Dictionary → ℕ → Fraction
objective_multiplier lp d r = factor_of_free d 0 (surplus_row lp r) (length lp.sides)

-- the multiplier of row r in the violated row i: that row's own is 1
abbrev pub row_multiplier : Lp → Dictionary → ℕ → ℕ → Fraction
row_multiplier lp d i r =
    cond (surplus_row lp r == i) (whole_fraction (pos 1)) (minus (factor_of_free d i (surplus_row lp r) (length lp.sides)))

-- the multipliers of the first m rows in rising order, without those that are 0
abbrev pub multipliers_of : (ℕ → Fraction) → ℕ → List Mult
multipliers_of f zero = []
multipliers_of f (suc r) =
    multipliers_of f r ++ cond (unsigned_abs (f r).num == 0) [] (record { row = r; factor = f r } ∷ [])

-- the columns from 0 on
abbrev pub first_columns : ℕ → List ℕ
first_columns zero = []
first_columns (suc n) = first_columns n ++ n ∷ []

-- the bound by multipliers over the whole part, with an aim
abbrev pub bound_with : Lp → List Coef → List Mult → Option Fraction
bound_with lp aim multipliers = bound_of lp.rows aim lp.sides multipliers (first_columns (length lp.sides))

-- ---- points
-- a point within the sides that meets every row
pub record IsRelaxed (lp : Lp) (point : ℕ → ℚ) : Type 0 where
  pub inside : IsWithin lp.sides point
  pub meets : (r : ℕ) → r < length lp.rows → Meets point (row_of lp.rows r)

-- the first relaxed point by its objective, then column by column
pub record IsLeast (lp : Lp) (point : ℕ → ℚ) : Type 0 where
  pub relaxed : IsRelaxed lp point
  pub least : (other : ℕ → ℚ) → IsRelaxed lp other → LexAtMost (suc (length lp.sides)) (quantities lp point) (quantities lp other)

-- ---- what is shown
-- a dictionary that stands on the path, and that no end stands before
pub record Stands (lp : Lp) (best : Option ℤ) (d : Dictionary) : Type 0 where
  pub steps : ℕ
  pub on : OnPath lp (least_of d.low) best steps (table d)

-- closed against the best value: its first end is past it, and so is the bound
pub record ShowsPast (lp : Lp) (best : ℤ) (multipliers : List Mult) (d : Dictionary) : Type 0 where
  pub stands : Stands lp (Some best) d
  pub past : IsPast (Some best) (table d)
  pub those : multipliers ≡ multipliers_of (objective_multiplier lp d) (length lp.rows)
  pub not_negative : AreNotNegative multipliers
  pub bound : Fraction
  pub given : bound_with lp lp.aim multipliers ≡ Some bound
  pub above : whole (best -ℤ pos 1) <ℚ value bound

-- closed since no point meets the rows: no column mends a violated row, and the bound with no aim is above 0
pub record ShowsNone (lp : Lp) (best : Option ℤ) (multipliers : List Mult) (d : Dictionary) : Type 0 where
  pub stands : Stands lp best d
  pub ahead : IsPast best (table d) → ⊥
  pub row : ℕ
  pub violated : FirstViolated (least_of d.low) (table d) row
  pub stuck : NoneEnters (table d) row
  pub those : multipliers ≡ multipliers_of (row_multiplier lp d row) (length lp.rows)
  pub not_negative : AreNotNegative multipliers
  pub bound : Fraction
  pub given : bound_with lp [] multipliers ≡ Some bound
  pub above : zero_ℚ <ℚ value bound

-- an optimum: the point is the least one, better than the best value, and the bound is its value
pub record ShowsOptimum (lp : Lp) (best : Option ℤ) (worth : Fraction) (point : List Fraction) (multipliers : List Mult) (d : Dictionary) : Type 0 where
  pub stands : Stands lp best d
  pub ahead : IsPast best (table d) → ⊥
  pub none : NoneViolated (least_of d.low) (table d)
  pub those : multipliers ≡ multipliers_of (objective_multiplier lp d) (length lp.rows)
  pub not_negative : AreNotNegative multipliers
  pub size : length point ≡ length lp.sides
  pub least : IsLeast lp (λ j. value (slice_index_or point j (whole_fraction (pos 0))))
  pub is_worth : terms_at (λ j. value (slice_index_or point j (whole_fraction (pos 0)))) lp.aim ≡ value worth
  pub better : IfSome best (λ b. value worth ≤ℚ whole (b -ℤ pos 1))
  pub given : bound_with lp lp.aim multipliers ≡ Some worth

-- a pivot of the path with a cell that is too wide
pub record ShowsWidePivot (lp : Lp) (best : Option ℤ) (basis : List ℕ) (row column wide_row wide_column : ℕ) (d : Dictionary) : Type 0 where
  pub stands : Stands lp best d
  pub those : basis ≡ drop 1 d.free
  pub chosen : IsChosen (least_of d.low) best (table d) row column
  pub wide : IsFirstWide d row column wide_row wide_column
