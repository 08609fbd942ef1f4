-- The first dictionary as the private functions write it, in whole numbers. Public contracts cite none of this.
use Rattle.std.specs.Prelude.{◌≡◌, ◌<◌, cond, Bool, false, ℕ, suc, ℤ, pos, ◌+ℤ◌, ◌-ℤ◌, ◌*ℤ◌, neg_ℤ, List, [], ◌∷◌, length, slice_index_or}
use Rattle.rat128.specs.Fractions.{Fraction, whole_fraction}
use Rattle.rat128.specs.Operations.{IsNarrow}
use Rattle.ip_rows.specs.declared.Bounds.{Bounds}
use Rattle.ip_rows.specs.declared.rows.Coef.{Coef}
use Rattle.ip_rows.specs.declared.lp.Lp.{Lp}
use Rattle.ip_rows.specs.Rows.{side_at}
use Rattle.dict_pivot.specs.Dictionaries.{number}
use Rattle.dict_pivot.specs.Quantities.{Quantity, Objective, ColumnValue, UpperDistance, RowSurplus, row_of, starts_up}

-- whether a column starts at its upper side
abbrev pub is_up : List Bool → ℕ → Bool
is_up up j = slice_index_or up j false

-- the list says of each column of the Lp where it starts
pub record AreStarts (lp : Lp) (up : List Bool) : Type 0 where
  pub size : length up ≡ length lp.sides
  pub each : (j : ℕ) → j < length lp.sides → is_up up j ≡ starts_up lp j

abbrev pub side_from : List Bounds → List Bool → ℕ → ℤ
side_from sides up j = cond (is_up up j) (side_at sides j).hi (side_at sides j).lo

abbrev pub turned_by : List Bool → ℕ → ℤ → ℤ
turned_by up j z = cond (is_up up j) (neg_ℤ z) z

-- what terms come to at the corner
abbrev pub corner_sum : List Bounds → List Bool → List Coef → ℤ
corner_sum sides up [] = pos 0
corner_sum sides up (t ∷ ts) = t.factor *ℤ side_from sides up t.column +ℤ corner_sum sides up ts

-- what a quantity is at the corner
abbrev pub corner_of : Lp → List Bool → Quantity → ℤ
corner_of lp up Objective = corner_sum lp.sides up lp.aim
corner_of lp up (ColumnValue j) = side_from lp.sides up j
corner_of lp up (UpperDistance j) = (side_at lp.sides j).hi -ℤ side_from lp.sides up j
corner_of lp up (RowSurplus r) =
    corner_sum lp.sides up (row_of lp.rows r).terms -ℤ (row_of lp.rows r).least

-- the numbers of a row of the first dictionary: n columns, the constant, and the factors before they are turned
pub record IsWritten (up : List Bool) (n : ℕ) (constant : ℤ) (growth : ℕ → ℤ) (row : List Fraction) : Type 0 where
  pub first : number row 0 ≡ whole_fraction constant
  pub later : (j : ℕ) → j < n → number row (suc j) ≡ whole_fraction (turned_by up j (growth j))
  pub narrow : (j : ℕ) → IsNarrow (number row j)

-- a row of zeros
abbrev pub AreZeros : List Fraction → Type 0
AreZeros row = (j : ℕ) → number row j ≡ whole_fraction (pos 0)
