-- What the rows of a dictionary stand for, and the first dictionary of a relaxed part.
use Rattle.std.specs.Prelude.{◌≡◌, ◌+◌, ◌-◌, ◌<◌, ◌≤◌, ◌==◌, nat_lt, int_lt, cond, Bool, ℕ, zero, suc, ℤ, pos, negsuc, neg_ℤ, List, [], length, slice_index_or}
use Rattle.rat128.specs.Rationals.{ℚ, whole, ◌-ℚ◌}
use Rattle.ip_rows.specs.declared.rows.IpRow.{IpRow}
use Rattle.ip_rows.specs.declared.lp.Lp.{Lp}
use Rattle.ip_rows.specs.Rows.{side_at, factor_at}
use Rattle.ip_rows.specs.Points.{terms_at}
use Rattle.dict_pivot.specs.Tables.{Table, IsColumn}

-- what a row says: the objective, a column's value, how far that lies below the upper side, and by how much a row has more than it asks
pub data Quantity : Type 0 where
  Objective : Quantity
  ColumnValue : ℕ → Quantity
  UpperDistance : ℕ → Quantity
  RowSurplus : ℕ → Quantity

-- the quantity of row i, where there are n columns
abbrev pub meaning : ℕ → ℕ → Quantity
meaning n zero = Objective
meaning n (suc k) =
    cond (nat_lt k n) (ColumnValue k) (cond (nat_lt k (n + n)) (UpperDistance (k - n)) (RowSurplus (k - (n + n))))

-- the row of a number that is there
abbrev pub row_of : List IpRow → ℕ → IpRow
row_of rows r = slice_index_or rows r (record { terms = []; least = pos 0 })

-- what a quantity is at a point
abbrev pub quantity_of : Lp → (ℕ → ℚ) → Quantity → ℚ
quantity_of lp point Objective = terms_at point lp.aim
quantity_of lp point (ColumnValue j) = point j
quantity_of lp point (UpperDistance j) = whole (side_at lp.sides j).hi -ℚ point j
quantity_of lp point (RowSurplus r) =
    terms_at point (row_of lp.rows r).terms -ℚ whole (row_of lp.rows r).least

-- the quantities of the rows at a point
abbrev pub quantities : Lp → (ℕ → ℚ) → ℕ → ℚ
quantities lp point i = quantity_of lp point (meaning (length lp.sides) i)

-- by how much a quantity grows where the number of column j grows by 1
abbrev pub growth_of : Lp → Quantity → ℕ → ℤ
growth_of lp Objective j = factor_at lp.aim j
growth_of lp (ColumnValue k) j = cond (k == j) (pos 1) (pos 0)
growth_of lp (UpperDistance k) j = cond (k == j) (negsuc 0) (pos 0)
growth_of lp (RowSurplus r) j = factor_at (row_of lp.rows r).terms j

-- a column whose factor in the objective is negative starts at its upper side, any other at its lower one
abbrev pub starts_up : Lp → ℕ → Bool
starts_up lp j = int_lt (factor_at lp.aim j) (pos 0)

abbrev pub first_side : Lp → ℕ → ℤ
first_side lp j = cond (starts_up lp j) (side_at lp.sides j).hi (side_at lp.sides j).lo

-- the point at which every column starts
abbrev pub corner : Lp → ℕ → ℚ
corner lp j = whole (first_side lp j)

-- z, where the column's number grows with its distance from the side where it starts, else z with the other sign
abbrev pub toward : Lp → ℕ → ℤ → ℤ
toward lp j z = cond (starts_up lp j) (neg_ℤ z) z

-- the quantities at the corner, and by how much each grows with the distances from it
abbrev pub first_cell : Lp → ℕ → ℕ → ℚ
first_cell lp i zero = quantities lp (corner lp) i
first_cell lp i (suc j) = whole (toward lp j (growth_of lp (meaning (length lp.sides) i) j))

-- the row of a column's distance from the side where it starts: the value's row stands for that to the lower side
abbrev pub first_free : Lp → ℕ → ℕ
first_free lp zero = 0
first_free lp (suc j) = cond (starts_up lp j) (suc (length lp.sides + j)) (suc j)

-- the first dictionary: the free quantities are the columns' distances from the sides where they start
pub record IsStart (lp : Lp) (t : Table) : Type 0 where
  pub height : t.height ≡ suc (length lp.sides + length lp.sides + length lp.rows)
  pub width : t.width ≡ length lp.sides
  pub cells : (i j : ℕ) → i < t.height → j ≤ t.width → t.cell i j ≡ first_cell lp i j
  pub frees : (j : ℕ) → IsColumn t j → t.free j ≡ first_free lp j

-- the least that the quantities may be: a column's lower side for its value, else 0
pub record AreLeast (lp : Lp) (least : ℕ → ℚ) : Type 0 where
  pub values : (j : ℕ) → j < length lp.sides → least (suc j) ≡ whole (side_at lp.sides j).lo
  pub others : (i : ℕ) → length lp.sides < i → least i ≡ whole (pos 0)
