-- the rows of the columns: a cell is 0 where its row is left out, and between its bounds where the row is there
use Rattle.std.specs.Prelude.{◌≤◌, ◌+◌, ◌^◌, ℕ, ℤ, pos, neg_ℤ, unsigned_abs, Bool, ◌&&◌, is_none, is_some, if◌then◌else◌, List, [], ◌∷◌, ◌++◌}
use Rattle.std.specs.Ordering.{int_eq}
use Rattle.ip_rows.specs.declared.rows.Coef.{Coef}
use Rattle.ip_rows.specs.declared.rows.IpRow.{IpRow}
use Rattle.tiql_query.specs.declared.world_column.WorldColumn.{WorldColumn}

-- at most 10^15 in size
abbrev pub IsSmallBound : ℤ → Type 0
IsSmallBound n = unsigned_abs n ≤ 10 ^ 15

-- a column with a small lower bound
abbrev pub HasSmallBound : WorldColumn → Type 0
HasSmallBound column = IsSmallBound column.lo

-- a factor times the presence and a sign times the cell are together 0 or above. There is no term with factor 0
unfoldable pub tie : ℤ → ℕ → ℤ → ℕ → IpRow
tie factor presence sign cell =
    let last : Coef = record { factor = sign; column = cell } in
    record { terms = (if int_eq factor (pos 0) then last ∷ [] else record { factor = factor; column = presence } ∷ last ∷ []); least = pos 0 }

-- the cell less its lower bound times the presence
abbrev pub low_row : ℕ → ℕ → ℤ → IpRow
low_row presence cell lo = tie (neg_ℤ lo) presence (pos 1) cell

-- its upper bound times the presence, less the cell
abbrev pub high_row : ℕ → ℕ → ℤ → IpRow
high_row presence cell hi = tie hi presence (neg_ℤ (pos 1)) cell

-- a cell of a row that may be left out
abbrev pub may_drop : WorldColumn → Bool
may_drop column = is_some column.cell && column.droppable

-- such a cell has two rows; a presence has none, and neither has any other cell
unfoldable pub column_rows : ℕ → ℕ → WorldColumn → List IpRow
column_rows presence at column = if may_drop column then low_row presence at column.lo ∷ high_row presence at column.hi ∷ [] else []

-- the number of the last presence up to the column with this number
abbrev pub presence_at : ℕ → ℕ → WorldColumn → ℕ
presence_at presence at column = if is_none column.cell then at else presence

-- the rows of the columns from the one with this number on, behind the presence with the number that comes first
unfoldable pub rows_from : ℕ → ℕ → List WorldColumn → List IpRow
rows_from presence at [] = []
rows_from presence at (column ∷ columns) = column_rows presence at column ++ rows_from (presence_at presence at column) (at + 1) columns

-- the rows of all columns; a presence stands before its cells
abbrev pub cell_rows : List WorldColumn → List IpRow
cell_rows columns = rows_from 0 0 columns
