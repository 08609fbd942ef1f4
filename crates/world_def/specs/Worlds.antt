-- worlds row by row: which are possible, which numbers they have, and the world that has given numbers
use Rattle.std.specs.Prelude.{ℕ, ℤ, pos, ◌+◌, ◌==◌, int_le, Bool, true, false, ◌&&◌, nat_lt, if◌then◌else◌, length, List, [], ◌∷◌, ◌++◌, map, take, drop, Option, Some, None, unwrap_or, is_none, slice_get, slice_set}
use Rattle.std.specs.List.{list_any}
use Rattle.std.specs.Ordering.{int_eq}
use Rattle.std.specs.declared.cmp.Ordering.{Ordering}
use Rattle.std.specs.declared.cmp.Ordering.TheVariants.{Less, Equal, Greater}
use Rattle.base_kit.specs.Orders.{value_order}
use Rattle.base_kit.specs.declared.value.Value.{Value}
use Rattle.base_kit.specs.declared.value.Value.TheVariants.{Int, Text}
use Rattle.tiql_query.specs.declared.relation.QHypo.{QHypo}
use Rattle.tiql_query.specs.declared.world_column.WorldColumn.{WorldColumn}
use Rattle.world_def.specs.declared.world.WorldTable.{WorldTable}
use Rattle.row_values.specs.Values.{number}
use Rattle.world_def.specs.Columns.{Rows, Tables, rows_of}

-- how many columns there are up to the first that is not so
unfoldable pub leading : (WorldColumn → Bool) → List WorldColumn → ℕ
leading is_so [] = 0
leading is_so (column ∷ columns) = if is_so column then 1 + leading is_so columns else 0

-- a column of this hypothetical table
abbrev pub of_hypo : ℕ → WorldColumn → Bool
of_hypo hypo column = column.hypo == hypo

-- a column of this row
abbrev pub of_row : ℕ → WorldColumn → Bool
of_row at column = column.row == at

-- the row with this number, where it is the first of those that are there
unfoldable pub standing : ℕ → List ℕ → Rows → Option (List Value)
standing at [] rows = None
standing at (pick ∷ picks) [] = None
standing at (pick ∷ picks) (row ∷ rows) = if pick == at then Some row else None

-- how many rows of the world it is
unfoldable pub count_of : Option (List Value) → ℕ
count_of None = 0
count_of (Some row) = 1

-- the set column in this place
abbrev pub is_cell : ℕ → Option ℕ → Bool
is_cell place None = false
is_cell place (Some column) = column == place

-- the column of the cell in this place, where it is set
unfoldable pub column_at : List WorldColumn → ℕ → Option WorldColumn
column_at [] place = None
column_at (column ∷ columns) place = if is_cell place column.cell then Some column else column_at columns place

-- values that stand so to each other are equal
abbrev pub is_equal : Ordering → Bool
is_equal Less = false
is_equal Equal = true
is_equal Greater = false

-- a number between the column's bounds
abbrev pub is_between : WorldColumn → Value → Bool
is_between column (Int n) = int_le column.lo n && int_le n column.hi
is_between column (Text t) = false

-- a set cell holds a number between its bounds, and any other cell what it holds in the table
abbrev pub fits_cell : Option WorldColumn → Value → Value → Bool
fits_cell None base value = is_equal (value_order base value)
fits_cell (Some column) base value = is_between column value

-- cell by cell, from the one in this place on
unfoldable pub row_fits : List WorldColumn → ℕ → List Value → List Value → Bool
row_fits columns place [] [] = true
row_fits columns place [] (value ∷ values) = false
row_fits columns place (base ∷ bases) [] = false
row_fits columns place (base ∷ bases) (value ∷ values) = fits_cell (column_at columns place) base value && row_fits columns (place + 1) bases values

-- whether a row of the table, with these columns, may stand so in a world, or not be there
unfoldable pub row_possible : List WorldColumn → List Value → Option (List Value) → Bool
row_possible columns base None = list_any (λ column. is_none column.cell) columns
row_possible columns base (Some row) = row_fits columns 0 base row

-- nothing is left
abbrev pub are_none : {A : Type 0} → List A → Bool
are_none [] = true
are_none (x ∷ xs) = false

-- the rows of the table, from the one with this number on, against those of the world. What is there has rising numbers, since each
-- row of the table is looked at once
unfoldable pub rows_possible : ℕ → Rows → List WorldColumn → List ℕ → Rows → Bool
rows_possible at [] columns picks rows = are_none picks && are_none rows
rows_possible at (base ∷ bases) columns picks rows =
    row_possible (take (leading (of_row at) columns) columns) base (standing at picks rows)
    && rows_possible (at + 1) bases (drop (leading (of_row at) columns) columns) (drop (count_of (standing at picks rows)) picks) (drop (count_of (standing at picks rows)) rows)

-- a world has a table for each hypothetical table
abbrev pub table_possible : Rows → List WorldColumn → Option WorldTable → Bool
table_possible bases columns None = false
table_possible bases columns (Some table) = rows_possible 0 bases columns table.picks table.rows

-- a table of the world behind those of the hypothetical tables, which are so many
abbrev pub surplus : List WorldTable → ℕ → Option ℕ
surplus world number = if nat_lt number (length world) then Some number else None

-- the first table that is not possible, a surplus one behind all others; this is the number of the first hypothetical table
unfoldable pub first_impossible : Tables → List WorldTable → ℕ → List QHypo → List WorldColumn → Option ℕ
first_impossible tables world number [] columns = surplus world number
first_impossible tables world number (hypo ∷ hypos) columns =
    if table_possible (rows_of tables hypo.table) (take (leading (of_hypo number) columns) columns) (slice_get world number)
    then first_impossible tables world (number + 1) hypos (drop (leading (of_hypo number) columns) columns)
    else Some number

-- the number of a column in a row of the world: 1 for a presence, and 0 where the row is not there
unfoldable pub number_in : Option (List Value) → WorldColumn → ℤ
number_in None column = pos 0
number_in (Some row) column = in_cell column.cell
  where
    in_cell : Option ℕ → ℤ
    in_cell None = pos 1
    in_cell (Some place) = number (unwrap_or (slice_get row place) (Int (pos 0)))

-- the numbers of the columns, row by row
unfoldable pub rows_numbers : ℕ → Rows → List WorldColumn → List ℕ → Rows → List ℤ
rows_numbers at [] columns picks rows = []
rows_numbers at (base ∷ bases) columns picks rows =
    map (number_in (standing at picks rows)) (take (leading (of_row at) columns) columns)
    ++ rows_numbers (at + 1) bases (drop (leading (of_row at) columns) columns) (drop (count_of (standing at picks rows)) picks) (drop (count_of (standing at picks rows)) rows)

-- the numbers of a hypothetical table's columns, none where the world has no such table
abbrev pub table_numbers : Rows → List WorldColumn → Option WorldTable → List ℤ
table_numbers bases columns None = []
table_numbers bases columns (Some table) = rows_numbers 0 bases columns table.picks table.rows

-- and by hypothetical table, from the one with this number on
unfoldable pub world_numbers : Tables → List WorldTable → ℕ → List QHypo → List WorldColumn → List ℤ
world_numbers tables world number [] columns = []
world_numbers tables world number (hypo ∷ hypos) columns =
    table_numbers (rows_of tables hypo.table) (take (leading (of_hypo number) columns) columns) (slice_get world number)
    ++ world_numbers tables world (number + 1) hypos (drop (leading (of_hypo number) columns) columns)

-- a row with a number in the column's cell
unfoldable pub with_number : WorldColumn → ℤ → List Value → List Value
with_number column n row = in_cell column.cell
  where
    in_cell : Option ℕ → List Value
    in_cell None = row
    in_cell (Some place) = slice_set row place (Int n)

-- a row with a number in the cell of each column
unfoldable pub row_with : List WorldColumn → List ℤ → List Value → List Value
row_with [] numbers row = row
row_with (column ∷ columns) [] row = row
row_with (column ∷ columns) (n ∷ numbers) row = row_with columns numbers (with_number column n row)

-- a row is not there where the number of its presence is 0
unfoldable pub is_left_out : List WorldColumn → List ℤ → Bool
is_left_out [] numbers = false
is_left_out (column ∷ columns) [] = false
is_left_out (column ∷ columns) (n ∷ numbers) = is_none column.cell && int_eq n (pos 0)

-- the rows behind one, and that one before them unless it is gone
abbrev pub put_row : Bool → ℕ → List Value → WorldTable → WorldTable
put_row true at row later = later
put_row false at row later = record { picks = at ∷ later.picks; rows = row ∷ later.rows }

-- a table without rows
abbrev pub no_rows : WorldTable
no_rows = record { picks = []; rows = [] }

-- a table of one row, or of none where it is gone
abbrev pub one_row : Bool → ℕ → List Value → WorldTable
one_row gone at row = put_row gone at row no_rows

-- the rows that have these numbers, from the row of the table with this number on
unfoldable pub rows_at : ℕ → Rows → List WorldColumn → List ℤ → WorldTable
rows_at at [] columns numbers = no_rows
rows_at at (base ∷ bases) columns numbers =
    put_row (is_left_out (take (leading (of_row at) columns) columns) (take (leading (of_row at) columns) numbers)) at
    (row_with (take (leading (of_row at) columns) columns) (take (leading (of_row at) columns) numbers) base)
    (rows_at (at + 1) bases (drop (leading (of_row at) columns) columns) (drop (leading (of_row at) columns) numbers))

-- the tables that have these numbers, from the hypothetical table with this number on
unfoldable pub tables_at : Tables → ℕ → List QHypo → List WorldColumn → List ℤ → List WorldTable
tables_at tables number [] columns numbers = []
tables_at tables number (hypo ∷ hypos) columns numbers =
    rows_at 0 (rows_of tables hypo.table) (take (leading (of_hypo number) columns) columns) (take (leading (of_hypo number) columns) numbers)
    ∷ tables_at tables (number + 1) hypos (drop (leading (of_hypo number) columns) columns) (drop (leading (of_hypo number) columns) numbers)
