-- the possible rows of a hypothetical table: row by row, beside the world columns of each
use Rattle.std.specs.Prelude.{◌≡◌, ◌≢◌, ◌<◌, ◌≤◌, ◌≤ℤ◌, unsigned_abs, ℕ, ℤ, pos, ◌+◌, nat_lt, Bool, true, false, is_none, if◌then◌else◌, List, [], ◌∷◌, ◌++◌, length, take, drop, map, Option, Some, None, slice_get}
use Rattle.std.specs.Ordering.{int_eq}
use Rattle.base_kit.specs.declared.value.Value.{Value}
use Rattle.base_kit.specs.declared.value.Value.TheVariants.{Int}
use Rattle.tiql_query.specs.declared.relation.Column.{Column}
use Rattle.tiql_query.specs.declared.relation.QHypo.{QHypo}
use Rattle.tiql_query.specs.declared.query.Query.{Query}
use Rattle.tiql_query.specs.declared.world_column.WorldColumn.{WorldColumn}
use Rattle.row_values.specs.Values.{number}
use Rattle.world_def.specs.Columns.{Tables, rows_of}
use Rattle.world_def.specs.Worlds.{leading, of_hypo, of_row, is_cell}
use Rattle.prov_fold.specs.declared.span.Span.{Span}
use Rattle.prov_fold.specs.Spans.{widened}
use Rattle.prov_fold.specs.Values.{number_at, IsThere}
use Rattle.prov_fold.specs.Rules as rule
use Rattle.sym_rows.specs.declared.row.Cell.{Cell}
use Rattle.sym_rows.specs.declared.row.Cell.TheVariants as cells
use Rattle.sym_rows.specs.declared.row.SymRow.{SymRow}
use Rattle.prov_fold.specs.Graphs.{Graph, HasTruth}
use Rattle.prov_fold.specs.Values.{holds}
use Rattle.sym_rows.specs.Cells.{Rows, cell_in, row_in, is_there, rows_in}
use Rattle.sym_rows.specs.Walks.{Walk, gives, ◌>>=◌, each, by_rule}

-- the numbers that a world column may have: those between its bounds, and 0 where its row may be left out
abbrev pub sides : WorldColumn → Span
sides column = if column.droppable then widened (record { lo = column.lo; hi = column.hi }) else record { lo = column.lo; hi = column.hi }

-- a row may be left out where the first of its world columns is its presence
unfoldable pub may_miss : List WorldColumn → Bool
may_miss [] = false
may_miss (column ∷ columns) = is_none column.cell

-- the truth that a row is there
unfoldable pub presence : ℕ → List WorldColumn → Walk ℕ
presence first chosen g = if may_miss chosen then by_rule (rule.pres first) g else gives 1 g

-- the world column of the cell in this place, with its number
unfoldable pub column_of : ℕ → ℕ → List WorldColumn → Option (ℕ × WorldColumn)
column_of place first [] = None
column_of place first (column ∷ columns) = if is_cell place column.cell then Some (first, column) else column_of place (first + 1) columns

-- whether a column of a relation is unknown
abbrev pub is_unknown_in : List Column → ℕ → Bool
is_unknown_in columns place = is_so (slice_get columns place)
  where
    is_so : Option Column → Bool
    is_so None = false
    is_so (Some column) = column.unknown

-- a number that is made stands in a cell
abbrev pub as_cell : ℕ → Walk Cell
as_cell id g = gives (cells.Number id) g

-- a cell that has no world column: its value, or a constant where the column is unknown
abbrev pub settled : Bool → Value → Walk Cell
settled true value g = by_rule (rule.constant (number value)) g >>= as_cell
settled false value g = gives (cells.Fixed value) g

-- a cell: that of its world column, where it has one
abbrev pub cell_by : Bool → Value → Option (ℕ × WorldColumn) → Walk Cell
cell_by unknown value None g = settled unknown value g
cell_by unknown value (Some found) g = by_rule (rule.cell found.0 (sides found.1)) g >>= as_cell

-- the cells of a row in table order; its world columns have numbers from the first on
unfoldable pub cells_of : List Column → ℕ → List WorldColumn → List Value → Walk (List Cell)
cells_of columns first chosen base g = each (λ place value. cell_by (is_unknown_in columns place) value (column_of place first chosen)) 0 base g

-- a row
unfoldable pub row_of : List Column → ℕ → List WorldColumn → List Value → Walk SymRow
row_of columns first chosen base g = presence first chosen g >>= λ there g. cells_of columns first chosen base g >>= λ made g. gives (record { presence = there; cells = made }) g

-- the rows from the one with this number on, beside their world columns
unfoldable pub rows_from : List Column → ℕ → ℕ → Rows → List WorldColumn → Walk (List SymRow)
rows_from columns at first [] chosen g = gives [] g
rows_from columns at first (base ∷ bases) chosen g =
    row_of columns first (take (leading (of_row at) chosen) chosen) base g >>= λ made g.
    rows_from columns (at + 1) (first + leading (of_row at) chosen) bases (drop (leading (of_row at) chosen) chosen) g >>= λ more g.
    gives (made ∷ more) g

-- a world column of an earlier hypothetical table
abbrev pub before_hypo : ℕ → WorldColumn → Bool
before_hypo hypo column = nat_lt column.hypo hypo

-- how many world columns are of earlier hypothetical tables
abbrev pub start_of : ℕ → List WorldColumn → ℕ
start_of hypo columns = leading (before_hypo hypo) columns

-- the world columns of a hypothetical table
abbrev pub columns_in : ℕ → List WorldColumn → List WorldColumn
columns_in hypo columns = take (leading (of_hypo hypo) (drop (start_of hypo columns) columns)) (drop (start_of hypo columns) columns)

abbrev pub table_of : Tables → List WorldColumn → ℕ → Option QHypo → Walk (List SymRow)
table_of tables columns hypo None g = gives [] g
table_of tables columns hypo (Some table) g = rows_from table.columns 0 (start_of hypo columns) (rows_of tables table.table) (columns_in hypo columns) g

-- the possible rows of the hypothetical table with this number
unfoldable pub hypo_rows : Query → Tables → List WorldColumn → ℕ → Walk (List SymRow)
hypo_rows query tables columns hypo g = table_of tables columns hypo (slice_get query.hypos hypo) g

-- ---- where the world columns have these numbers

-- whether a row is there
abbrev pub is_there_then : List ℤ → ℕ → List WorldColumn → Bool
is_there_then numbers first chosen = if may_miss chosen then int_eq (number_at numbers first) (pos 1) else true

-- what stands in a cell
abbrev pub cell_then : List ℤ → Bool → Value → Option (ℕ × WorldColumn) → Value
cell_then numbers unknown value None = if unknown then Int (number value) else value
cell_then numbers unknown value (Some found) = Int (number_at numbers found.0)

-- the values of a row, from the one in this place on
unfoldable pub cells_then : List ℤ → List Column → ℕ → List WorldColumn → ℕ → List Value → List Value
cells_then numbers columns first chosen place [] = []
cells_then numbers columns first chosen place (value ∷ values) =
    cell_then numbers (is_unknown_in columns place) value (column_of place first chosen) ∷ cells_then numbers columns first chosen (place + 1) values

-- the rows that are there, from the one with this number on
unfoldable pub rows_then : List ℤ → List Column → ℕ → ℕ → Rows → List WorldColumn → Rows
rows_then numbers columns at first [] chosen = []
rows_then numbers columns at first (base ∷ bases) chosen =
    (if is_there_then numbers first (take (leading (of_row at) chosen) chosen) then cells_then numbers columns first (take (leading (of_row at) chosen) chosen) 0 base ∷ [] else [])
    ++ rows_then numbers columns (at + 1) (first + leading (of_row at) chosen) bases (drop (leading (of_row at) chosen) chosen)

-- ---- what is meant of the rows

-- a world column has numbers, and they are small
pub record HasSides (column : WorldColumn) : Type 0 where
  pub order : column.lo ≤ℤ column.hi
  pub lo : unsigned_abs column.lo ≤ 1000000000000000
  pub hi : unsigned_abs column.hi ≤ 1000000000000000

abbrev pub HasFoundSides : Option (ℕ × WorldColumn) → Type 0
HasFoundSides None = Unit {0}
HasFoundSides (Some found) = HasSides found.1

-- whether a world column is that of the cell in this place
abbrev pub is_cell_in : ℕ → WorldColumn → Bool
is_cell_in place column = is_cell place column.cell

-- a truth of the list that is not False
pub record IsPresence (g : Graph) (id : ℕ) : Type 0 where
  pub truth : HasTruth g id
  pub possible : id ≢ 0

abbrev pub IsPresenceThen : ℕ → List WorldColumn → ℕ → List ℤ → (ℕ → ℤ) → Type 0
IsPresenceThen first chosen id numbers v = holds v id ≡ is_there_then numbers first chosen

-- the world column of a cell, where it has one, has a number that it may have
abbrev pub IsFoundThere : List ℤ → Option (ℕ × WorldColumn) → Type 0
IsFoundThere numbers None = Unit {0}
IsFoundThere numbers (Some found) = IsThere numbers found.0 (sides found.1)

-- likewise of all cells of a row
abbrev pub CellsThere : List ℤ → ℕ → List WorldColumn → List Value → Type 0
CellsThere numbers first chosen base = (place : ℕ) → place < length base → IsFoundThere numbers (column_of place first chosen)

abbrev pub IsCellThen : Bool → Value → Option (ℕ × WorldColumn) → Cell → List ℤ → (ℕ → ℤ) → Type 0
IsCellThen unknown value found cell numbers v = IsFoundThere numbers found → cell_in v cell ≡ cell_then numbers unknown value found

abbrev pub AreCellsThen : List Column → ℕ → List WorldColumn → List Value → List Cell → List ℤ → (ℕ → ℤ) → Type 0
AreCellsThen columns first chosen base made numbers v = CellsThere numbers first chosen base → map (cell_in v) made ≡ cells_then numbers columns first chosen 0 base

-- whether a row is there, and what it is
pub record IsRowThen (columns : List Column) (first : ℕ) (chosen : List WorldColumn) (base : List Value) (row : SymRow) (numbers : List ℤ) (v : ℕ → ℤ) : Type 0 where
  pub there : is_there v row ≡ is_there_then numbers first chosen
  pub values : CellsThere numbers first chosen base → row_in v row ≡ cells_then numbers columns first chosen 0 base

-- of each row that is there the world columns have numbers that they may have
unfoldable pub RowsThere : List ℤ → ℕ → ℕ → Rows → List WorldColumn → Type 0
RowsThere numbers at first [] chosen = Unit {0}
RowsThere numbers at first (base ∷ bases) chosen =
    (is_there_then numbers first (take (leading (of_row at) chosen) chosen) ≡ true → CellsThere numbers first (take (leading (of_row at) chosen) chosen) base)
    × RowsThere numbers (at + 1) (first + leading (of_row at) chosen) bases (drop (leading (of_row at) chosen) chosen)

abbrev pub AreRowsThen : List Column → ℕ → ℕ → Rows → List WorldColumn → List SymRow → List ℤ → (ℕ → ℤ) → Type 0
AreRowsThen columns at first bases chosen made numbers v = RowsThere numbers at first bases chosen → rows_in v made ≡ rows_then numbers columns at first bases chosen
