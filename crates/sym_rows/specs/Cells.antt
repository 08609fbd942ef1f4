-- possible rows: what they are by the values of the formulas
use Rattle.std.specs.Prelude.{◌≢◌, ℕ, ℤ, pos, Bool, List, map, filter, All, Option, Some, None}
use Rattle.base_kit.specs.declared.value.Value.{Value}
use Rattle.base_kit.specs.declared.value.Value.TheVariants.{Int}
use Rattle.prov_fold.specs.Graphs.{Graph, HasTruth, HasNumber}
use Rattle.prov_fold.specs.Values.{holds}
use Rattle.sym_rows.specs.declared.row.Cell.{Cell}
use Rattle.sym_rows.specs.declared.row.Cell.TheVariants as cells
use Rattle.sym_rows.specs.declared.row.SymRow.{SymRow}

-- the rows of a relation
abbrev pub Rows : Type 0
Rows = List (List Value)

-- what a cell holds, where the formulas have these values
abbrev pub cell_in : (ℕ → ℤ) → Cell → Value
cell_in v (cells.Fixed value) = value
cell_in v (cells.Number id) = Int (v id)

-- what a possible row is
abbrev pub row_in : (ℕ → ℤ) → SymRow → List Value
row_in v row = map (cell_in v) row.cells

-- whether it is there
abbrev pub is_there : (ℕ → ℤ) → SymRow → Bool
is_there v row = holds v row.presence

-- the rows that are there
abbrev pub rows_in : (ℕ → ℤ) → List SymRow → Rows
rows_in v rows = map (row_in v) (filter (is_there v) rows)

-- a cell with 0 in the place of a number
abbrev pub fixed_cell : Cell → Value
fixed_cell = cell_in (λ id. pos 0)

-- a possible row with 0 in the place of each number, by which its fixed columns are read
abbrev pub fixed_row : SymRow → List Value
fixed_row row = row_in (λ id. pos 0) row

-- a cell's formula is a number of the list
abbrev pub IsCellOf : Graph → Cell → Type 0
IsCellOf g (cells.Fixed value) = Unit {0}
IsCellOf g (cells.Number id) = HasNumber g id

-- likewise of a cell that may not be there
abbrev pub IsCellThere : Graph → Option Cell → Type 0
IsCellThere g None = Unit {0}
IsCellThere g (Some cell) = IsCellOf g cell

-- a possible row by formulas of the list; that it is there is not False
pub record IsRowOf (g : Graph) (row : SymRow) : Type 0 where
  pub presence : HasTruth g row.presence
  pub possible : row.presence ≢ 0
  pub cells : All (IsCellOf g) row.cells

-- rows by formulas of the list
abbrev pub AreRowsOf : Graph → List SymRow → Type 0
AreRowsOf g rows = All (IsRowOf g) rows

-- the possible row that a row of a table is: there in every world, with its values
abbrev pub sure_row : List Value → SymRow
sure_row row = record { presence = 1; cells = map (λ (value : Value). cells.Fixed value) row }
