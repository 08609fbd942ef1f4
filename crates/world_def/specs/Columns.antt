-- the numbers that are chosen in the worlds of a query: presences of rows, and cells between their bounds
use Rattle.std.specs.Prelude.{◌≡◌, ◌≢◌, ◌^◌, ◌+◌, ◌≤◌, ◌<◌, ℕ, ℤ, pos, unsigned_abs, nat_lt, int_lt, Bool, true, if◌then◌else◌, List, [], ◌∷◌, ◌++◌, length, Option, Some, None, unwrap_or, slice_get, Result, Ok, Err, All}
use Rattle.base_kit.specs.Asking.{and_then}
use Rattle.base_kit.specs.declared.value.Value.{Value}
use Rattle.tiql_query.specs.declared.expression.Expr.{Expr}
use Rattle.tiql_query.specs.declared.condition.Cond.{Cond}
use Rattle.tiql_query.specs.declared.relation.QBound.{QBound}
use Rattle.tiql_query.specs.declared.relation.QHypo.{QHypo}
use Rattle.tiql_query.specs.declared.query.Query.{Query}
use Rattle.tiql_query.specs.declared.world_column.WorldColumn.{WorldColumn}
use Rattle.row_values.specs.declared.fault.Wide.{Wide}
use Rattle.world_def.specs.declared.fault.BoundsFault.{BoundsFault}
use Rattle.world_def.specs.declared.fault.BoundsFault.TheVariants as fault
use Rattle.row_values.specs.Asked.{asked, truth_asked}
use Rattle.world_def.specs.Turns.{turns}

-- the rows of one table
abbrev pub Rows : Type 0
Rows = List (List Value)

-- the rows of each table, in the order of the tables
abbrev pub Tables : Type 0
Tables = List Rows

-- the rows of the table with this number, and none where it is not there
unfoldable pub rows_of : Tables → ℕ → Rows
rows_of tables number = unwrap_or (slice_get tables number) []

-- this is what the asking comes to, unless memory is wanting
abbrev pub GivesColumns : {A : Type 0} → Result A BoundsFault → Result A BoundsFault → Type 0
GivesColumns outcome (Ok a) = outcome ≡ Ok a
GivesColumns outcome (Err e) = e ≢ fault.Memory → outcome ≡ Err e

-- what is told of a value that passes, over the hypothetical table with this number
abbrev pub told : {A : Type 0} → ℕ → Result A Wide → Result A BoundsFault
told hypo (Ok a) = Ok a
told hypo (Err wide) = Err (fault.Wide hypo wide.number)

-- whether a row of the table may change; without a condition every row may
unfoldable pub inside : ℕ → Option Cond → List Value → Result Bool BoundsFault
inside hypo None row = Ok true
inside hypo (Some test) row = told hypo (truth_asked (row ∷ []) test)

-- a bound over a row of the table, at most 10^15 in size
unfoldable pub bound_asked : ℕ → Expr → List Value → Result ℤ BoundsFault
bound_asked hypo bound row = and_then (told hypo (asked (row ∷ []) bound)) (λ n. if nat_lt (10 ^ 15) (unsigned_abs n) then Err (fault.Wide hypo n) else Ok n)

-- the column of a cell: first its lower bound is asked, then its upper one, which is not to be below
unfoldable pub cell_column : ℕ → Bool → ℕ → List Value → QBound → Result WorldColumn BoundsFault
cell_column hypo droppable at row bound = and_then (bound_asked hypo bound.lo row) (λ lo. and_then (bound_asked hypo bound.hi row) (λ hi.
    if int_lt hi lo then Err (fault.EmptyBounds hypo (at + 1))
    else Ok (record { hypo = hypo; row = at; cell = Some bound.column; droppable = droppable; lo = lo; hi = hi })))

-- the column of a row's presence
abbrev pub presence_column : ℕ → ℕ → WorldColumn
presence_column hypo at = record { hypo = hypo; row = at; cell = None; droppable = true; lo = pos 0; hi = pos 1 }

-- one column more; there are at most 20,000,000
unfoldable pub with_column : WorldColumn → List WorldColumn → Result (List WorldColumn) BoundsFault
with_column column made = if nat_lt (length made) 20000000 then Ok (made ++ column ∷ []) else Err fault.TooManyWorldColumns

-- with the column of a row's presence, where the row may be left out
unfoldable pub with_presence : ℕ → Bool → ℕ → List WorldColumn → Result (List WorldColumn) BoundsFault
with_presence hypo droppable at made = if droppable then with_column (presence_column hypo at) made else Ok made

-- a cell's bounds stand before the count of its column
unfoldable pub with_cell : ℕ → Bool → ℕ → List Value → ℕ → QBound → List WorldColumn → Result (List WorldColumn) BoundsFault
with_cell hypo droppable at row place bound made = and_then (cell_column hypo droppable at row bound) (λ column. with_column column made)

-- the columns of a row of the table: none where it may not change, else its presence and its set columns as written
unfoldable pub with_row : ℕ → QHypo → ℕ → List Value → List WorldColumn → Result (List WorldColumn) BoundsFault
with_row number hypo at row made = and_then (inside number hypo.filter row) (λ may_change.
    if may_change then and_then (with_presence number hypo.droppable at made) (λ more. turns (with_cell number hypo.droppable at row) 0 hypo.set more) else Ok made)

-- the columns of a hypothetical table, row by row
unfoldable pub with_hypo : Tables → ℕ → QHypo → List WorldColumn → Result (List WorldColumn) BoundsFault
with_hypo tables number hypo made = turns (with_row number hypo) 0 (rows_of tables hypo.table) made

-- the columns of a query, by hypothetical table, or the first fault of them
unfoldable pub columns_of : Query → Tables → Result (List WorldColumn) BoundsFault
columns_of query tables = turns (with_hypo tables) 0 query.hypos []

-- as few hypothetical tables and rows as texts and tables have
pub record IsSmall (query : Query) (tables : Tables) : Type 0 where
  pub hypos : length query.hypos < 4294967296
  pub rows : All (λ rows. length rows ≤ 200000) tables
