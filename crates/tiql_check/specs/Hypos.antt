-- hypothetical tables
use Rattle.std.specs.Prelude.{ℕ, ◌==◌, Bool, true, false, if◌then◌else◌, List, [], ◌∷◌, ◌++◌, Option, Some, None, slice_get, Result, Ok, Err}
use Rattle.std.specs.List.{list_any}
use Rattle.base_kit.specs.declared.place.Place.{Place}
use Rattle.tiql_query.specs.declared.relation.Source.{Source}
use Rattle.tiql_query.specs.declared.relation.Source.TheVariants.{Table, Hypo, View}
use Rattle.tiql_query.specs.declared.relation.QTable.{QTable}
use Rattle.tiql_query.specs.declared.relation.QBound.{QBound}
use Rattle.tiql_query.specs.declared.relation.QHypo.{QHypo}
use Rattle.tiql_query.specs.WellFormed.{with_set}
use Rattle.tiql_tree.specs.declared.tree.Spot.{Spot}
use Rattle.tiql_tree.specs.declared.tree.TreeBound.{TreeBound}
use Rattle.tiql_tree.specs.declared.tree.TreeHypo.{TreeHypo}
use Rattle.tiql_check.specs.declared.fault.SoundFault.{SoundFault}
use Rattle.tiql_check.specs.declared.fault.SoundFault.TheVariants as fault
use Rattle.tiql_check.specs.declared.scope.Found.{Found}
use Rattle.tiql_check.specs.declared.known.Known.{Known}
use Rattle.tiql_check.specs.Turns.{◌>>=◌, in_turn}
use Rattle.tiql_check.specs.Scopes.{Scope, column_named}
use Rattle.tiql_check.specs.Expressions.{number_in}
use Rattle.tiql_check.specs.Conditions.{filter_in}
use Rattle.tiql_check.specs.Known.{is_taken, relation_named}
use Rattle.tiql_check.specs.Tables.{is_among}

-- the number of a table
abbrev pub table_number : Option Source → Option ℕ
table_number None = None
table_number (Some (Table n)) = Some n
table_number (Some (Hypo n)) = None
table_number (Some (View n)) = None

-- the number, which has to be there
abbrev pub numbered : Spot → Option ℕ → Result ℕ SoundFault
numbered spot None = Err (fault.UnknownName spot.place)
numbered spot (Some n) = Ok n

-- the table behind FROM is a declared table
abbrev pub base_number : Known → Spot → Result ℕ SoundFault
base_number known spot = numbered spot (table_number (relation_named spot.name known.relations))

-- the table's columns, by their bare names
abbrev pub bare_scope : QTable → Scope
bare_scope table = record { alias = None; columns = table.columns } ∷ []

-- an earlier bound is of this column
abbrev pub is_set : ℕ → List QBound → Bool
is_set number set = list_any (λ bound. bound.column == number) set

-- SET names columns of the table, each once, none of the KEY, and no texts
abbrev pub set_column : QTable → List QBound → Spot → Option Found → Result ℕ SoundFault
set_column table before name None = Err (fault.UnknownName name.place)
set_column table before name (Some it) =
    if is_set it.number before then Err (fault.SameName name.place)
    else if is_among it.number table.key then Err (fault.KeyUnknown name.place)
    else if it.kind.text then Err (fault.WrongType name.place)
    else Ok it.number

-- bounds are whole numbers
abbrev pub with_bound : Scope → QTable → List QBound → TreeBound → Result (List QBound) SoundFault
with_bound scope table before bound = do
  number ← set_column table before bound.name (column_named bound.name.name 0 table.columns)
  lo ← number_in scope bound.lo
  hi ← number_in scope bound.hi
  Ok (before ++ record { column = number; lo = lo.expr; hi = hi.expr } ∷ [])

-- only rows of a table with a KEY may be left out
abbrev pub droppable : QTable → Option Place → Result Bool SoundFault
droppable table None = Ok false
droppable table (Some place) = by_key table.key
  where
    by_key : List ℕ → Result Bool SoundFault
    by_key [] = Err (fault.KeyMissing place)
    by_key (number ∷ numbers) = Ok true

-- over the table with this number
unfoldable pub over_table : ℕ → QTable → TreeHypo → Result QHypo SoundFault
over_table number table hypo = do
  set ← in_turn (with_bound (bare_scope table) table) [] hypo.set
  filter ← filter_in (bare_scope table) hypo.filter
  dropped ← droppable table hypo.dropped
  Ok (record { name = hypo.name.name; table = number; columns = with_set set 0 table.columns; set = set; filter = filter; droppable = dropped })

-- the table with this number
abbrev pub table_at : Known → Spot → ℕ → Result QTable SoundFault
table_at known spot number = by_table (slice_get known.query.tables number)
  where
    by_table : Option QTable → Result QTable SoundFault
    by_table None = Err (fault.UnknownName spot.place)
    by_table (Some table) = Ok table

-- a hypothetical table: a new name over a declared table
unfoldable pub checked_hypo : Known → TreeHypo → Result QHypo SoundFault
checked_hypo known hypo = if is_taken known hypo.name then Err (fault.SameName hypo.name.place) else do
  number ← base_number known hypo.table
  table ← table_at known hypo.table number
  over_table number table hypo
