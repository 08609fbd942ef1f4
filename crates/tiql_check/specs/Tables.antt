-- tables
use Rattle.std.specs.Prelude.{ℕ, ◌==◌, Bool, false, if◌then◌else◌, List, [], ◌∷◌, ◌++◌, Option, Some, None, Result, Ok, Err}
use Rattle.std.specs.List.{list_any}
use Rattle.tiql_query.specs.declared.relation.Column.{Column}
use Rattle.tiql_query.specs.declared.relation.QTable.{QTable}
use Rattle.tiql_tree.specs.declared.tree.Spot.{Spot}
use Rattle.tiql_tree.specs.declared.tree.TreeColumn.{TreeColumn}
use Rattle.tiql_tree.specs.declared.tree.TreeTable.{TreeTable}
use Rattle.tiql_check.specs.declared.fault.SoundFault.{SoundFault}
use Rattle.tiql_check.specs.declared.fault.SoundFault.TheVariants as fault
use Rattle.tiql_check.specs.declared.scope.Found.{Found}
use Rattle.tiql_check.specs.declared.known.Known.{Known}
use Rattle.tiql_check.specs.Turns.{◌>>=◌, in_turn}
use Rattle.tiql_check.specs.Scopes.{same, column_named}
use Rattle.tiql_check.specs.Known.{is_taken}

-- a column of this name is among them
abbrev pub has_column : List ℕ → List Column → Bool
has_column name columns = list_any (λ column. same column.name name) columns

-- no two columns of a table have one name
abbrev pub with_column : List Column → TreeColumn → Result (List Column) SoundFault
with_column before column =
    if has_column column.name.name before then Err (fault.SameName column.name.place)
    else Ok (before ++ record { name = column.name.name; text = column.text; unknown = false } ∷ [])

-- the number is one of these
abbrev pub is_among : ℕ → List ℕ → Bool
is_among number numbers = list_any (λ other. other == number) numbers

-- a KEY names columns of its table, each once
abbrev pub key_column : List ℕ → Spot → Option Found → Result (List ℕ) SoundFault
key_column before name None = Err (fault.NoSuchKeyColumn name.place)
key_column before name (Some it) = if is_among it.number before then Err (fault.SameName name.place) else Ok (before ++ it.number ∷ [])

-- one more column of the KEY
abbrev pub with_key_column : List Column → List ℕ → Spot → Result (List ℕ) SoundFault
with_key_column columns before name = key_column before name (column_named name.name 0 columns)

-- a table: a new name, its columns and its KEY
unfoldable pub checked_table : Known → TreeTable → Result QTable SoundFault
checked_table known table = if is_taken known table.name then Err (fault.SameName table.name.place) else do
  columns ← in_turn with_column [] table.columns
  key ← in_turn (with_key_column columns) [] table.key
  Ok (record { name = table.name.name; columns = columns; key = key })
