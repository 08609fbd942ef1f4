-- views
use Rattle.std.specs.Prelude.{◌==◌, Bool, not, ◌||◌, if◌then◌else◌, List, [], ◌∷◌, ◌++◌, length, map, Option, Some, None, slice_get, Result, Ok, Err}
use Rattle.base_kit.specs.declared.place.Place.{Place}
use Rattle.tiql_query.specs.declared.relation.Column.{Column}
use Rattle.tiql_query.specs.declared.view.QView.{QView}
use Rattle.tiql_tree.specs.declared.tree.TreeSelect.{TreeSelect}
use Rattle.tiql_tree.specs.declared.tree.TreeView.{TreeView}
use Rattle.tiql_check.specs.declared.fault.SoundFault.{SoundFault}
use Rattle.tiql_check.specs.declared.fault.SoundFault.TheVariants as fault
use Rattle.tiql_check.specs.declared.known.Known.{Known}
use Rattle.tiql_check.specs.declared.item.ItemColumn.{ItemColumn}
use Rattle.tiql_check.specs.declared.view.Arms.{Arms}
use Rattle.tiql_check.specs.Turns.{◌>>=◌, in_turn}
use Rattle.tiql_check.specs.Conditions.{differ}
use Rattle.tiql_check.specs.Known.{is_taken}
use Rattle.tiql_check.specs.Selects.{checked_select, is_written}

-- a column as the first select has it
abbrev pub first_column : ItemColumn → Column
first_column it = record { name = it.name; text = it.kind.text; unknown = it.kind.unknown }

-- a later select has the same type there. A column is unknown where one select has it so
abbrev pub joined_column : List Column → ItemColumn → Option Column → Result (List Column) SoundFault
joined_column before it None = Err (fault.WrongType it.place)
joined_column before it (Some column) =
    if differ column.text it.kind.text then Err (fault.WrongType it.place)
    else Ok (before ++ record { name = column.name; text = column.text; unknown = column.unknown || it.kind.unknown } ∷ [])

-- the next column of a later select
abbrev pub with_joined : List Column → List Column → ItemColumn → Result (List Column) SoundFault
with_joined columns before it = joined_column before it (slice_get columns (length before))

-- the columns of a view with one more select, which has as many
unfoldable pub joined : Bool → List Column → Place → List ItemColumn → Result (List Column) SoundFault
joined first columns place others =
    if first then Ok (map first_column others)
    else if length columns == length others then in_turn (with_joined columns) [] others
    else Err (fault.WrongType place)

-- no select was checked yet
abbrev pub is_first : Arms → Bool
is_first before = not (is_written before.arms)

-- before the first select
abbrev pub no_arms : Arms
no_arms = record { arms = []; columns = [] }

-- one more select of a view
unfoldable pub with_arm : Known → Arms → TreeSelect → Result Arms SoundFault
with_arm known before select = do
  arm ← checked_select known (is_first before) select
  columns ← joined (is_first before) before.columns select.place arm.columns
  Ok (record { arms = before.arms ++ arm.select ∷ []; columns = columns })

-- a view: a new name, and its selects
unfoldable pub checked_view : Known → TreeView → Result QView SoundFault
checked_view known view = if is_taken known view.name then Err (fault.SameName view.name.place) else do
  all ← in_turn (with_arm known) no_arms view.arms
  Ok (record { name = view.name.name; columns = all.columns; arms = all.arms })
