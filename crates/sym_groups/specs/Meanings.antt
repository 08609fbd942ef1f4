-- what the rows that are made of groups mean
use Rattle.std.specs.Prelude.{◌≡◌, ℕ, ◌+◌, ◌<◌, ℤ, pos, Bool, true, false, if◌then◌else◌, List, [], ◌∷◌, length, map, filter, flat_map, take, drop, All, Option}
use Rattle.std.specs.List.{list_any, AllZip}
use Rattle.std.specs.Option.{option_to_list}
use Rattle.base_kit.specs.declared.value.Value.{Value}
use Rattle.base_kit.specs.declared.value.Value.TheVariants.{Int}
use Rattle.tiql_query.specs.declared.expression.At.{At}
use Rattle.tiql_query.specs.declared.relation.Column as columns
use Rattle.tiql_query.specs.declared.view.Item.{Item}
use Rattle.tiql_query.specs.declared.view.Item.TheVariants as items
use Rattle.tiql_query.specs.declared.view.Select.{Select}
use Rattle.row_values.specs.Values.{Combination, number, total}
use Rattle.view_select.specs.Selects.{distinct, least, greatest, groups, is_grouped, row_of}
use Rattle.prov_arena.specs.declared.part.Pair.{Pair}
use Rattle.prov_arena.specs.Formulas.{LinNode}
use Rattle.prov_fold.specs.Graphs.{Graph, node}
use Rattle.prov_fold.specs.Values.{holds}
use Rattle.sym_rows.specs.declared.row.Cell.{Cell}
use Rattle.sym_rows.specs.declared.row.Cell.TheVariants as cells
use Rattle.sym_rows.specs.declared.row.SymRow.{SymRow}
use Rattle.sym_rows.specs.Cells.{cell_in, rows_in, is_there, AreRowsOf}
use Rattle.sym_rows.specs.Hypos.{is_unknown_in}
use Rattle.sym_values.specs.Left.{arguments_of, left_by}
use Rattle.sym_values.specs.Meanings.{IsRowFit, is_text}
use Rattle.sym_groups.specs.Aggregates.{pairs_of, group_value, key_place, argument_place}
use Rattle.sym_groups.specs.Groups.{keys_of, is_sure}

-- ---- DISTINCT

-- a cell is the same in every world: it is fixed, or the place of a constant
abbrev pub IsPlainCell : Graph → Cell → Type 0
IsPlainCell g (cells.Fixed value) = Unit {0}
IsPlainCell g (cells.Number id) = (constant : ℤ) × (node g id ≡ LinNode constant [])

abbrev pub ArePlain : Graph → List SymRow → Type 0
ArePlain g rows = All (λ row. All (IsPlainCell g) row.cells) rows

-- rows by formulas of the list, which fit the columns that all of the rows before fit
pub record AreDistinctOf (rows : List SymRow) (g : Graph) (made : List SymRow) : Type 0 where
  pub of : AreRowsOf g made
  pub fit : (columns : List columns.Column) → All (IsRowFit columns) rows → All (IsRowFit columns) made

-- those that are there are the rows that are there, each of them once, in rising order
abbrev pub AreDistinct : Graph → List SymRow → List SymRow → List ℤ → (ℕ → ℤ) → Type 0
AreDistinct g rows made numbers v = ArePlain g rows → rows_in v made ≡ distinct (rows_in v rows)

-- ---- aggregates

-- the numbers whose truths hold
unfoldable pub present : (ℕ → ℤ) → List Pair → List ℤ
present v pairs = map (λ pair. v pair.number) (filter (λ pair. holds v pair.truth) pairs)

abbrev pub IsSumOf : List Pair → ℕ → List ℤ → (ℕ → ℤ) → Type 0
IsSumOf pairs id numbers v = v id ≡ total (present v pairs)

abbrev pub IsLeastOf : List Pair → ℕ → List ℤ → (ℕ → ℤ) → Type 0
IsLeastOf pairs id numbers v = v id ≡ least (present v pairs)

abbrev pub IsGreatestOf : List Pair → ℕ → List ℤ → (ℕ → ℤ) → Type 0
IsGreatestOf pairs id numbers v = v id ≡ greatest (present v pairs)

abbrev pub IsCountOf : List ℕ → ℕ → List ℤ → (ℕ → ℤ) → Type 0
IsCountOf truths id numbers v = v id ≡ pos (length (filter (holds v) truths))

-- ---- the items of a group

-- what an item is over the rows of a group that are there
unfoldable pub item_then : (ℕ → ℤ) → Bool → List At → ℕ → List SymRow → Item → Value
item_then v unknown keys place group (items.Plain part) = if unknown then Int (number (group_value (key_place keys part) group)) else group_value (key_place keys part) group
item_then v unknown keys place group (items.Sum part) = Int (total (present v (pairs_of place group)))
item_then v unknown keys place group items.Count = Int (pos (length (filter (holds v) (map (λ row. row.presence) group))))
item_then v unknown keys place group (items.Min part) = Int (least (present v (pairs_of place group)))
item_then v unknown keys place group (items.Max part) = Int (greatest (present v (pairs_of place group)))

abbrev pub IsItemThen : Bool → List At → ℕ → List SymRow → Item → Cell → List ℤ → (ℕ → ℤ) → Type 0
IsItemThen unknown keys place group item cell numbers v = cell_in v cell ≡ item_then v unknown keys place group item

-- the items from one on
unfoldable pub items_from : (ℕ → ℤ) → List columns.Column → List At → List Item → List SymRow → ℕ → List Item → List Value
items_from v columns keys made group i [] = []
items_from v columns keys made group i (item ∷ others) =
    item_then v (is_unknown_in columns i) keys (argument_place keys made i) group item ∷ items_from v columns keys made group (i + 1) others

-- all items
abbrev pub items_then : (ℕ → ℤ) → List columns.Column → List At → List Item → List SymRow → List Value
items_then v columns keys made group = items_from v columns keys made group 0 made

abbrev pub AreItemsThen : List columns.Column → List At → List Item → List SymRow → List Cell → List ℤ → (ℕ → ℤ) → Type 0
AreItemsThen columns keys made group cells numbers v = map (cell_in v) cells ≡ items_then v columns keys made group

-- ---- a row for each group

-- a row that may be none
abbrev pub IsMaybeRowOf : Graph → Option SymRow → Type 0
IsMaybeRowOf g row = AreRowsOf g (option_to_list row)

-- there is a row with these values where it holds, and else none
abbrev pub IsRowWhere : ((ℕ → ℤ) → Bool) → ((ℕ → ℤ) → List Value) → Option SymRow → List ℤ → (ℕ → ℤ) → Type 0
IsRowWhere there values row numbers v = rows_in v (option_to_list row) ≡ (if there v then values v ∷ [] else [])

-- one of the rows is there
abbrev pub some_there : List SymRow → (ℕ → ℤ) → Bool
some_there group v = list_any (is_there v) group

-- a truth holds where this does
abbrev pub IsPresenceWhere : ((ℕ → ℤ) → Bool) → ℕ → List ℤ → (ℕ → ℤ) → Type 0
IsPresenceWhere there id numbers v = holds v id ≡ there v

-- a group is there in every world, or where one of its rows is
abbrev pub there_or : Bool → List SymRow → (ℕ → ℤ) → Bool
there_or sure group v = if sure then true else some_there group v

abbrev pub group_there : List At → List Item → List SymRow → (ℕ → ℤ) → Bool
group_there keys made group = there_or (is_sure keys made) group

-- likewise for each of some groups
abbrev pub AreRowsWhere : (List SymRow → (ℕ → ℤ) → Bool) → (List SymRow → (ℕ → ℤ) → List Value) → List (List SymRow) → List SymRow → List ℤ → (ℕ → ℤ) → Type 0
AreRowsWhere there values groups made numbers v = rows_in v made ≡ flat_map (λ group. if there group v then values group v ∷ [] else []) groups

-- ---- groups

abbrev pub IsFixedCell : Cell → Type 0
IsFixedCell (cells.Fixed value) = Unit {0}
IsFixedCell (cells.Number id) = ⊥

abbrev pub IsNumberCell : Cell → Type 0
IsNumberCell (cells.Fixed value) = ⊥
IsNumberCell (cells.Number id) = Unit {0}

-- what a combination of a grouped select left: so many fixed cells, and behind them so many numbers
pub record IsLeft (count arguments : ℕ) (row : SymRow) : Type 0 where
  pub width : length row.cells ≡ count + arguments
  pub fixed : All IsFixedCell (take count row.cells)
  pub numbers : All IsNumberCell (drop count row.cells)

-- an item that is no aggregate is a column of GROUP BY: it has a place among them
abbrev pub IsGroupItem : List At → Item → Type 0
IsGroupItem keys (items.Plain part) = key_place keys part < length keys
IsGroupItem keys other = Unit {0}

-- a column of the view is that of an item: unknown where the item is an aggregate, and else of the kind of the rows' values
abbrev pub IsItemColumn : List At → List SymRow → columns.Column → Item → Type 0
IsItemColumn keys rows column (items.Plain part) = (column.unknown ≡ true → column.text ≡ false) × All (λ row. column.text ≡ is_text (group_value (key_place keys part) (row ∷ []))) rows
IsItemColumn keys rows column other = (column.unknown ≡ true) × (column.text ≡ false)

-- the select is grouped, its items are those of the view's columns, and this is what its combinations left
pub record IsGroupFit (columns : List columns.Column) (select : Select) (rows : List SymRow) : Type 0 where
  pub grouped : is_grouped select ≡ true
  pub items : All (IsGroupItem (keys_of select)) select.items
  pub marks : AllZip (IsItemColumn (keys_of select) rows) columns select.items
  pub cells : All (IsLeft (length (keys_of select)) (length (arguments_of select.items))) rows

-- rows by formulas of the list, which fit the columns of the view
pub record AreGroupsOf (columns : List columns.Column) (select : Select) (rows : List SymRow) (g : Graph) (made : List SymRow) : Type 0 where
  pub of : AreRowsOf g made
  pub fit : IsGroupFit columns select rows → All (IsRowFit columns) made

-- where the rows that are there are what some combinations left, those that are made are the rows of the groups of these combinations
abbrev pub AreGroups : List columns.Column → Select → List SymRow → List SymRow → List ℤ → (ℕ → ℤ) → Type 0
AreGroups columns select rows made numbers v = (combos : List Combination) → IsGroupFit columns select rows → rows_in v rows ≡ map (left_by select) combos
    → rows_in v made ≡ map (row_of select.items) (groups (keys_of select) select.items combos)
