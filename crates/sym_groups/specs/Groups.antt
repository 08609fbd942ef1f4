-- DISTINCT and the groups of a select, over the possible rows that its combinations left
use Rattle.std.specs.Prelude.{ℕ, ◌==◌, ℤ, pos, Bool, not, ◌&&◌, if◌then◌else◌, List, [], ◌∷◌, ◌++◌, length, map, take, Option, Some, None, unwrap_or}
use Rattle.std.specs.List.{list_any}
use Rattle.std.specs.Option.{option_to_list}
use Rattle.std.specs.Ordering.{is_eq}
use Rattle.base_kit.specs.Orders.{row_order}
use Rattle.base_kit.specs.declared.value.Value.{Value}
use Rattle.base_kit.specs.declared.value.Value.TheVariants.{Int}
use Rattle.tiql_query.specs.declared.expression.At.{At}
use Rattle.tiql_query.specs.declared.relation.Column.{Column}
use Rattle.tiql_query.specs.declared.view.Item.{Item}
use Rattle.tiql_query.specs.declared.view.Select.{Select}
use Rattle.view_select.specs.Selects.{distinct, is_extreme}
use Rattle.prov_arena.specs.Formulas.{Formula, LinNode}
use Rattle.prov_fold.specs.Graphs.{Graph, node}
use Rattle.prov_fold.specs.Rules as rule
use Rattle.sym_rows.specs.declared.row.Cell.{Cell}
use Rattle.sym_rows.specs.declared.row.Cell.TheVariants as cells
use Rattle.sym_rows.specs.declared.row.SymRow.{SymRow}
use Rattle.sym_rows.specs.Walks.{Walk, gives, ◌>>=◌, by_rule}
use Rattle.sym_groups.specs.Aggregates.{item_cells}

-- ---- rows of one key

-- the constant of a number
abbrev pub constant_by : Formula → ℤ
constant_by (LinNode constant terms) = constant
constant_by other = pos 0

-- the value of a cell that is the same in every world
unfoldable pub value_at : Graph → Cell → Value
value_at g (cells.Fixed value) = value
value_at g (cells.Number id) = Int (constant_by (node g id))

abbrev pub values_at : Graph → List Cell → List Value
values_at g row = map (value_at g) row

-- of rows beside their keys those with this one
unfoldable pub beside : List (List Value) → List SymRow → List Value → List SymRow
beside [] rows key = []
beside (one ∷ ones) [] key = []
beside (one ∷ ones) (row ∷ rows) key = if is_eq (row_order one key) then row ∷ beside ones rows key else beside ones rows key

-- the rows of each key together, by rising keys
unfoldable pub together : List (List Value) → List SymRow → List (List SymRow)
together keys rows = map (beside keys rows) (distinct keys)

-- ---- a row for each group

-- the rows that are made of groups in turn
unfoldable pub rows_of : (List SymRow → Walk (Option SymRow)) → List (List SymRow) → Walk (List SymRow)
rows_of f [] g = gives [] g
rows_of f (group ∷ groups) g = f group g >>= λ row g. rows_of f groups g >>= λ more g. gives (option_to_list row ++ more) g

-- the truth that one of the rows is there
unfoldable pub presence_of : List SymRow → Walk ℕ
presence_of group g = by_rule (rule.or_of (map (λ row. row.presence) group)) g

-- a row with these cells; what is nowhere there is no row
unfoldable pub row_with : ℕ → Walk (List Cell) → Walk (Option SymRow)
row_with there made g = if there == 0 then gives None g else (made g >>= λ cells g. gives (Some (record { presence = there; cells = cells })) g)

-- ---- DISTINCT

-- the cells of the first row
unfoldable pub first_cells : List SymRow → List Cell
first_cells [] = []
first_cells (row ∷ rows) = row.cells

-- equal rows as one
unfoldable pub joined : List SymRow → Walk (Option SymRow)
joined group g = presence_of group g >>= λ there g. row_with there (gives (first_cells group)) g

-- the rows, each of them once, in rising order of values
unfoldable pub distinct_rows : List SymRow → Walk (List SymRow)
distinct_rows rows g = rows_of joined (together (map (λ row. values_at g row.cells) rows) rows) g

-- ---- groups

-- one group of all rows is there in every world, unless an item is a least or a greatest, which there is none of nothing
unfoldable pub is_sure : List At → List Item → Bool
is_sure keys made = (length keys == 0) && not (list_any is_extreme made)

unfoldable pub group_presence : Bool → List SymRow → Walk ℕ
group_presence sure group g = if sure then gives 1 g else presence_of group g

-- the row of a group
unfoldable pub group_row : List Column → List At → List Item → List SymRow → Walk (Option SymRow)
group_row columns keys made group g = group_presence (is_sure keys made) group g >>= λ there g. row_with there (item_cells columns keys made group) g

-- the groups by so many first values, one of all rows where there are none
unfoldable pub groups_in : ℕ → Graph → List SymRow → List (List SymRow)
groups_in count g rows = if count == 0 then rows ∷ [] else together (map (λ row. values_at g (take count row.cells)) rows) rows

-- the columns of GROUP BY
abbrev pub keys_of : Select → List At
keys_of select = unwrap_or select.group []

-- a row for each group
unfoldable pub group_rows : List Column → Select → List SymRow → Walk (List SymRow)
group_rows columns select rows g = rows_of (group_row columns (keys_of select) select.items) (groups_in (length (keys_of select)) g rows) g
