-- the aggregates of a group of possible rows: the numbers that are made of presences and arguments
use Rattle.std.specs.Prelude.{ℕ, ◌+◌, ◌==◌, ℤ, pos, negsuc, Bool, ◌&&◌, if◌then◌else◌, List, [], ◌∷◌, length, map, flat_map, take, Option, Some, None, slice_get}
use Rattle.std.specs.Option.{option_to_list}
use Rattle.base_kit.specs.declared.value.Value.{Value}
use Rattle.base_kit.specs.declared.value.Value.TheVariants.{Int}
use Rattle.tiql_query.specs.declared.expression.At.{At}
use Rattle.tiql_query.specs.declared.expression.Signed.{Signed}
use Rattle.tiql_query.specs.declared.expression.Expr.{Expr}
use Rattle.tiql_query.specs.declared.expression.Expr.TheOpen.{Expr-F}
use Rattle.tiql_query.specs.declared.expression.Expr.TheViews.{out-Expr}
use Rattle.tiql_query.specs.declared.relation.Column.{Column}
use Rattle.tiql_query.specs.declared.view.Item.{Item}
use Rattle.tiql_query.specs.declared.view.Item.TheVariants as items
use Rattle.prov_arena.specs.declared.part.Pair.{Pair}
use Rattle.prov_arena.specs.Formulas.{Formula, NotNode}
use Rattle.prov_fold.specs.declared.span.Scaled.{Scaled}
use Rattle.prov_fold.specs.Graphs.{Graph, node}
use Rattle.prov_fold.specs.Sums.{added_by}
use Rattle.prov_fold.specs.Rules as rule
use Rattle.sym_rows.specs.declared.row.Cell.{Cell}
use Rattle.sym_rows.specs.declared.row.Cell.TheVariants as cells
use Rattle.sym_rows.specs.declared.row.SymRow.{SymRow}
use Rattle.sym_rows.specs.Hypos.{is_unknown_in, settled, as_cell}
use Rattle.sym_rows.specs.Walks.{Walk, gives, ◌>>=◌, each, by_rule}
use Rattle.sym_values.specs.Left.{arguments_of}

-- ---- sums

-- 1 times a node, as a part of a sum
abbrev pub once : ℕ → Scaled
once id = record { factor = pos 1; number = id }

-- a sum, by a name of its own
unfoldable pub named_sum : ℤ → List Scaled → Walk ℕ
named_sum constant parts g = by_rule (rule.sum constant parts) g >>= λ id g. by_rule (rule.tot id) g

-- 1 where a truth holds, as a part of a sum: where the truth is that another does not hold, 1 less that one
abbrev pub counted_by : ℕ → Formula → Scaled
counted_by truth (NotNode kid) = record { factor = negsuc 0; number = kid }
counted_by truth other = once truth

abbrev pub base_by : Formula → ℕ
base_by (NotNode kid) = 1
base_by other = 0

unfoldable pub counted : Graph → ℕ → Scaled
counted g truth = counted_by truth (node g truth)

unfoldable pub base_in : Graph → ℕ → ℕ
base_in g truth = base_by (node g truth)

-- COUNT: how many of the truths hold
unfoldable pub count_of : List ℕ → Walk ℕ
count_of truths g = named_sum (pos (added_by (base_in g) truths)) (map (counted g) truths) g

-- a number where a truth holds, as a part of a sum
abbrev pub guarded : ℕ → Pair → Walk Scaled
guarded i pair g = by_rule (rule.guard pair.truth pair.number) g >>= λ id g. gives (once id) g

-- SUM: all guards are made, and then one sum
unfoldable pub sum_of : List Pair → Walk ℕ
sum_of pairs g = each guarded 0 pairs g >>= λ parts g. named_sum (pos 0) parts g

-- ---- least and greatest

-- MIN
abbrev pub least_of : List Pair → Walk ℕ
least_of pairs g = by_rule (rule.min_of pairs) g

-- a number with its sign turned
unfoldable pub turned : ℕ → Walk ℕ
turned id g = by_rule (rule.sum (pos 0) (record { factor = negsuc 0; number = id } ∷ [])) g

abbrev pub turned_pair : ℕ → Pair → Walk Pair
turned_pair i pair g = turned pair.number g >>= λ id g. gives (record { truth = pair.truth; number = id }) g

-- MAX: all numbers are turned, then their least is made, and it is turned back
unfoldable pub greatest_of : List Pair → Walk ℕ
greatest_of pairs g = each turned_pair 0 pairs g >>= λ others g. least_of others g >>= λ id g. turned id g

-- ---- the items of a group

-- a presence beside an argument; what is no number is no argument
abbrev pub pair_by : ℕ → Option Cell → Option Pair
pair_by presence (Some (cells.Number id)) = Some (record { truth = presence; number = id })
pair_by presence (Some (cells.Fixed value)) = None
pair_by presence None = None

unfoldable pub pair_of : ℕ → SymRow → Option Pair
pair_of place row = pair_by row.presence (slice_get row.cells place)

-- the presences beside the arguments in this column
unfoldable pub pairs_of : ℕ → List SymRow → List Pair
pairs_of place group = flat_map (λ row. option_to_list (pair_of place row)) group

-- the column's place among those of GROUP BY, and behind all of them where it is none of them
unfoldable pub place_of : At → List At → ℕ
place_of at [] = 0
place_of at (key ∷ keys) = if (key.source == at.source) && (key.column == at.column) then 0 else place_of at keys + 1

-- likewise of an item that is a column
abbrev pub place_by : List At → Expr-F Expr Signed → ℕ
place_by keys (Expr-F.Column at) = place_of at keys
place_by keys other = length keys

unfoldable pub key_place : List At → Expr → ℕ
key_place keys part = place_by keys (out-Expr part)

-- the value of a fixed cell
abbrev pub fixed_in : Option Cell → Value
fixed_in (Some (cells.Fixed value)) = value
fixed_in (Some (cells.Number id)) = Int (pos 0)
fixed_in None = Int (pos 0)

-- the value that a group has in a fixed column, which is that of its first row
unfoldable pub group_value : ℕ → List SymRow → Value
group_value place [] = Int (pos 0)
group_value place (row ∷ rows) = fixed_in (slice_get row.cells place)

-- what is made of an item, whose argument stands in this column
unfoldable pub item_cell : Bool → List At → ℕ → List SymRow → Item → Walk Cell
item_cell unknown keys place group (items.Plain part) g = settled unknown (group_value (key_place keys part) group) g
item_cell unknown keys place group (items.Sum part) g = sum_of (pairs_of place group) g >>= as_cell
item_cell unknown keys place group items.Count g = count_of (map (λ row. row.presence) group) g >>= as_cell
item_cell unknown keys place group (items.Min part) g = least_of (pairs_of place group) g >>= as_cell
item_cell unknown keys place group (items.Max part) g = greatest_of (pairs_of place group) g >>= as_cell

-- where the argument of an item stands: behind the columns of GROUP BY and the arguments of earlier items
unfoldable pub argument_place : List At → List Item → ℕ → ℕ
argument_place keys made i = length keys + length (arguments_of (take i made))

-- the items in order
unfoldable pub item_cells : List Column → List At → List Item → List SymRow → Walk (List Cell)
item_cells columns keys made group g = each (λ i item. item_cell (is_unknown_in columns i) keys (argument_place keys made i) group item) 0 made g
