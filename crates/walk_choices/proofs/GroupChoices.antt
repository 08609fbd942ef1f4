-- the possible rows of DISTINCT and of groups, with their aggregates
use Rattle.std.proofs.Common.{ℕ, ◌==◌, ℤ, pos, negsuc, Bool, List, [], ◌∷◌, ◌++◌, length, map, Option, Some, None}
use Rattle.std.specs.Option.{option_to_list}
use Rattle.ip_rows.specs.declared.Bounds.{Bounds}
use Rattle.tiql_query.specs.declared.expression.At.{At}
use Rattle.tiql_query.specs.declared.relation.Column.{Column}
use Rattle.tiql_query.specs.declared.view.Item.{Item}
use Rattle.tiql_query.specs.declared.view.Item.TheVariants as items
use Rattle.tiql_query.specs.declared.view.Select.{Select}
use Rattle.prov_arena.specs.declared.part.Pair.{Pair}
use Rattle.prov_fold.specs.declared.span.Scaled.{Scaled}
use Rattle.prov_fold.specs.Graphs.{Graph}
use Rattle.prov_fold.specs.Sums.{added_by}
use Rattle.prov_fold.specs.Rules as rule
use Rattle.sym_rows.specs.declared.row.Cell.{Cell}
use Rattle.sym_rows.specs.declared.row.Cell.TheVariants as cells
use Rattle.sym_rows.specs.declared.row.SymRow.{SymRow}
use Rattle.sym_rows.specs.Hypos.{is_unknown_in, as_cell}
use Rattle.sym_rows.specs.Walks.{Walked, Walk, gives, ◌>>=◌, each, by_rule}
use Rattle.sym_groups.specs.Aggregates.{once, named_sum, counted, base_in, count_of, guarded, sum_of, least_of, turned, turned_pair, greatest_of, pairs_of, key_place, group_value, item_cell, argument_place, item_cells}
use Rattle.sym_groups.specs.Groups.{values_at, together, rows_of, presence_of, row_with, first_cells, joined, distinct_rows, is_sure, group_presence, group_row, groups_in, keys_of, group_rows}
use Rattle.walk_choices.proofs.RuleChoices.{IsOver}
use Rattle.walk_choices.proofs.WalkChoices.{WalkedOver, ok_over, bind_over, cond_over, each_over, settled_over, sum_walk, guard_walk, tot_walk, or_walk, min_walk}

module _ (sides : List Bounds) where
  -- ---- aggregates

  named_over : (constant : ℤ) (parts : List Scaled) (g : Graph) → IsOver sides g → WalkedOver sides (named_sum constant parts g)
  unfolding named_sum
  named_over constant parts g over = bind_over sides (by_rule (rule.sum constant parts) g) _ (sum_walk sides constant parts g over) (λ id more. tot_walk sides id.0 id.1 more)

  count_over : (truths : List ℕ) (g : Graph) → IsOver sides g → WalkedOver sides (count_of truths g)
  unfolding count_of
  count_over truths g over = named_over (pos (added_by (base_in g) truths)) (map (counted g) truths) g over

  guarded_over : (i : ℕ) (pair : Pair) (g : Graph) → IsOver sides g → WalkedOver sides (guarded i pair g)
  guarded_over i pair g over = bind_over sides (by_rule (rule.guard pair.truth pair.number) g) _ (guard_walk sides pair.truth pair.number g over) (λ id more. ok_over sides (once id.0, id.1) more)

  sum_over : (pairs : List Pair) (g : Graph) → IsOver sides g → WalkedOver sides (sum_of pairs g)
  unfolding sum_of
  sum_over pairs g over = bind_over sides (each guarded 0 pairs g) _ (each_over sides guarded guarded_over 0 pairs g over) (λ parts more. named_over (pos 0) parts.0 parts.1 more)

  turned_over : (id : ℕ) (g : Graph) → IsOver sides g → WalkedOver sides (turned id g)
  unfolding turned
  turned_over id g over = sum_walk sides (pos 0) (record { factor = negsuc 0; number = id } ∷ []) g over

  turned_pair_over : (i : ℕ) (pair : Pair) (g : Graph) → IsOver sides g → WalkedOver sides (turned_pair i pair g)
  turned_pair_over i pair g over = bind_over sides (turned pair.number g) _ (turned_over pair.number g over) (λ id more. ok_over sides (record { truth = pair.truth; number = id.0 }, id.1) more)

  greatest_over : (pairs : List Pair) (g : Graph) → IsOver sides g → WalkedOver sides (greatest_of pairs g)
  unfolding greatest_of
  greatest_over pairs g over =
      bind_over sides (each turned_pair 0 pairs g) _ (each_over sides turned_pair turned_pair_over 0 pairs g over)
      (λ others more. bind_over sides (least_of others.0 others.1) _ (min_walk sides others.0 others.1 more)
      (λ id last. turned_over id.0 id.1 last))

  -- ---- the items of a group

  cell_over : (walked : Walked ℕ) → WalkedOver sides walked → WalkedOver sides (walked >>= as_cell)
  cell_over walked over = bind_over sides walked _ over (λ id more. ok_over sides (cells.Number id.0, id.1) more)

  item_over : (unknown : Bool) (keys : List At) (place : ℕ) (group : List SymRow) (item : Item) (g : Graph) → IsOver sides g → WalkedOver sides (item_cell unknown keys place group item g)
  unfolding item_cell
  item_over unknown keys place group (items.Plain part) g over = settled_over sides unknown (group_value (key_place keys part) group) g over
  item_over unknown keys place group (items.Sum part) g over = cell_over (sum_of (pairs_of place group) g) (sum_over (pairs_of place group) g over)
  item_over unknown keys place group items.Count g over = cell_over (count_of (map (λ row. row.presence) group) g) (count_over (map (λ row. row.presence) group) g over)
  item_over unknown keys place group (items.Min part) g over = cell_over (least_of (pairs_of place group) g) (min_walk sides (pairs_of place group) g over)
  item_over unknown keys place group (items.Max part) g over = cell_over (greatest_of (pairs_of place group) g) (greatest_over (pairs_of place group) g over)

  items_over : (columns : List Column) (keys : List At) (made : List Item) (group : List SymRow) (g : Graph) → IsOver sides g → WalkedOver sides (item_cells columns keys made group g)
  unfolding item_cells
  items_over columns keys made group g over =
      each_over sides (λ i item. item_cell (is_unknown_in columns i) keys (argument_place keys made i) group item) (λ i item g more. item_over (is_unknown_in columns i) keys (argument_place keys made i) group item g more) 0 made g over

  -- ---- a row for each group

  rows_over : (f : List SymRow → Walk (Option SymRow)) → ((group : List SymRow) (g : Graph) → IsOver sides g → WalkedOver sides (f group g)) → (groups : List (List SymRow)) (g : Graph) → IsOver sides g → WalkedOver sides (rows_of f groups g)
  unfolding rows_of
  rows_over f h [] g over = ok_over sides ([], g) over
  rows_over f h (group ∷ groups) g over =
      bind_over sides (f group g) _ (h group g over)
      (λ row more. bind_over sides (rows_of f groups row.1) _ (rows_over f h groups row.1 more) (λ rest last. ok_over sides (option_to_list row.0 ++ rest.0, rest.1) last))

  presence_over : (group : List SymRow) (g : Graph) → IsOver sides g → WalkedOver sides (presence_of group g)
  unfolding presence_of
  presence_over group g over = or_walk sides (map (λ row. row.presence) group) g over

  row_over : (there : ℕ) (made : Walk (List Cell)) → ((g : Graph) → IsOver sides g → WalkedOver sides (made g)) → (g : Graph) → IsOver sides g → WalkedOver sides (row_with there made g)
  unfolding row_with
  row_over there made h g over =
      cond_over sides (there == 0) _ _ (ok_over sides (None, g) over)
      (bind_over sides (made g) _ (h g over) (λ cells more. ok_over sides (Some (record { presence = there; cells = cells.0 }), cells.1) more))

  joined_over : (group : List SymRow) (g : Graph) → IsOver sides g → WalkedOver sides (joined group g)
  unfolding joined
  joined_over group g over =
      bind_over sides (presence_of group g) _ (presence_over group g over)
      (λ there more. row_over there.0 (gives (first_cells group)) (λ g over. ok_over sides (first_cells group, g) over) there.1 more)

  pub distinct_over : (rows : List SymRow) (g : Graph) → IsOver sides g → WalkedOver sides (distinct_rows rows g)
  unfolding distinct_rows
  distinct_over rows g over = rows_over joined joined_over (together (map (λ row. values_at g row.cells) rows) rows) g over

  group_presence_over : (sure : Bool) (group : List SymRow) (g : Graph) → IsOver sides g → WalkedOver sides (group_presence sure group g)
  unfolding group_presence
  group_presence_over sure group g over = cond_over sides sure _ _ (ok_over sides (1, g) over) (presence_over group g over)

  group_row_over : (columns : List Column) (keys : List At) (made : List Item) (group : List SymRow) (g : Graph) → IsOver sides g → WalkedOver sides (group_row columns keys made group g)
  unfolding group_row
  group_row_over columns keys made group g over =
      bind_over sides (group_presence (is_sure keys made) group g) _ (group_presence_over (is_sure keys made) group g over)
      (λ there more. row_over there.0 (item_cells columns keys made group) (items_over columns keys made group) there.1 more)

  pub group_rows_over : (columns : List Column) (select : Select) (rows : List SymRow) (g : Graph) → IsOver sides g → WalkedOver sides (group_rows columns select rows g)
  unfolding group_rows
  group_rows_over columns select rows g over =
      rows_over (group_row columns (keys_of select) select.items) (group_row_over columns (keys_of select) select.items) (groups_in (length (keys_of select)) g rows) g over
