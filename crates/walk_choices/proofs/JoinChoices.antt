-- the possible rows that the combinations of a select leave
use Rattle.std.proofs.Common.{ℕ, ◌==◌, Bool, true, false, List, [], ◌∷◌, ◌++◌, length, map, filter}
use Rattle.std.specs.Prelude.{nat_lt, ◌||◌}
use Rattle.ip_rows.specs.declared.Bounds.{Bounds}
use Rattle.tiql_query.specs.Kinds.{Scope}
use Rattle.tiql_query.specs.declared.relation.Column.{Column}
use Rattle.tiql_query.specs.declared.expression.Expr.{Expr}
use Rattle.tiql_query.specs.declared.condition.Cond.{Cond}
use Rattle.tiql_query.specs.declared.view.Select.{Select}
use Rattle.row_values.specs.Asked.{text_of, value_of}
use Rattle.view_select.specs.Selects.{is_grouped}
use Rattle.view_select.specs.Asking.{conjuncts, others_of, keys_of}
use Rattle.prov_fold.specs.Graphs.{Graph}
use Rattle.sym_rows.specs.declared.fault.WalkFault.TheVariants as fault
use Rattle.sym_rows.specs.declared.row.Cell.TheVariants as cells
use Rattle.sym_rows.specs.declared.row.SymRow.{SymRow}
use Rattle.sym_rows.specs.Hypos.{is_unknown_in}
use Rattle.sym_rows.specs.Walks.{through, told}
use Rattle.sym_values.specs.Numbers.{fixed_rows, plain, number_of}
use Rattle.sym_values.specs.Conditions.{test_of}
use Rattle.sym_values.specs.Tests.{tests_walk}
use Rattle.view_join.specs.declared.combine.Made.{Made}
use Rattle.view_join.specs.Combos.{fixed_walk, all_there, presence_walk, parts_of, key_cell, part_cell, parts_walk, cells_walk, nothing_yet, counted, with_row, taken, by_presence, one_walk, combos, is_counted, select_walk}
use Rattle.walk_choices.proofs.RuleChoices.{IsOver}
use Rattle.walk_choices.proofs.WalkChoices.{WalkedOver, ok_over, err_over, bind_over, cond_over, each_over, through_over, told_over, and_walk}
use Rattle.walk_choices.proofs.ValueChoices.{number_over, test_over, tests_over}

module _ (sides : List Bounds) (scope : Scope) where
  -- ---- whether a combination is there

  fixed_over : (rows : List SymRow) (tests : List Cond) (g : Graph) → IsOver sides g → WalkedOver sides (fixed_walk scope rows tests g)
  unfolding fixed_walk
  fixed_over rows [] g over = ok_over sides (true, g) over
  fixed_over rows (test ∷ tests) g over =
      bind_over sides (test_of scope rows test g) _ (test_over sides scope rows test g over)
      (λ id more. cond_over sides (id.0 == 0) _ _ (ok_over sides (false, id.1) more) (fixed_over rows tests id.1 more))

  there_over : (rows : List SymRow) (tests : List Cond) (g : Graph) → IsOver sides g → WalkedOver sides (all_there scope rows tests g)
  unfolding all_there
  there_over rows tests g over =
      bind_over sides (tests_walk scope rows tests g) _ (tests_over sides scope rows tests g over)
      (λ truths more. and_walk sides (map (λ row. row.presence) rows ++ truths.0) truths.1 more)

  presence_over : (rows : List SymRow) (fixed unknown : List Cond) (g : Graph) → IsOver sides g → WalkedOver sides (presence_walk scope rows fixed unknown g)
  unfolding presence_walk
  presence_over rows fixed unknown g over =
      bind_over sides (fixed_walk scope rows fixed g) _ (fixed_over rows fixed g over)
      (λ meets more. cond_over sides meets.0 _ _ (there_over rows unknown meets.1 more) (ok_over sides (0, meets.1) more))

  -- ---- what it leaves

  part_over : (rows : List SymRow) (unknown : Bool) (part : Expr) (g : Graph) → IsOver sides g → WalkedOver sides (part_cell scope rows unknown part g)
  unfolding part_cell
  part_over rows true part g over =
      bind_over sides (number_of scope rows part g) _ (number_over sides scope rows part g over) (λ made more. ok_over sides (cells.Number made.0, made.1) more)
  part_over rows false part g over =
      bind_over sides (told (plain (fixed_rows rows) part) g) _ (told_over sides (plain (fixed_rows rows) part) g over)
      (λ n more. ok_over sides (cells.Fixed (value_of (text_of (fixed_rows rows) part) n.0), n.1) more)

  parts_over : (rows : List SymRow) (grouped : Bool) (columns : List Column) (parts : List Expr) (g : Graph) → IsOver sides g → WalkedOver sides (parts_walk scope rows grouped columns parts g)
  unfolding parts_walk
  parts_over rows grouped columns parts g over =
      each_over sides (λ place part. part_cell scope rows (grouped || is_unknown_in columns place) part) (λ place part g more. part_over rows (grouped || is_unknown_in columns place) part g more) 0 parts g over

  module _ (columns : List Column) (select : Select) where
    cells_over : (rows : List SymRow) (g : Graph) → IsOver sides g → WalkedOver sides (cells_walk scope columns select rows g)
    unfolding cells_walk
    cells_over rows g over =
        bind_over sides (parts_walk scope rows (is_grouped select) columns (parts_of select) g) _ (parts_over rows (is_grouped select) columns (parts_of select) g over)
        (λ made more. ok_over sides (map (key_cell rows) (keys_of select) ++ made.0, made.1) more)

    -- ---- one combination

    taken_over : (rows : List SymRow) (presence : ℕ) (made : Made) (g : Graph) → IsOver sides g → WalkedOver sides (taken scope columns select rows presence made g)
    unfolding taken
    taken_over rows presence made g over =
        cond_over sides (nat_lt (length made.rows) 200000) _ _
        (bind_over sides (cells_walk scope columns select rows g) _ (cells_over rows g over) (λ cells more. ok_over sides (with_row made presence cells.0, cells.1) more))
        (err_over sides (fault.TooManyRows 200000, g) over)

    by_over : (rows : List SymRow) (made : Made) (presence : ℕ) (g : Graph) → IsOver sides g → WalkedOver sides (by_presence scope columns select rows made presence g)
    unfolding by_presence
    by_over rows made presence g over = cond_over sides (presence == 0) _ _ (ok_over sides (counted made, g) over) (taken_over rows presence made g over)

    one_over : (rows : List SymRow) (made : Made) (g : Graph) → IsOver sides g → WalkedOver sides (one_walk scope columns select rows made g)
    unfolding one_walk
    one_over rows made g over =
        let fixed = others_of scope false (conjuncts select.filter) in
        let unknown = others_of scope true (conjuncts select.filter) in
        cond_over sides (nat_lt made.combos 10000000) _ _
        (bind_over sides (presence_walk scope rows fixed unknown g) _ (presence_over rows fixed unknown g over) (λ presence more. by_over rows made presence.0 presence.1 more))
        (err_over sides (fault.TooManyRows 10000000, g) over)

    -- ---- all combinations

    pub select_over : (sources : List (List SymRow)) (g : Graph) → IsOver sides g → WalkedOver sides (select_walk scope columns select sources g)
    unfolding select_walk
    select_over sources g over =
        bind_over sides (through (one_walk scope columns select) (filter (is_counted scope select) (combos sources)) nothing_yet g) _
        (through_over sides (one_walk scope columns select) one_over (filter (is_counted scope select) (combos sources)) nothing_yet g over)
        (λ made more. ok_over sides (made.0.rows, made.1) more)
