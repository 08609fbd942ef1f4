-- the possible rows of a view
use Rattle.std.proofs.Common.{List, [], ◌++◌, length}
use Rattle.std.specs.Prelude.{nat_lt}
use Rattle.ip_rows.specs.declared.Bounds.{Bounds}
use Rattle.tiql_query.specs.Kinds.{Scope}
use Rattle.tiql_query.specs.WellFormed.{scope_of}
use Rattle.tiql_query.specs.declared.relation.Column.{Column}
use Rattle.tiql_query.specs.declared.view.Select.{Select}
use Rattle.tiql_query.specs.declared.view.QView.{QView}
use Rattle.tiql_query.specs.declared.query.Query.{Query}
use Rattle.view_select.specs.Selects.{is_grouped}
use Rattle.prov_fold.specs.Graphs.{Graph}
use Rattle.sym_rows.specs.declared.fault.WalkFault.TheVariants as fault
use Rattle.sym_rows.specs.declared.row.SymRow.{SymRow}
use Rattle.sym_rows.specs.declared.row.Known.{Known}
use Rattle.view_join.specs.Combos.{select_walk}
use Rattle.view_join.specs.Sources.{sources_of}
use Rattle.view_agg.specs.Views.{finished, rows_of_select, few, select_more, view_walk}
use Rattle.walk_choices.proofs.RuleChoices.{IsOver}
use Rattle.walk_choices.proofs.WalkChoices.{WalkedOver, ok_over, err_over, bind_over, cond_over, through_over}
use Rattle.walk_choices.proofs.JoinChoices.{select_over}
use Rattle.walk_choices.proofs.GroupChoices.{distinct_over, group_rows_over}

module _ (sides : List Bounds) where
  finished_over : (columns : List Column) (select : Select) (left : List SymRow) (g : Graph) → IsOver sides g → WalkedOver sides (finished columns select left g)
  unfolding finished
  finished_over columns select left g over =
      cond_over sides (is_grouped select) _ _ (group_rows_over sides columns select left g over)
      (cond_over sides select.distinct _ _ (distinct_over sides left g over) (ok_over sides (left, g) over))

  rows_over : (scope : Scope) (columns : List Column) (select : Select) (sources : List (List SymRow)) (g : Graph) → IsOver sides g → WalkedOver sides (rows_of_select scope columns select sources g)
  unfolding rows_of_select
  rows_over scope columns select sources g over =
      bind_over sides (select_walk scope columns select sources g) _ (select_over sides scope columns select sources g over) (λ left more. finished_over columns select left.0 left.1 more)

  few_over : (rows : List SymRow) (g : Graph) → IsOver sides g → WalkedOver sides (few rows g)
  few_over rows g over = cond_over sides (nat_lt 200000 (length rows)) _ _ (err_over sides (fault.TooManyRows 200000, g) over) (ok_over sides (rows, g) over)

  more_over : (query : Query) (columns : List Column) (known : Known) (select : Select) (so_far : List SymRow) (g : Graph) → IsOver sides g → WalkedOver sides (select_more query columns known select so_far g)
  unfolding select_more
  more_over query columns known select so_far g over =
      bind_over sides (rows_of_select (scope_of query select) columns select (sources_of known select) g) _ (rows_over (scope_of query select) columns select (sources_of known select) g over)
      (λ rows more. few_over (so_far ++ rows.0) rows.1 more)

  pub view_over : (query : Query) (known : Known) (view : QView) (g : Graph) → IsOver sides g → WalkedOver sides (view_walk query known view g)
  unfolding view_walk
  view_over query known view g over = through_over sides (select_more query view.columns known) (more_over query view.columns known) view.arms [] g over
