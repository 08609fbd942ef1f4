use Rattle.std.proofs.Common.{◌∙◌, ap, ap₂, arith, take, List, ℤ, ◌++◌}
use Rattle.tiql_query.specs.declared.world_column.WorldColumn.{WorldColumn}
use Rattle.world_def.specs.Worlds.{leading, of_row, is_left_out, one_row, row_with}
use Rattle.world_def.proofs.Walks.{within_list}
use Rattle.world_def.proofs.NumberWalks.{picks_step, rows_step, rows_end, made_all}
use Rattle.world_def.proofs.numbers.table_with.Goals as goal

pub loop-at-preserved : goal.loop-at-preserved
loop-at-preserved c = record {
  picks = picks_step c.args.bases.now c.args.columns.now c.args.numbers.now c.loop-at.at c.loop-at.from c.leading_row-end.result _ _ (omega arith) c.index-bases-at.is (c.leading_row-end.ensures.value ∙ ap (leading (of_row c.loop-at.at)) c.behind-rest.ensures) (c.is_left_out-gone.ensures ∙ ap₂ is_left_out (c.head-mine.ensures ∙ ap (take c.leading_row-end.result) c.behind-rest.ensures) (c.head-here.ensures ∙ ap (take c.leading_row-end.result) c.behind-later.ensures)) c.loop-at.made.picks _ _ (c.in_ok-made.ensures.picks ∙ ap₂ (λ (mine : List WorldColumn) (here : List ℤ). c.loop-at.made.picks ++ (one_row c.is_left_out-gone.result c.loop-at.at (row_with mine here c.index-bases-at.result)).picks) (c.head-mine.ensures ∙ ap (take c.leading_row-end.result) c.behind-rest.ensures) (c.head-here.ensures ∙ ap (take c.leading_row-end.result) c.behind-later.ensures)) c.loop-at.invariant.picks;
  rows = rows_step c.args.bases.now c.args.columns.now c.args.numbers.now c.loop-at.at c.loop-at.from c.leading_row-end.result _ _ (omega arith) c.index-bases-at.is (c.leading_row-end.ensures.value ∙ ap (leading (of_row c.loop-at.at)) c.behind-rest.ensures) (c.is_left_out-gone.ensures ∙ ap₂ is_left_out (c.head-mine.ensures ∙ ap (take c.leading_row-end.result) c.behind-rest.ensures) (c.head-here.ensures ∙ ap (take c.leading_row-end.result) c.behind-later.ensures)) c.loop-at.made.rows _ _ (c.in_ok-made.ensures.rows ∙ ap₂ (λ (mine : List WorldColumn) (here : List ℤ). c.loop-at.made.rows ++ (one_row c.is_left_out-gone.result c.loop-at.at (row_with mine here c.index-bases-at.result)).rows) (c.head-mine.ensures ∙ ap (take c.leading_row-end.result) c.behind-rest.ensures) (c.head-here.ensures ∙ ap (take c.leading_row-end.result) c.behind-later.ensures)) c.loop-at.invariant.rows;
  columns = within_list _ _ _ _ c.behind-rest.ensures c.loop-at.invariant.columns c.leading_row-end.ensures.room;
}

pub returns : goal.returns
returns c = made_all c.loop-at.made _ _ (rows_end c.args.bases.now _ _ c.loop-at.at (omega arith)) c.loop-at.invariant.picks c.loop-at.invariant.rows
