use Rattle.std.proofs.Common.{◌∙◌, ap, arith, take, List, ◌++◌}
use Rattle.std.specs.Prelude.{option_map}
use Rattle.tiql_query.specs.declared.world_column.WorldColumn.{WorldColumn}
use Rattle.world_def.specs.Worlds.{leading, of_hypo, table_numbers}
use Rattle.world_def.proofs.Walks.{within_list}
use Rattle.world_def.proofs.NumberWalks.{world_step, world_end}
use Rattle.world_def.proofs.numbers.world_numbers.Goals as goal

pub loop-at-preserved : goal.loop-at-preserved
loop-at-preserved c = record {
  so_far = world_step c.args.tables.now c.args.world.now c.args.hypos.now c.args.columns.now c.loop-at.at c.loop-at.from c.leading_hypo-end.result _ _ _ c.loop-at.made _ _ (omega arith) c.index-hypos-at.is (c.leading_hypo-end.ensures.value ∙ ap (leading (of_hypo c.loop-at.at)) c.behind-rest.ensures) c.rows_of-bases.ensures.value c.table_of.ensures
      (c.in_ok-made.ensures ∙ ap (λ (mine : List WorldColumn). c.loop-at.made ++ table_numbers c.rows_of-bases.result.now mine (option_map (λ t. t.now) c.table_of.result)) (c.head-mine.ensures ∙ ap (take c.leading_hypo-end.result) c.behind-rest.ensures)) c.loop-at.invariant.so_far;
  columns = within_list _ _ _ _ c.behind-rest.ensures c.loop-at.invariant.columns c.leading_hypo-end.ensures.room;
}

pub returns : goal.returns
returns c = world_end c.args.tables.now c.args.world.now c.args.hypos.now _ c.loop-at.at _ _ (omega arith) c.loop-at.invariant.so_far
