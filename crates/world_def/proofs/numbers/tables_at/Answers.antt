use Rattle.std.proofs.Common.{◌∙◌, ap, ap₂, arith, rules, take}
use Rattle.world_def.specs.Worlds.{leading, of_hypo, rows_at}
use Rattle.world_def.proofs.Walks.{within_list}
use Rattle.world_def.proofs.NumberWalks.{tables_step, tables_end}
use Rattle.world_def.proofs.numbers.tables_at.Goals as goal

pub loop-at-preserved : goal.loop-at-preserved
loop-at-preserved c = record {
  so_far = tables_step c.args.tables.now c.args.hypos.now c.args.columns.now c.args.numbers.now c.loop-at.at c.loop-at.from c.leading_hypo-end.result _ _ c.in_ok-table.table c.loop-at.made _ _ (omega arith) c.index-hypos-at.is (c.leading_hypo-end.ensures.value ∙ ap (leading (of_hypo c.loop-at.at)) c.behind-rest.ensures) c.rows_of-bases.ensures.value
      (c.in_ok-table.ensures ∙ ap₂ (rows_at 0 c.rows_of-bases.result.now) (c.head-mine.ensures ∙ ap (take c.leading_hypo-end.result) c.behind-rest.ensures) (c.head-here.ensures ∙ ap (take c.leading_hypo-end.result) c.behind-later.ensures)) (search rules) c.loop-at.invariant.so_far;
  columns = within_list _ _ _ _ c.behind-rest.ensures c.loop-at.invariant.columns c.leading_hypo-end.ensures.room;
}

pub returns : goal.returns
returns c = tables_end c.args.tables.now c.args.hypos.now _ _ c.loop-at.at _ _ (omega arith) c.loop-at.invariant.so_far
