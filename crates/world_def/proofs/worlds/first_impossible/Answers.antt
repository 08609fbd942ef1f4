use Rattle.std.proofs.Common.{◌∙◌, ap, arith, take}
use Rattle.std.specs.Prelude.{option_map}
use Rattle.world_def.specs.Worlds.{leading, of_hypo, table_possible}
use Rattle.world_def.proofs.Walks.{impossible_step, impossible_here, impossible_end, within_list}
use Rattle.world_def.proofs.worlds.first_impossible.Goals as goal

pub returns-then-not-is_possible_table : goal.returns-then-not-is_possible_table
returns-then-not-is_possible_table c = impossible_here c.args.tables.now c.args.world.now c.args.hypos.now c.args.columns.now c.loop-at.at c.loop-at.from c.leading_hypo-end.result _ _ _ _ _ (omega arith) c.index-hypos-at.is (c.leading_hypo-end.ensures.value ∙ ap (leading (of_hypo c.loop-at.at)) c.behind-rest.ensures) c.rows_of-bases.ensures.value c.table_of.ensures (c.is_possible_table.ensures ∙ ap (λ mine. table_possible c.rows_of-bases.result.now mine (option_map (λ t. t.now) c.table_of.result)) (c.head-mine.ensures ∙ ap (take c.leading_hypo-end.result) c.behind-rest.ensures)) c.if-not-is_possible_table.true c.loop-at.invariant.so_far

pub loop-at-preserved : goal.loop-at-preserved
loop-at-preserved c = record {
  so_far = impossible_step c.args.tables.now c.args.world.now c.args.hypos.now c.args.columns.now c.loop-at.at c.loop-at.from c.leading_hypo-end.result _ _ _ _ _ (omega arith) c.index-hypos-at.is (c.leading_hypo-end.ensures.value ∙ ap (leading (of_hypo c.loop-at.at)) c.behind-rest.ensures) c.rows_of-bases.ensures.value c.table_of.ensures (c.is_possible_table.ensures ∙ ap (λ mine. table_possible c.rows_of-bases.result.now mine (option_map (λ t. t.now) c.table_of.result)) (c.head-mine.ensures ∙ ap (take c.leading_hypo-end.result) c.behind-rest.ensures)) c.if-not-is_possible_table.false c.loop-at.invariant.so_far;
  columns = within_list _ _ _ _ c.behind-rest.ensures c.loop-at.invariant.columns c.leading_hypo-end.ensures.room;
}

pub returns : goal.returns
returns c = impossible_end c.args.tables.now c.args.world.now c.args.hypos.now _ c.loop-at.at _ _ (omega arith) c.surplus.ensures c.loop-at.invariant.so_far
