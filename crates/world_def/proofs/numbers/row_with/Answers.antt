use Rattle.std.proofs.Common.{pos, None, false, arith, rules}
use Rattle.world_def.proofs.NumberWalks.{row_step, row_end}
use Rattle.world_def.proofs.numbers.row_with.Goals as goal

pub loop-at-preserved : goal.loop-at-preserved
loop-at-preserved c = row_step c.args.columns.now c.args.numbers.now c.loop-at.at (record { hypo = 0; row = 0; cell = None; droppable = false; lo = pos 0; hi = pos 0 }) (pos 0) c.loop-at.row c.with_number-row.result _ (omega arith) c.requires (search rules) c.loop-at.invariant

pub returns : goal.returns
returns c = row_end c.args.columns.now _ c.loop-at.at _ _ (omega arith) c.loop-at.invariant
