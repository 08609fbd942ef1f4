use Rattle.std.proofs.Common.{arith}
use Rattle.world_def.specs.Worlds.{of_hypo}
use Rattle.world_def.proofs.Walks.{same_number, other_number, leading_step, leading_here, leading_end}
use Rattle.sym_rows.proofs.hypo.leading_hypo.Goals as goal

pub returns-then-column-hypo-clause-value : goal.returns-then-column-hypo-clause-value
returns-then-column-hypo-clause-value c = leading_here (of_hypo c.args.hypo) c.args.columns.now c.loop-at.at _ _ (omega arith) (other_number _ _ c.if-column-hypo.true) c.loop-at.invariant

pub loop-at-preserved : goal.loop-at-preserved
loop-at-preserved c = leading_step (of_hypo c.args.hypo) c.args.columns.now c.loop-at.at _ _ (omega arith) (same_number _ _ c.if-column-hypo.false) c.loop-at.invariant

pub returns-clause-value : goal.returns-clause-value
returns-clause-value c = leading_end (of_hypo c.args.hypo) c.args.columns.now c.loop-at.at _ (omega arith) (omega arith) c.loop-at.invariant
