use Rattle.std.proofs.Common.{arith}
use Rattle.world_def.specs.Worlds.{of_row}
use Rattle.world_def.proofs.Walks.{same_number, other_number, leading_step, leading_here, leading_end}
use Rattle.sym_rows.proofs.hypo.leading_row.Goals as goal

pub returns-then-column-row-clause-value : goal.returns-then-column-row-clause-value
returns-then-column-row-clause-value c = leading_here (of_row c.args.row) c.args.columns.now c.loop-at.at _ _ (omega arith) (other_number _ _ c.if-column-row.true) c.loop-at.invariant

pub loop-at-preserved : goal.loop-at-preserved
loop-at-preserved c = leading_step (of_row c.args.row) c.args.columns.now c.loop-at.at _ _ (omega arith) (same_number _ _ c.if-column-row.false) c.loop-at.invariant

pub returns-clause-value : goal.returns-clause-value
returns-clause-value c = leading_end (of_row c.args.row) c.args.columns.now c.loop-at.at _ (omega arith) (omega arith) c.loop-at.invariant
