use Rattle.std.proofs.Common.{arith}
use Rattle.std.proofs.lemmas.Bool.{lt-ltb, le-ltb}
use Rattle.world_def.proofs.Walks.{leading_step, leading_here, leading_end}
use Rattle.sym_rows.specs.Hypos.{before_hypo}
use Rattle.sym_rows.proofs.hypo.start_of.Goals as goal

pub returns-then-column-hypo-clause-value : goal.returns-then-column-hypo-clause-value
returns-then-column-hypo-clause-value c = leading_here (before_hypo c.args.hypo) c.args.columns.now c.loop-at.at _ _ (omega arith) (le-ltb _ _ c.if-column-hypo.true) c.loop-at.invariant

pub loop-at-preserved : goal.loop-at-preserved
loop-at-preserved c = leading_step (before_hypo c.args.hypo) c.args.columns.now c.loop-at.at _ _ (omega arith) (lt-ltb _ _ c.if-column-hypo.false) c.loop-at.invariant

pub returns-clause-value : goal.returns-clause-value
returns-clause-value c = leading_end (before_hypo c.args.hypo) c.args.columns.now c.loop-at.at _ (omega arith) (omega arith) c.loop-at.invariant
