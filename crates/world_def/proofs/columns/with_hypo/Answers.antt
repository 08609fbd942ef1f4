use Rattle.std.proofs.Common.{arith, rules}
use Rattle.world_def.specs.Columns.{with_row}
use Rattle.world_def.proofs.Turns.{turns-step, turns-err, turns-end}
use Rattle.world_def.proofs.columns.with_hypo.Goals as goal

pub loop-at-preserved : goal.loop-at-preserved
loop-at-preserved c = turns-step (with_row c.args.number c.args.hypo.now) c.args.rows.now _ _ _ _ _ (omega arith) c.index-rows-at.is (c.in_ok-made.ensures) c.loop-at.invariant

pub returns-in_err-made : goal.returns-in_err-made
returns-in_err-made c = search (rules, turns-err (with_row c.args.number c.args.hypo.now) c.args.rows.now _ _ _ _ _ (omega arith) c.index-rows-at.is (c.in_err-made.ensures) c.loop-at.invariant)

pub returns : goal.returns
returns c = turns-end (with_row c.args.number c.args.hypo.now) c.args.rows.now _ _ _ (omega arith) c.loop-at.invariant
