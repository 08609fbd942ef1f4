use Rattle.std.proofs.Common.{arith, rules}
use Rattle.tiql_check.specs.Views.{with_arm}
use Rattle.tiql_check.proofs.Turns.{turn-step, turn-err, turn-end}
use Rattle.tiql_check.proofs.view.check_arms.Goals as goal

pub loop-tree-preserved : goal.loop-tree-preserved
loop-tree-preserved c = turn-step (with_arm c.args.known.now) c.args.trees.now _ _ _ _ _ (omega arith) c.tree-item.is c.in_ok-add_arm.ensures c.loop-tree.invariant

pub returns-in_err-add_arm : goal.returns-in_err-add_arm
returns-in_err-add_arm c = search (rules, turn-err (with_arm c.args.known.now) c.args.trees.now _ _ _ _ _ (omega arith) c.tree-item.is c.in_err-add_arm.ensures c.loop-tree.invariant)

pub returns : goal.returns
returns c = turn-end (with_arm c.args.known.now) c.args.trees.now _ _ _ (omega arith) c.loop-tree.invariant
