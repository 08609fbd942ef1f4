use Rattle.std.proofs.Common.{arith, rules}
use Rattle.tiql_check.specs.Selects.{with_item}
use Rattle.tiql_check.specs.Scopes.{scope_of}
use Rattle.tiql_check.proofs.Turns.{turn-step, turn-err, turn-end}
use Rattle.tiql_check.proofs.item.check_items.Goals as goal

pub loop-tree-preserved : goal.loop-tree-preserved
loop-tree-preserved c = turn-step (with_item c.args.rules (scope_of c.args.scope.now) c.args.group.now) c.args.trees.now _ _ _ _ _ (omega arith) c.tree-item.is c.in_ok-add_item.ensures c.loop-tree.invariant

pub returns-in_err-add_item : goal.returns-in_err-add_item
returns-in_err-add_item c = search (rules, turn-err (with_item c.args.rules (scope_of c.args.scope.now) c.args.group.now) c.args.trees.now _ _ _ _ _ (omega arith) c.tree-item.is c.in_err-add_item.ensures c.loop-tree.invariant)

pub returns : goal.returns
returns c = turn-end (with_item c.args.rules (scope_of c.args.scope.now) c.args.group.now) c.args.trees.now _ _ _ (omega arith) c.loop-tree.invariant
