use Rattle.std.proofs.Common.{arith, rules}
use Rattle.tiql_check.specs.Selects.{with_source}
use Rattle.tiql_check.proofs.Turns.{turn-step, turn-err, turn-end}
use Rattle.tiql_check.proofs.select.check_sources.Goals as goal

pub loop-tree-preserved : goal.loop-tree-preserved
loop-tree-preserved c = turn-step (with_source c.args.known.now) c.args.trees.now _ _ _ _ _ (omega arith) c.tree-item.is c.in_ok-add_source.ensures c.loop-tree.invariant

pub returns-in_err-add_source : goal.returns-in_err-add_source
returns-in_err-add_source c = search (rules, turn-err (with_source c.args.known.now) c.args.trees.now _ _ _ _ _ (omega arith) c.tree-item.is c.in_err-add_source.ensures c.loop-tree.invariant)

pub returns : goal.returns
returns c = turn-end (with_source c.args.known.now) c.args.trees.now _ _ _ (omega arith) c.loop-tree.invariant
