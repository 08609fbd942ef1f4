use Rattle.std.proofs.Common.{arith, rules}
use Rattle.tiql_check.specs.Hypos.{with_bound}
use Rattle.tiql_check.specs.Scopes.{scope_of}
use Rattle.tiql_check.proofs.Turns.{turn-step, turn-err, turn-end}
use Rattle.tiql_check.proofs.hypo.check_bounds.Goals as goal

pub loop-bound-preserved : goal.loop-bound-preserved
loop-bound-preserved c = turn-step (with_bound (scope_of c.args.scope.now) c.args.table.now) c.args.trees.now _ _ _ _ _ (omega arith) c.bound-item.is c.in_ok-add_bound.ensures c.loop-bound.invariant

pub returns-in_err-add_bound : goal.returns-in_err-add_bound
returns-in_err-add_bound c = search (rules, turn-err (with_bound (scope_of c.args.scope.now) c.args.table.now) c.args.trees.now _ _ _ _ _ (omega arith) c.bound-item.is c.in_err-add_bound.ensures c.loop-bound.invariant)

pub returns : goal.returns
returns c = turn-end (with_bound (scope_of c.args.scope.now) c.args.table.now) c.args.trees.now _ _ _ (omega arith) c.loop-bound.invariant
