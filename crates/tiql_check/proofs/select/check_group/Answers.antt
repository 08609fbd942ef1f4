use Rattle.std.proofs.Common.{arith, rules}
use Rattle.tiql_check.specs.Selects.{with_group}
use Rattle.tiql_check.specs.Scopes.{scope_of}
use Rattle.tiql_check.proofs.Turns.{turn-step, turn-err, turn-end}
use Rattle.tiql_check.proofs.select.check_group.Goals as goal

pub loop-column-preserved : goal.loop-column-preserved
loop-column-preserved c = turn-step (with_group (scope_of c.args.scope.now)) c.args.columns.now _ _ _ _ _ (omega arith) c.column-item.is c.in_ok-add_group.ensures c.loop-column.invariant

pub returns-in_err-add_group : goal.returns-in_err-add_group
returns-in_err-add_group c = search (rules, turn-err (with_group (scope_of c.args.scope.now)) c.args.columns.now _ _ _ _ _ (omega arith) c.column-item.is c.in_err-add_group.ensures c.loop-column.invariant)

pub returns : goal.returns
returns c = turn-end (with_group (scope_of c.args.scope.now)) c.args.columns.now _ _ _ (omega arith) c.loop-column.invariant
