use Rattle.std.proofs.Common.{arith, rules}
use Rattle.tiql_check.specs.Views.{with_joined}
use Rattle.tiql_check.proofs.Turns.{turn-step, turn-err, turn-end}
use Rattle.tiql_check.proofs.view.join_columns.Goals as goal

pub loop-item-preserved : goal.loop-item-preserved
loop-item-preserved c = turn-step (with_joined c.args.columns.now) c.args.items.now _ _ _ _ _ (omega arith) c.item-item.is c.in_ok-add_joined.ensures c.loop-item.invariant

pub returns-in_err-add_joined : goal.returns-in_err-add_joined
returns-in_err-add_joined c = search (rules, turn-err (with_joined c.args.columns.now) c.args.items.now _ _ _ _ _ (omega arith) c.item-item.is c.in_err-add_joined.ensures c.loop-item.invariant)

pub returns : goal.returns
returns c = turn-end (with_joined c.args.columns.now) c.args.items.now _ _ _ (omega arith) c.loop-item.invariant
