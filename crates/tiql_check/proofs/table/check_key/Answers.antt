use Rattle.std.proofs.Common.{arith, rules}
use Rattle.tiql_check.specs.Tables.{with_key_column}
use Rattle.tiql_check.proofs.Turns.{turn-step, turn-err, turn-end}
use Rattle.tiql_check.proofs.table.check_key.Goals as goal

pub loop-name-preserved : goal.loop-name-preserved
loop-name-preserved c = turn-step (with_key_column c.args.columns.now) c.args.names.now _ _ _ _ _ (omega arith) c.name-item.is c.in_ok-add_key_column.ensures c.loop-name.invariant

pub returns-in_err-add_key_column : goal.returns-in_err-add_key_column
returns-in_err-add_key_column c = search (rules, turn-err (with_key_column c.args.columns.now) c.args.names.now _ _ _ _ _ (omega arith) c.name-item.is c.in_err-add_key_column.ensures c.loop-name.invariant)

pub returns : goal.returns
returns c = turn-end (with_key_column c.args.columns.now) c.args.names.now _ _ _ (omega arith) c.loop-name.invariant
