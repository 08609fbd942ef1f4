use Rattle.std.proofs.Common.{arith, rules}
use Rattle.tiql_check.specs.Tables.{with_column}
use Rattle.tiql_check.proofs.Turns.{turn-step, turn-err, turn-end}
use Rattle.tiql_check.proofs.table.check_columns.Goals as goal

pub loop-column-preserved : goal.loop-column-preserved
loop-column-preserved c = turn-step with_column c.args.trees.now _ _ _ _ _ (omega arith) c.column-item.is c.in_ok-add_column.ensures c.loop-column.invariant

pub returns-in_err-add_column : goal.returns-in_err-add_column
returns-in_err-add_column c = search (rules, turn-err with_column c.args.trees.now _ _ _ _ _ (omega arith) c.column-item.is c.in_err-add_column.ensures c.loop-column.invariant)

pub returns : goal.returns
returns c = turn-end with_column c.args.trees.now _ _ _ (omega arith) c.loop-column.invariant
