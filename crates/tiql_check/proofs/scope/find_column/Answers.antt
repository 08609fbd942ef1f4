use Rattle.std.proofs.Common.{arith, sym, ◌∙◌}
use Rattle.tiql_check.proofs.Lists.{column_passed, column_missed}
use Rattle.tiql_check.proofs.scope.find_column.Goals as goal

pub loop-number-preserved : goal.loop-number-preserved
loop-number-preserved c = column_passed c.args.name.now c.args.columns.now _ _ _ (omega arith) c.index-columns-number.is (sym c.eq.ensures ∙ c.if-eq.false) c.loop-number.invariant

pub returns : goal.returns
returns c = record { found = column_missed c.args.name.now c.args.columns.now _ _ (omega arith) c.loop-number.invariant }
