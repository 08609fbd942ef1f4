use Rattle.std.proofs.Common.{arith, rules}
use Rattle.tiql_check.proofs.Lists.{set_step, set_end}
use Rattle.tiql_check.proofs.hypo.columns_with.Goals as goal

pub loop-number-preserved : goal.loop-number-preserved
loop-number-preserved c = set_step c.args.set.now c.args.columns.now _ _ _ _ c.index-columns-number.result (omega arith) c.index-columns-number.is (search rules) c.loop-number.invariant

pub returns : goal.returns
returns c = record { columns = set_end c.args.set.now c.args.columns.now _ _ _ (omega arith) c.loop-number.invariant }
