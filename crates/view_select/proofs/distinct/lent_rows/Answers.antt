use Rattle.std.proofs.Common.{arith, rules}
use Rattle.view_select.specs.Selects.{distinct}
use Rattle.view_select.proofs.Grouped.{distinct_lent}
use Rattle.view_select.proofs.distinct.lent_rows.Goals as goal

pub loop-row-init : goal.loop-row-init
unfolding distinct
loop-row-init c = search rules

pub loop-row-preserved : goal.loop-row-preserved
loop-row-preserved c = distinct_lent c.args.rows.now c.loop-row.row-index _ c.as_slice.result c.loop-row.set.keys c.insert.new.self.keys (omega arith) c.row-item.is c.as_slice.ensures c.loop-row.invariant (search rules)
