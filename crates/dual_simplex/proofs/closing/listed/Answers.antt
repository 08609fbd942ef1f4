use Rattle.dual_simplex.proofs.Reach.{listed_more}
use Rattle.dual_simplex.proofs.closing.listed.Goals as goal

pub loop-row-preserved : goal.loop-row-preserved
loop-row-preserved c = listed_more c.args.factors.now c.loop-row.row c.index-factors-row.result c.loop-row.made.items _ c.loop-row-test.true c.index-factors-row.is c.loop-row.invariant c.in_ok-add.ensures
