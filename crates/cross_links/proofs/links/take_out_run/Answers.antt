use Rattle.std.proofs.Common.{arith}
use Rattle.cross_links.proofs.RunLemmas.{TakesOut-none, take_more}
use Rattle.cross_links.proofs.links.take_out_run.Goals as goal

pub loop-x-init : goal.loop-x-init
loop-x-init c = (c.requires.closed, TakesOut-none _ _ _)

pub loop-x-preserved : goal.loop-x-preserved
loop-x-preserved c = take_more _ _ _ _ _ _ _ _ (omega arith) (omega arith) (omega arith) c.loop-x.invariant c.take_out.ensures.next c.take_out.ensures.back
