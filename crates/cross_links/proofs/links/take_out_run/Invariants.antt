use Rattle.cross_links.specs.Rings.{Closed, TakesOut}
use Rattle.cross_links.proofs.links.take_out_run.Given as goal

abbrev pub invariant-loop-x : goal.invariant-loop-x
invariant-loop-x l = Closed l.next l.back × TakesOut l.from l.x l.initial.next l.initial.back l.next l.back
