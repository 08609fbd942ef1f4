use Rattle.std.proofs.Common.{◌≤◌}
use Rattle.cross_links.specs.Rings.{Closed, PutsBack}
use Rattle.cross_links.proofs.links.put_back_run.Given as goal

abbrev pub invariant-loop-x : goal.invariant-loop-x
invariant-loop-x l = record {
  order : l.from ≤ l.x;
  links : Closed l.next l.back × PutsBack l.x l.to l.initial.next l.initial.back l.next l.back;
}
