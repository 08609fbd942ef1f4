use Rattle.sym_query.proofs.Needs.{RootsGoing}
use Rattle.sym_query.proofs.goals.roots_of_all.Given as goal

abbrev pub invariant-loop-need : goal.invariant-loop-need
invariant-loop-need l = RootsGoing l.query l.known l.fn.fold l.need-index l.all l.fold
