use Rattle.sym_query.proofs.Views.{ViewsGoing}
use Rattle.sym_query.proofs.known.with_views.Given as goal

abbrev pub invariant-loop-view : goal.invariant-loop-view
invariant-loop-view l = ViewsGoing l.query l.fn.before l.fn.fold l.view l.known l.fold
