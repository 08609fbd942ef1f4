use Rattle.sym_query.proofs.Hypos.{HyposGoing}
use Rattle.sym_query.proofs.known.hypos_known.Given as goal

abbrev pub invariant-loop-hypo : goal.invariant-loop-hypo
invariant-loop-hypo l = HyposGoing l.query l.tables l.columns l.fn.fold l.hypo l.made l.fold
