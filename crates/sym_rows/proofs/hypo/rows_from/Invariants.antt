use Rattle.sym_rows.proofs.Hypos.{RowsGoing}
use Rattle.sym_rows.proofs.hypo.rows_from.Given as goal

abbrev pub invariant-loop-at : goal.invariant-loop-at
invariant-loop-at l = RowsGoing l.columns l.first l.bases l.chosen l.fn.fold l.at l.from l.made l.fold
