use Rattle.prov_fold.specs.Graphs.{HasTruth}
use Rattle.sym_rows.proofs.Each.{Going}
use Rattle.sym_goals.specs.Goals.{part_of}
use Rattle.sym_goals.proofs.Requirements.{PartsSo}
use Rattle.sym_goals.proofs.roots.parts_of.Given as goal

abbrev pub invariant-loop-row : goal.invariant-loop-row
invariant-loop-row l = Going (λ place row. part_of l.columns l.need row) l.rows HasTruth (PartsSo l.columns l.need l.rows) l.fn.fold l.row-index l.made l.fold
