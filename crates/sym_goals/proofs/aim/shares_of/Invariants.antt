use Rattle.sym_rows.proofs.Each.{Going}
use Rattle.sym_values.specs.Steps.{IsPart}
use Rattle.sym_goals.specs.Goals.{share_of}
use Rattle.sym_goals.proofs.Objective.{SharesSo}
use Rattle.sym_goals.proofs.aim.shares_of.Given as goal

abbrev pub invariant-loop-row : goal.invariant-loop-row
invariant-loop-row l = Going (λ place row. share_of l.columns l.part row) l.rows IsPart (SharesSo l.columns l.part l.rows) l.fn.fold l.row-index l.made.items l.fold
