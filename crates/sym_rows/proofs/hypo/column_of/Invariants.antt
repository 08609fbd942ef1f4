use Rattle.std.proofs.Common.{◌≡◌}
use Rattle.sym_rows.specs.Hypos.{column_of}
use Rattle.sym_rows.proofs.Hypos.{column_left}
use Rattle.sym_rows.proofs.hypo.column_of.Given as goal

abbrev pub invariant-loop-at : goal.invariant-loop-at
invariant-loop-at l = column_left l.place l.first l.chosen l.at ≡ column_of l.place l.first l.chosen
