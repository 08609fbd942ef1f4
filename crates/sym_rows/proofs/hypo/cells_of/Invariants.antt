use Rattle.sym_rows.specs.Cells.{IsCellOf}
use Rattle.sym_rows.specs.Hypos.{cell_by, column_of, is_unknown_in}
use Rattle.sym_rows.proofs.Each.{Going}
use Rattle.sym_rows.proofs.Hypos.{CellsSo}
use Rattle.sym_rows.proofs.hypo.cells_of.Given as goal

abbrev pub invariant-loop-place : goal.invariant-loop-place
invariant-loop-place l = Going (λ place value. cell_by (is_unknown_in l.columns place) value (column_of place l.first l.chosen)) l.base IsCellOf (CellsSo l.columns l.first l.chosen l.base) l.fn.fold l.place l.made l.fold
