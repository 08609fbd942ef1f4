use Rattle.std.proofs.Common.{◌≡◌, ◌++◌, drop}
use Rattle.drop_rows.specs.Cells.{rows_from, cell_rows}
use Rattle.drop_rows.proofs.cells.cell_rows.Given as goal

abbrev pub invariant-loop-at : goal.invariant-loop-at
invariant-loop-at l = l.rows ++ rows_from l.presence l.at (drop l.at l.columns) ≡ cell_rows l.columns
