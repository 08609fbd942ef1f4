use Rattle.std.proofs.Common.{◌≡◌, map, take}
use Rattle.sym_rows.specs.Cells.{sure_row}
use Rattle.sym_rows.proofs.table.table_rows.Given as goal

abbrev pub invariant-loop-row : goal.invariant-loop-row
invariant-loop-row l = l.made ≡ map sure_row (take l.row-index l.rows)
