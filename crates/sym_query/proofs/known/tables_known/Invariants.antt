use Rattle.std.proofs.Common.{◌≡◌, map, take}
use Rattle.sym_rows.specs.Cells.{sure_row}
use Rattle.sym_query.proofs.known.tables_known.Given as goal

abbrev pub invariant-loop-rows : goal.invariant-loop-rows
invariant-loop-rows l = l.made ≡ map (map sure_row) (take l.rows-index l.tables)
