use Rattle.std.proofs.Common.{◌≡◌, take}
use Rattle.sym_groups.specs.Together.{lent_rows}
use Rattle.sym_groups.proofs.rows.lent.Given as goal

abbrev pub invariant-loop-row : goal.invariant-loop-row
invariant-loop-row l = lent_rows l.made ≡ take l.row-index l.rows
