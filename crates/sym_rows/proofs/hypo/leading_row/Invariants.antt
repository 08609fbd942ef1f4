use Rattle.std.proofs.Common.{◌≡◌, ◌+◌, drop}
use Rattle.world_def.specs.Worlds.{leading, of_row}
use Rattle.sym_rows.proofs.hypo.leading_row.Given as goal

abbrev pub invariant-loop-at : goal.invariant-loop-at
invariant-loop-at l = l.at + leading (of_row l.row) (drop l.at l.columns) ≡ leading (of_row l.row) l.columns
