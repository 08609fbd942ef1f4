use Rattle.std.proofs.Common.{◌≡◌, ◌+◌, drop}
use Rattle.program_rows.specs.Programs.{size_of_rows}
use Rattle.program_rows.proofs.rows.size_of.Given as goal

abbrev pub invariant-loop-row : goal.invariant-loop-row
invariant-loop-row l = l.size + size_of_rows (drop l.row-index l.rows) ≡ size_of_rows l.rows
