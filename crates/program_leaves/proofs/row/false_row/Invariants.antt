use Rattle.std.proofs.Common.{ℕ, ◌<◌}
use Rattle.program_leaves.specs.Leaves.{IsFalseRow}
use Rattle.program_leaves.proofs.row.false_row.Given as goal

abbrev pub invariant-loop-row : goal.invariant-loop-row
invariant-loop-row l = (earlier : ℕ) → earlier < l.row → ¬ IsFalseRow l.program earlier
