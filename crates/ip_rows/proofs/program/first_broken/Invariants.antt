use Rattle.std.proofs.Common.{ℕ, ◌<◌}
use Rattle.ip_rows.specs.Programs.{Holds, row_at}
use Rattle.ip_rows.proofs.program.first_broken.Given as goal

abbrev pub invariant-loop-number : goal.invariant-loop-number
invariant-loop-number l = (earlier : ℕ) → earlier < l.number → Holds l.point (row_at l.rows earlier)
