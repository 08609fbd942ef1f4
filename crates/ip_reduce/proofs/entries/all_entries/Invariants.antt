use Rattle.std.proofs.Common.{◌≡◌}
use Rattle.ip_rows.specs.Programs.{sides_of}
use Rattle.ip_reduce.specs.Entries.{entries_in}
use Rattle.ip_reduce.proofs.entries.all_entries.Given as goal

abbrev pub invariant-loop-number : goal.invariant-loop-number
invariant-loop-number l = l.entries.items ≡ entries_in (sides_of l.columns) l.rows l.number
