use Rattle.std.proofs.Common.{◌≡◌, ◌++◌, drop}
use Rattle.ip_rows.specs.Programs.{sides_of}
use Rattle.ip_reduce.specs.Rows.{open_terms}
use Rattle.ip_reduce.specs.Reductions.{entries_at}
use Rattle.ip_reduce.proofs.entries.add_entries.Given as goal

abbrev pub invariant-loop-term : goal.invariant-loop-term
invariant-loop-term l =
    l.entries.items ++ entries_at l.row (open_terms (sides_of l.columns) (drop l.term-index l.terms)) ≡ l.fn.entries.items ++ entries_at l.row (open_terms (sides_of l.columns) l.terms)
