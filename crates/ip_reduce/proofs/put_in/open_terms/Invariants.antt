use Rattle.std.proofs.Common.{◌≡◌, ◌++◌, drop}
use Rattle.ip_rows.specs.Programs.{sides_of}
use Rattle.ip_reduce.specs.Rows.{open_terms}
use Rattle.ip_reduce.proofs.put_in.open_terms.Given as goal

abbrev pub invariant-loop-term : goal.invariant-loop-term
invariant-loop-term l = l.made ++ open_terms (sides_of l.columns) (drop l.term-index l.terms) ≡ open_terms (sides_of l.columns) l.terms
