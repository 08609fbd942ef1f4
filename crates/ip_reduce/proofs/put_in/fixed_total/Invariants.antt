use Rattle.ip_rows.specs.Programs.{sides_of}
use Rattle.ip_reduce.specs.Rows.{fixed_part}
use Rattle.ip_reduce.proofs.SumLemmas.{IsOnTheWay}
use Rattle.ip_reduce.proofs.put_in.fixed_total.Given as goal

abbrev pub invariant-loop-term : goal.invariant-loop-term
invariant-loop-term l = IsOnTheWay (sides_of l.columns) (fixed_part (sides_of l.columns)) l.terms l.term-index l.sum
