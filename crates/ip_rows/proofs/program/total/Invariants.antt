use Rattle.ip_rows.proofs.SumLemmas.{IsOnTheWay}
use Rattle.ip_rows.proofs.program.total.Given as goal

abbrev pub invariant-loop-term : goal.invariant-loop-term
invariant-loop-term l = IsOnTheWay l.point l.terms l.term-index l.sum
