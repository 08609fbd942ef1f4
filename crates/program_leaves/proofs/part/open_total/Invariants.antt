use Rattle.program_leaves.proofs.Sums.{IsOpenWay}
use Rattle.program_leaves.proofs.part.open_total.Given as goal

abbrev pub invariant-loop-term : goal.invariant-loop-term
invariant-loop-term l = IsOpenWay l.program l.point l.terms l.term-index l.sum
