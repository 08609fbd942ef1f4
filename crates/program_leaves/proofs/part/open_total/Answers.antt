use Rattle.program_leaves.proofs.Sums.{open_next}
use Rattle.program_leaves.proofs.part.open_total.Goals as goal

pub loop-term-preserved : goal.loop-term-preserved
loop-term-preserved c = open_next c.args.program.now c.args.point.now c.args.terms.now c.loop-term.term-index _ c.loop-term-test.true c.loop-term.invariant _ c.open_part-sum.ensures (record { sfits = c.open_part-sum.type_inv })
