use Rattle.ip_rows.proofs.SumLemmas.{on_the_way_first, on_the_way_last, on_the_way_fits, on_the_way_next}
use Rattle.ip_rows.proofs.program.total.Goals as goal

pub overflow_add-sum : goal.overflow_add-sum
overflow_add-sum c = on_the_way_fits c.args.point.now c.args.terms.now c.loop-term.term-index _ _ c.loop-term-test.true c.part-sum.ensures c.loop-term.invariant (record { sfits = c.part-sum.type_inv })

pub loop-term-init : goal.loop-term-init
loop-term-init c = on_the_way_first c.args.point.now c.args.terms.now c.requires

pub loop-term-preserved : goal.loop-term-preserved
loop-term-preserved c = on_the_way_next c.args.point.now c.args.terms.now c.loop-term.term-index _ _ c.loop-term-test.true c.part-sum.ensures c.loop-term.invariant (record { sfits = c.part-sum.type_inv })

pub returns : goal.returns
returns c =
    let last = on_the_way_last c.args.point.now c.args.terms.now c.loop-term.term-index _ c.loop-term-test.false c.loop-term.invariant in
    record { total = last.0; small = last.1 }
