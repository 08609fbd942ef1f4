use Rattle.std.proofs.Common.{◌≡◌, length, ◌∙◌, ap, arith}
use Rattle.dict_pivot.specs.Dictionaries.{number}
use Rattle.dual_simplex.proofs.Outcomes.{point_more, one_longer}
use Rattle.dual_simplex.proofs.answer.point_of.Goals as goal

pub loop-column-preserved : goal.loop-column-preserved
loop-column-preserved c = record {
  size = one_longer c.loop-column.point.items _ c.cell.result c.loop-column.column c.in_ok-push.ensures.items c.loop-column.invariant.size;
  each = point_more c.args.dict.now c.loop-column.point.items _ c.loop-column.column c.cell.result c.loop-column.invariant.size c.in_ok-push.ensures.items c.cell.ensures.cell c.loop-column.invariant.each;
}

pub returns-clause-size : goal.returns-clause-size
returns-clause-size c =
    let done : c.loop-column.column ≡ c.args.columns = omega (arith, c.loop-column-test.false, c.loop-column.auto.column-end) in
    ap length c.from_vec.ensures ∙ c.loop-column.invariant.size ∙ done

pub returns-clause-each : goal.returns-clause-each
returns-clause-each c = λ j l. ap (λ xs. number xs j) c.from_vec.ensures ∙ c.loop-column.invariant.each j (omega (arith, l, c.loop-column-test.false))
