use Rattle.std.proofs.Common.{arith}
use Rattle.dict_pivot.specs.Dictionaries.{least_of, table}
use Rattle.dual_simplex.proofs.Chosen.{true_part, false_part, rows_more}
use Rattle.dual_simplex.proofs.violated.first_violated.Goals as goal

pub loop-row-init : goal.loop-row-init
loop-row-init c = λ i s l. absurd (omega (arith, s, l))

pub loop-row-preserved : goal.loop-row-preserved
loop-row-preserved c = rows_more (least_of c.args.dict.now.low) (table c.args.dict.now) c.loop-row.row c.loop-row.invariant (false_part _ _ c.is_violated.result c.if-is_violated.false c.is_violated.ensures)

pub returns-then-is_violated : goal.returns-then-is_violated
returns-then-is_violated c = record {
  some = omega (arith, c.loop-row.auto.row);
  within = omega (arith, c.loop-row-test.true, c.height-row-end.ensures.height);
  below = true_part _ _ c.is_violated.result c.if-is_violated.true c.is_violated.ensures;
  before = c.loop-row.invariant;
}

pub returns : goal.returns
returns c = λ i s l. c.loop-row.invariant i s (omega (arith, l, c.loop-row-test.false, c.height-row-end.ensures.height))
