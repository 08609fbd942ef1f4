use Rattle.std.proofs.Common.{sym, ◌∙◌, arith, rules}
use Rattle.std.proofs.lemmas.Int.{ints}
use Rattle.base_kit.proofs.Asking.{left_err}
use Rattle.row_values.proofs.Evaluate.{summed_init, summed_step, summed_end, product_init, product_step, product_end}
use Rattle.row_values.proofs.expression.+number.Goals as goal

pub sum-loop-part-init : goal.sum-loop-part-init
sum-loop-part-init t c = (summed_init _ _, omega (arith, ints))

pub sum-loop-part-preserved : goal.sum-loop-part-preserved
sum-loop-part-preserved t c = (summed_step _ _ _ _ _ _ _ _ (omega arith) c.part-item.is (sym c.signed.ensures.value ∙ c.in_ok-signed.was) (omega (arith, ints)) c.loop-part.invariant.0, omega (arith, ints, c.in_ok-signed.ensures.small))

pub sum-returns-in_err-signed-clause-value : goal.sum-returns-in_err-signed-clause-value
sum-returns-in_err-signed-clause-value t c = search (rules, left_err _ _ _ _ _ _ _ (omega arith) c.part-item.is (sym c.signed.ensures.value ∙ c.in_err-signed.was) c.loop-part.invariant.0)

pub sum-returns-clause-value : goal.sum-returns-clause-value
sum-returns-clause-value t c = c.within.ensures.value ∙ summed_end _ _ _ _ _ (omega arith) c.loop-part.invariant.0

pub product-loop-factor-init : goal.product-loop-factor-init
product-loop-factor-init t c = (product_init _ _, omega (arith, ints))

pub product-loop-factor-preserved : goal.product-loop-factor-preserved
product-loop-factor-preserved t c = (product_step _ _ _ _ _ _ _ _ (omega arith) c.factor-item.is (sym c.number.ensures.value ∙ c.in_ok-number.was) (search rules) c.loop-factor.invariant.0, search rules)

pub product-returns-in_err-number-clause-value : goal.product-returns-in_err-number-clause-value
product-returns-in_err-number-clause-value t c = search (rules, left_err _ _ _ _ _ _ _ (omega arith) c.factor-item.is (sym c.number.ensures.value ∙ c.in_err-number.was) c.loop-factor.invariant.0)

pub product-returns-clause-value : goal.product-returns-clause-value
product-returns-clause-value t c = c.within.ensures.value ∙ product_end _ _ _ _ _ (omega arith) c.loop-factor.invariant.0
