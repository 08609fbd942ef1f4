use Rattle.std.proofs.Common.{sym, ◌∙◌, arith, rules}
use Rattle.std.proofs.lemmas.Int.{ints}
use Rattle.base_kit.proofs.Asking.{left_err}
use Rattle.row_values.proofs.Evaluate.{summed_init, summed_step, summed_end}
use Rattle.sym_values.proofs.PlainValues.{product_init, product_step, product_end}
use Rattle.sym_values.proofs.plain_values.+plain.Goals as goal

pub plain_sum-loop-part-init : goal.plain_sum-loop-part-init
plain_sum-loop-part-init t c = (summed_init _ _, omega (arith, ints))

pub plain_sum-loop-part-preserved : goal.plain_sum-loop-part-preserved
plain_sum-loop-part-preserved t c =
    (summed_step _ _ _ _ _ _ _ _ (omega arith) c.part-item.is (sym c.plain_signed.ensures.value ∙ c.in_ok-plain_signed.was) (omega (arith, ints)) c.loop-part.invariant.0, omega (arith, ints, c.in_ok-plain_signed.ensures.small))

pub plain_sum-returns-in_err-plain_signed-clause-value : goal.plain_sum-returns-in_err-plain_signed-clause-value
plain_sum-returns-in_err-plain_signed-clause-value t c = search (rules, left_err _ _ _ _ _ _ _ (omega arith) c.part-item.is (sym c.plain_signed.ensures.value ∙ c.in_err-plain_signed.was) c.loop-part.invariant.0)

pub plain_sum-returns-clause-value : goal.plain_sum-returns-clause-value
plain_sum-returns-clause-value t c = c.within.ensures.value ∙ summed_end _ _ _ _ _ (omega arith) c.loop-part.invariant.0

pub plain_product-loop-factor-init : goal.plain_product-loop-factor-init
plain_product-loop-factor-init t c = (product_init _ _, omega (arith, ints))

pub plain_product-loop-factor-preserved : goal.plain_product-loop-factor-preserved
plain_product-loop-factor-preserved t c = (product_step _ _ _ _ _ _ _ _ (omega arith) c.factor-item.is (sym c.plain.ensures.value ∙ c.in_ok-plain.was) (search rules) c.loop-factor.invariant.0, search rules)

pub plain_product-returns-in_err-plain-clause-value : goal.plain_product-returns-in_err-plain-clause-value
plain_product-returns-in_err-plain-clause-value t c = search (rules, left_err _ _ _ _ _ _ _ (omega arith) c.factor-item.is (sym c.plain.ensures.value ∙ c.in_err-plain.was) c.loop-factor.invariant.0)

pub plain_product-returns-clause-value : goal.plain_product-returns-clause-value
plain_product-returns-clause-value t c = c.within.ensures.value ∙ product_end _ _ _ _ _ (omega arith) c.loop-factor.invariant.0
