use Rattle.std.proofs.Common.{◌∙◌, arith, rules}
use Rattle.std.proofs.lemmas.Int.{to_z-of_z}
use Rattle.tiql_check.specs.Scopes.{scope_of}
use Rattle.tiql_check.specs.Expressions.{with_term, with_factor, signed_in, part_in}
use Rattle.tiql_check.proofs.Turns.{turn_map-step, turn_map-err, turn_map-end}
use Rattle.tiql_check.proofs.Forms.{typed-Number, typed-Text, typed-Ref, sum-Ok, sum-Err, product-Ok, product-Err, neg-Ok, neg-Err, neg-Text, abs-Ok, abs-Err, abs-Text, term-Ok, term-Err, term-Text, factor-Ok, factor-Err, factor-Text, factor-Unknown}
use Rattle.tiql_check.proofs.expression.+expression.Goals as goal

pub check_expression-returns-in-Number : goal.check_expression-returns-in-Number
check_expression-returns-in-Number t c = grind (arith, to_z-of_z, typed-Number (scope_of c.args.scope.now) c.args.expr.now c.in-Number.number c.in-Number.is)

pub check_expression-returns-in_ok-copy-in-Text : goal.check_expression-returns-in_ok-copy-in-Text
check_expression-returns-in_ok-copy-in-Text t c = search (rules, typed-Text (scope_of c.args.scope.now) c.args.expr.now c.in-Text.text c.in-Text.is)

pub check_expression-returns-in-Ref : goal.check_expression-returns-in-Ref
check_expression-returns-in-Ref t c = rw (typed-Ref (scope_of c.args.scope.now) c.args.expr.now _ c.in-Ref.is) (search rules)

pub check_expression-returns-in_ok-all-in-Sum : goal.check_expression-returns-in_ok-all-in-Sum
check_expression-returns-in_ok-all-in-Sum t c = sum-Ok (scope_of c.args.scope.now) c.args.expr.now c.in-Sum.parts _ _ c.in-Sum.is c.as_slice.ensures c.in_ok-all-in-Sum.ensures ∙ search rules

pub check_expression-returns-in_err-all-in-Sum : goal.check_expression-returns-in_err-all-in-Sum
check_expression-returns-in_err-all-in-Sum t c = search (rules, sum-Err (scope_of c.args.scope.now) c.args.expr.now c.in-Sum.parts _ _ c.in-Sum.is c.as_slice.ensures c.in_err-all-in-Sum.ensures)

pub check_expression-returns-in_ok-all-in-Product : goal.check_expression-returns-in_ok-all-in-Product
check_expression-returns-in_ok-all-in-Product t c = product-Ok (scope_of c.args.scope.now) c.args.expr.now c.in-Product.parts _ _ c.in-Product.is c.as_slice-in-Product.ensures c.in_ok-all-in-Product.ensures ∙ search rules

pub check_expression-returns-in_err-all-in-Product : goal.check_expression-returns-in_err-all-in-Product
check_expression-returns-in_err-all-in-Product t c = search (rules, product-Err (scope_of c.args.scope.now) c.args.expr.now c.in-Product.parts _ _ c.in-Product.is c.as_slice-in-Product.ensures c.in_err-all-in-Product.ensures)

pub check_expression-returns-in_ok-one-in-Neg : goal.check_expression-returns-in_ok-one-in-Neg
check_expression-returns-in_ok-one-in-Neg t c = rw (neg-Ok (scope_of c.args.scope.now) c.args.expr.now c.in-Neg.part c.get-part.result.now _ _ c.in-Neg.is c.get-part.ensures c.in_ok-check_expression-in-Neg.ensures c.in_ok-one-in-Neg.ensures) c.negated.ensures

pub check_expression-returns-in_err-check_expression-in-Neg : goal.check_expression-returns-in_err-check_expression-in-Neg
check_expression-returns-in_err-check_expression-in-Neg t c = search (rules, neg-Err (scope_of c.args.scope.now) c.args.expr.now c.in-Neg.part c.get-part.result.now _ c.in-Neg.is c.get-part.ensures c.in_err-check_expression-in-Neg.ensures)

pub check_expression-returns-in_err-one-in-Neg : goal.check_expression-returns-in_err-one-in-Neg
check_expression-returns-in_err-one-in-Neg t c = search (rules, neg-Text (scope_of c.args.scope.now) c.args.expr.now c.in-Neg.part c.get-part.result.now _ _ c.in-Neg.is c.get-part.ensures c.in_ok-check_expression-in-Neg.ensures c.in_err-one-in-Neg.ensures)

pub check_expression-returns-in_ok-one-in-Abs : goal.check_expression-returns-in_ok-one-in-Abs
check_expression-returns-in_ok-one-in-Abs t c = rw (abs-Ok (scope_of c.args.scope.now) c.args.expr.now c.in-Abs.part c.get-part-in-Abs.result.now _ _ c.in-Abs.is c.get-part-in-Abs.ensures c.in_ok-check_expression-in-Abs.ensures c.in_ok-one-in-Abs.ensures) c.absolute.ensures

pub check_expression-returns-in_err-check_expression-in-Abs : goal.check_expression-returns-in_err-check_expression-in-Abs
check_expression-returns-in_err-check_expression-in-Abs t c = search (rules, abs-Err (scope_of c.args.scope.now) c.args.expr.now c.in-Abs.part c.get-part-in-Abs.result.now _ c.in-Abs.is c.get-part-in-Abs.ensures c.in_err-check_expression-in-Abs.ensures)

pub check_expression-returns-in_err-one-in-Abs : goal.check_expression-returns-in_err-one-in-Abs
check_expression-returns-in_err-one-in-Abs t c = search (rules, abs-Text (scope_of c.args.scope.now) c.args.expr.now c.in-Abs.part c.get-part-in-Abs.result.now _ _ c.in-Abs.is c.get-part-in-Abs.ensures c.in_ok-check_expression-in-Abs.ensures c.in_err-one-in-Abs.ensures)

pub check_terms-loop-part-preserved : goal.check_terms-loop-part-preserved
check_terms-loop-part-preserved t c = turn_map-step with_term (signed_in (scope_of c.args.scope.now)) c.args.parts.now _ _ _ _ _ (omega arith) c.part-item.is (term-Ok (scope_of c.args.scope.now) _ _ c.part-item.result _ _ c.in_ok-check_expression.ensures c.in_ok-term.ensures c.in_ok-add_term.ensures) c.loop-part.invariant

pub check_terms-returns-in_err-check_expression : goal.check_terms-returns-in_err-check_expression
check_terms-returns-in_err-check_expression t c = search (rules, turn_map-err with_term (signed_in (scope_of c.args.scope.now)) c.args.parts.now _ _ _ _ _ (omega arith) c.part-item.is (term-Err (scope_of c.args.scope.now) _ c.part-item.result _ c.in_err-check_expression.ensures) c.loop-part.invariant)

pub check_terms-returns-in_err-term : goal.check_terms-returns-in_err-term
check_terms-returns-in_err-term t c = search (rules, turn_map-err with_term (signed_in (scope_of c.args.scope.now)) c.args.parts.now _ _ _ _ _ (omega arith) c.part-item.is (term-Text (scope_of c.args.scope.now) _ c.part-item.result _ _ c.in_ok-check_expression.ensures c.in_err-term.ensures) c.loop-part.invariant)

pub check_terms-returns : goal.check_terms-returns
check_terms-returns t c = turn_map-end with_term (signed_in (scope_of c.args.scope.now)) c.args.parts.now _ _ _ (omega arith) c.loop-part.invariant

pub check_factors-loop-part-preserved : goal.check_factors-loop-part-preserved
check_factors-loop-part-preserved t c = turn_map-step with_factor (part_in (scope_of c.args.scope.now)) c.args.parts.now _ _ _ _ _ (omega arith) c.part-item.is (factor-Ok (scope_of c.args.scope.now) _ _ c.part-item.result _ _ c.in_ok-check_expression.ensures c.in_ok-factor.ensures c.in_ok-add_factor.ensures) c.loop-part.invariant

pub check_factors-returns-in_err-check_expression : goal.check_factors-returns-in_err-check_expression
check_factors-returns-in_err-check_expression t c = search (rules, turn_map-err with_factor (part_in (scope_of c.args.scope.now)) c.args.parts.now _ _ _ _ _ (omega arith) c.part-item.is (factor-Err (scope_of c.args.scope.now) _ c.part-item.result _ c.in_err-check_expression.ensures) c.loop-part.invariant)

pub check_factors-returns-in_err-factor : goal.check_factors-returns-in_err-factor
check_factors-returns-in_err-factor t c = search (rules, turn_map-err with_factor (part_in (scope_of c.args.scope.now)) c.args.parts.now _ _ _ _ _ (omega arith) c.part-item.is (factor-Text (scope_of c.args.scope.now) _ c.part-item.result _ _ c.in_ok-check_expression.ensures c.in_err-factor.ensures) c.loop-part.invariant)

pub check_factors-returns-in_err-add_factor : goal.check_factors-returns-in_err-add_factor
check_factors-returns-in_err-add_factor t c = search (rules, turn_map-err with_factor (part_in (scope_of c.args.scope.now)) c.args.parts.now _ _ _ _ _ (omega arith) c.part-item.is (factor-Unknown (scope_of c.args.scope.now) _ c.part-item.result _ _ _ c.in_ok-check_expression.ensures c.in_ok-factor.ensures c.in_err-add_factor.ensures) c.loop-part.invariant)

pub check_factors-returns : goal.check_factors-returns
check_factors-returns t c = turn_map-end with_factor (part_in (scope_of c.args.scope.now)) c.args.parts.now _ _ _ (omega arith) c.loop-part.invariant
