use Rattle.std.proofs.Common.{ℕ, List, ◌++◌, ◌∷◌, [], codes, map, sym, ◌∙◌, ap, arith, rules}
use Rattle.tiql_lex.specs.Kinds.{quoted}
use Rattle.tiql_tree.specs.declared.write_expression.Room.TheVariants as room
use Rattle.tiql_tree.specs.Printed.{expr_made, signed_made}
use Rattle.tiql_tree.specs.Rooms.{expr_bytes, sum_bytes, product_bytes}
use Rattle.tiql_tree.proofs.Making.{bytes_Number, bytes_Text, bytes_Ref, bytes_Neg, bytes_Abs, bytes_Sum, bytes_Sum_in, bytes_Product, bytes_Product_in}
use Rattle.tiql_tree.proofs.Making.{terms_init, terms_next, factors_init, no_terms, no_factors, ok_same, ok_between, ok_behind}
use Rattle.tiql_tree.proofs.write_expression.+put.Goals as goal

pub put_expr-returns-in-Number : goal.put_expr-returns-in-Number
put_expr-returns-in-Number t c = rw (bytes_Number c.args.room c.args.expr.now c.in-Number.number c.in-Number.is) (search rules)

pub put_expr-returns-in-Text : goal.put_expr-returns-in-Text
put_expr-returns-in-Text t c =
    ok_same _ _ _ _ _ (bytes_Text c.args.room c.args.expr.now c.in-Text.text c.in-Text.is ∙ ap (λ (v : List ℕ). quoted v ++ 32 ∷ []) (sym c.as_str.ensures.text)) c.put_text.ensures

pub put_expr-returns-in-Ref : goal.put_expr-returns-in-Ref
put_expr-returns-in-Ref t c = ok_same _ _ _ _ _ (bytes_Ref c.args.room c.args.expr.now _ c.in-Ref.is) c.put_ref.ensures

pub put_expr-returns-then-takes_sum : goal.put_expr-returns-then-takes_sum
put_expr-returns-then-takes_sum t c =
    ok_same _ _ _ _ _ (bytes_Sum c.args.room c.args.expr.now c.in-Sum.parts (sym c.takes_sum.ensures ∙ c.if-takes_sum.true) c.in-Sum.is ∙ ap (λ ps. sum_bytes (map signed_made ps)) (sym c.as_slice.ensures)) c.put_terms.ensures

pub put_expr-returns-in_ok-put_terms-in-Sum : goal.put_expr-returns-in_ok-put_terms-in-Sum
put_expr-returns-in_ok-put_terms-in-Sum t c =
    ok_between _ _ _ _ _ _ _ _ _ (bytes_Sum_in c.args.room c.args.expr.now c.in-Sum.parts (sym c.takes_sum.ensures ∙ c.if-takes_sum.false) c.in-Sum.is ∙ ap (λ ps. codes "( " ++ (sum_bytes (map signed_made ps) ++ codes ") ")) (sym c.as_slice-in-Sum.ensures))
    c.in_ok-put-in-Sum.ensures c.in_ok-put_terms-in-Sum.ensures c.put-in-Sum.ensures

pub put_expr-returns-then-takes_product : goal.put_expr-returns-then-takes_product
put_expr-returns-then-takes_product t c =
    ok_same _ _ _ _ _ (bytes_Product c.args.room c.args.expr.now c.in-Product.parts (sym c.takes_product.ensures ∙ c.if-takes_product.true) c.in-Product.is ∙ ap (λ ps. product_bytes (map expr_made ps)) (sym c.as_slice-then-takes_product.ensures)) c.put_factors.ensures

pub put_expr-returns-in_ok-put_factors-in-Product : goal.put_expr-returns-in_ok-put_factors-in-Product
put_expr-returns-in_ok-put_factors-in-Product t c =
    ok_between _ _ _ _ _ _ _ _ _ (bytes_Product_in c.args.room c.args.expr.now c.in-Product.parts (sym c.takes_product.ensures ∙ c.if-takes_product.false) c.in-Product.is ∙ ap (λ ps. codes "( " ++ (product_bytes (map expr_made ps) ++ codes ") ")) (sym c.as_slice-in-Product.ensures))
    c.in_ok-put-in-Product.ensures c.in_ok-put_factors-in-Product.ensures c.put-in-Product-2.ensures

pub put_expr-returns-in_ok-put-in-Neg : goal.put_expr-returns-in_ok-put-in-Neg
put_expr-returns-in_ok-put-in-Neg t c =
    ok_behind _ _ _ _ _ _ _ (bytes_Neg c.args.room c.args.expr.now c.in-Neg.part c.in-Neg.is ∙ ap (λ p. codes "- " ++ expr_bytes room.Factor (expr_made p)) (sym c.get.ensures))
    c.in_ok-put-in-Neg.ensures c.put_expr.ensures

pub put_expr-returns-in_ok-put_expr-in-Abs : goal.put_expr-returns-in_ok-put_expr-in-Abs
put_expr-returns-in_ok-put_expr-in-Abs t c =
    ok_between _ _ _ _ _ _ _ _ _ (bytes_Abs c.args.room c.args.expr.now c.in-Abs.part c.in-Abs.is ∙ ap (λ p. codes "ABS ( " ++ (expr_bytes room.Sum (expr_made p) ++ codes ") ")) (sym c.get-in-Abs.ensures))
    c.in_ok-put-in-Abs.ensures c.in_ok-put_expr-in-Abs.ensures c.put-in-Abs-2.ensures

pub put_factors-returns-in_default : goal.put_factors-returns-in_default
put_factors-returns-in_default t c = ok_same _ _ _ _ _ (no_factors c.args.parts.now (search rules)) c.put.ensures

pub put_terms-returns-in_default : goal.put_terms-returns-in_default
put_terms-returns-in_default t c = ok_same _ _ _ _ _ (no_terms c.args.parts.now (search rules)) c.put.ensures

pub put_terms-loop-part-init : goal.put_terms-loop-part-init
put_terms-loop-part-init t c = terms_init c.args.parts.now c.first-item.result _ _ (omega (arith, c.in-len1-up.len_at_least)) c.first-item.is c.in_ok-put_expr.ensures

pub put_factors-loop-part-init : goal.put_factors-loop-part-init
put_factors-loop-part-init t c = factors_init c.args.parts.now c.first-item.result _ _ (omega (arith, c.in-len1-up.len_at_least)) c.first-item.is c.in_ok-put_expr.ensures

pub put_terms-loop-part-preserved : goal.put_terms-loop-part-preserved
put_terms-loop-part-preserved t c =
    terms_next _ c.loop-part.part-index c.part-item.result _ _ _ _ (omega (arith, c.loop-part-test.true)) c.part-item.is
    (c.in_ok-put.ensures ∙ ap (λ (l : List ℕ). c.loop-part.out.items ++ l) c.plus_or_minus.ensures) c.in_ok-put_expr-2.ensures c.loop-part.invariant
