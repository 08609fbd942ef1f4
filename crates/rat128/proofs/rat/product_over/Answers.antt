use Rattle.std.proofs.Common.{◌∙◌, ◌*◌, ◌*ℤ◌, ◌<◌, ◌^◌, pos, unsigned_abs, int_div, ap, ap₂, sym, subst, to_z, of_z, to_z-of_z}
use Rattle.std.specs.Int.{w128}
use Rattle.rat128.proofs.Operations.{IsRat-product, small_is, small_bits, small_below, small_den_is, small_den_below}
use Rattle.rat128.proofs.rat.product_over.Goals as goal

pub invariant_of-result : goal.invariant_of-result
invariant_of-result c =
    let left = to_z-of_z {w = w128} (record { sfits = c.quotient.type_inv }) ∙ c.quotient.ensures ∙ ap (λ a. int_div a (pos c.args.first)) (to_z-of_z c.ranges.a) in
    let right = to_z-of_z {w = w128} (record { sfits = c.quotient-2.type_inv }) ∙ c.quotient-2.ensures ∙ ap (λ a. int_div a (pos c.args.second)) (to_z-of_z c.ranges.c) in
    let bits = small_bits (to_z w128 (of_z w128 c.quotient.result) *ℤ to_z w128 (of_z w128 c.quotient-2.result)) c.in_ok-num.num (sym c.in_ok-num.ensures) in
    let is = small_is (to_z w128 (of_z w128 c.quotient.result) *ℤ to_z w128 (of_z w128 c.quotient-2.result)) c.in_ok-num.num (sym c.in_ok-num.ensures) in
    let below = small_below (to_z w128 (of_z w128 c.quotient.result) *ℤ to_z w128 (of_z w128 c.quotient-2.result)) c.in_ok-num.num (sym c.in_ok-num.ensures) in
    let den = small_den_is (c.divide.result * c.divide-2.result) c.in_ok-den.den (sym c.in_ok-den.ensures) ∙ ap₂ ◌*◌ c.divide.ensures c.divide-2.ensures in
    IsRat-product c.args.a c.args.c c.args.b c.args.d c.args.first c.args.second _ _ c.requires.left c.requires.right c.requires.first c.requires.second (bits ∙ ap₂ ◌*ℤ◌ left right) den (subst (λ z. unsigned_abs z < 2 ^ 127) (is ∙ sym bits) below) (small_den_below (c.divide.result * c.divide-2.result) c.in_ok-den.den (sym c.in_ok-den.ensures))
