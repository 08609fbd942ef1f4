use Rattle.std.proofs.Common.{◌∙◌, ◌*◌, ◌^◌, ◌<◌, Some, ap, ap₂, sym, subst, to_z-of_z, unsigned_abs}
use Rattle.std.specs.Int.{w64, w128}
use Rattle.std.proofs.lemmas.Int.{fits_signed_from_abs}
use Rattle.rat128.specs.Steps.{seen}
use Rattle.rat128.proofs.Operations.{IsRat-product}
use Rattle.rat128.proofs.Products.{narrow_product_gives, narrow_den, product_num, divisor_of_bits}
use Rattle.rat128.proofs.Sums.{abs_64}
use Rattle.rat128.proofs.rat.narrow_product.Goals as goal

pub invariant_of-result : goal.invariant_of-result
invariant_of-result c =
    let g = divisor_of_bits w64 c.args.a c.args.d c.gcd_u64-first.result c.unsigned_abs.result c.ranges.a c.unsigned_abs.ensures.value c.gcd_u64-first.ensures.value in
    let h = divisor_of_bits w64 c.args.c c.args.b c.gcd_u64-second.result c.unsigned_abs-2.result c.ranges.c c.unsigned_abs-2.ensures.value c.gcd_u64-second.ensures.value in
    let num = product_num c.args.a c.args.c c.quotient_i64.result c.quotient_i64-2.result c.product_i64.result c.gcd_u64-first.result c.gcd_u64-second.result c.ranges.a c.ranges.c c.quotient_i64.ensures c.quotient_i64-2.ensures (record { sfits = c.quotient_i64.type_inv }) (record { sfits = c.quotient_i64-2.type_inv }) c.product_i64.ensures.small c.product_i64.ensures.value in
    let den = ap₂ ◌*◌ (c.from.ensures ∙ c.divide_u64.ensures) (c.from-2.ensures ∙ c.divide_u64-2.ensures) in
    let bits = to_z-of_z {w = w128} (fits_signed_from_abs w128 c.product_i64.result c.product_i64.ensures.small) in
    IsRat-product c.args.a c.args.c c.args.b c.args.d c.gcd_u64-first.result c.gcd_u64-second.result _ _ c.requires.left c.requires.right g h num den (subst (λ z. unsigned_abs z < 2 ^ 127) (sym bits) c.product_i64.ensures.small) (subst (λ m. m < 2 ^ 127) (sym den) (narrow_den c.args.b c.args.d c.gcd_u64-first.result c.gcd_u64-second.result c.requires.left_small c.requires.right_small))

pub returns : goal.returns
returns c =
    let g = divisor_of_bits w64 c.args.a c.args.d c.gcd_u64-first.result c.unsigned_abs.result c.ranges.a c.unsigned_abs.ensures.value c.gcd_u64-first.ensures.value in
    let h = divisor_of_bits w64 c.args.c c.args.b c.gcd_u64-second.result c.unsigned_abs-2.result c.ranges.c c.unsigned_abs-2.ensures.value c.gcd_u64-second.ensures.value in
    let num = product_num c.args.a c.args.c c.quotient_i64.result c.quotient_i64-2.result c.product_i64.result c.gcd_u64-first.result c.gcd_u64-second.result c.ranges.a c.ranges.c c.quotient_i64.ensures c.quotient_i64-2.ensures (record { sfits = c.quotient_i64.type_inv }) (record { sfits = c.quotient_i64-2.type_inv }) c.product_i64.ensures.small c.product_i64.ensures.value in
    let den = ap₂ ◌*◌ (c.from.ensures ∙ c.divide_u64.ensures) (c.from-2.ensures ∙ c.divide_u64-2.ensures) in
    ap Some (ap₂ seen num den) ∙ narrow_product_gives c.args.a c.args.c c.args.b c.args.d c.gcd_u64-first.result c.gcd_u64-second.result c.requires.left c.requires.right (abs_64 c.args.a c.ranges.a) (abs_64 c.args.c c.ranges.c) c.requires.left_small c.requires.right_small g h
