use Rattle.std.proofs.Common.{◌∙◌, ap₂, to_z-of_z}
use Rattle.std.specs.Int.{w128}
use Rattle.rat128.specs.Steps.{product_in_steps}
use Rattle.rat128.proofs.Operations.{mul_of_seen}
use Rattle.rat128.proofs.Products.{divisor_of_bits}
use Rattle.rat128.proofs.rat.wide_product.Goals as goal

pub returns : goal.returns
returns c =
    let g = divisor_of_bits w128 c.args.a c.args.d c.gcd.result c.unsigned_abs.result c.ranges.a c.unsigned_abs.ensures.value c.gcd.ensures.value in
    let h = divisor_of_bits w128 c.args.c c.args.b c.gcd-2.result c.unsigned_abs-2.result c.ranges.c c.unsigned_abs-2.ensures.value c.gcd-2.ensures.value in
    c.product_over.ensures ∙ ap₂ (λ a c'. product_in_steps a c.args.b c' c.args.d c.gcd.result c.gcd-2.result) (to_z-of_z c.ranges.a) (to_z-of_z c.ranges.c) ∙ mul_of_seen c.args.a c.args.c c.args.b c.args.d c.gcd.result c.gcd-2.result c.requires.left c.requires.right g h
