use Rattle.std.proofs.Common.{◌∙◌, ◌^◌, ap₂, nat_cmp}
use Rattle.std.specs.Ordering.{ordering_then}
use Rattle.rat128.proofs.Orders.{cmp_halves}
use Rattle.rat128.proofs.wide.compare_wide_products.Goals as goal

pub returns : goal.returns
returns c =
    let left = c.widest_product-left in
    let right = c.widest_product-right in
    c.then.ensures ∙ ap₂ ordering_then c.compare_wide.ensures c.compare_wide-2.ensures ∙ cmp_halves (2 ^ 256) left.result.low left.result.high right.result.low right.result.high left.ensures.small right.ensures.small ∙ ap₂ nat_cmp left.ensures.value right.ensures.value
