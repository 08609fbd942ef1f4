use Rattle.std.proofs.Common.{◌∙◌, ◌*◌, ◌^◌, ap₂}
use Rattle.rat128.proofs.Orders.{long_product}
use Rattle.rat128.proofs.wide.widest_product.Goals as goal

pub returns-clause-value : goal.returns-clause-value
returns-clause-value c =
    long_product (2 ^ 128) c.x.inside.low c.x.inside.high c.y.inside.low c.y.inside.high c.carrying_mul-low.result.0 c.carrying_mul-low.result.1 c.carrying_mul-part.result.0 c.carrying_mul-part.result.1 c.carrying_mul-second.result.0 c.carrying_mul-second.result.1 c.carrying_mul_add-third.result.0 c.carrying_mul_add-third.result.1 c.carrying_mul-low.ensures c.carrying_mul-part.ensures c.carrying_mul-second.ensures c.carrying_mul_add-third.ensures ∙ ap₂ ◌*◌ c.x.view_is c.y.view_is
