use Rattle.std.proofs.Common.{◌<◌, ◌^◌, sym, subst, unsigned_abs}
use Rattle.rat128.proofs.Products.{product_below, product_bits}
use Rattle.rat128.proofs.Sums.{abs_64}
use Rattle.rat128.proofs.number.product_i64.Goals as goal

pub returns-clause-small : goal.returns-clause-small
returns-clause-small c =
    subst (λ z. unsigned_abs z < 2 ^ 127) (sym (product_bits c.args.a c.args.b c.from.result c.from-2.result c.ranges.a c.ranges.b c.from.ensures c.from-2.ensures)) (product_below c.args.a c.args.b (abs_64 c.args.a c.ranges.a) (abs_64 c.args.b c.ranges.b))
