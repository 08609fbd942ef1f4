use Rattle.std.proofs.Common.{◌<◌, ◌^◌, sym, subst, unsigned_abs}
use Rattle.rat128.proofs.Sums.{scaled_below, scaled_bits, abs_64}
use Rattle.rat128.proofs.number.scaled_i64.Goals as goal

pub returns-clause-small : goal.returns-clause-small
returns-clause-small c =
    subst (λ z. unsigned_abs z < 2 ^ 126) (sym (scaled_bits c.args.a c.args.b c.from.result c.from-2.result c.ranges.a c.requires c.from.ensures c.from-2.ensures)) (scaled_below c.args.a c.args.b (abs_64 c.args.a c.ranges.a) c.requires)
