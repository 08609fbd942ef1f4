use Rattle.std.proofs.Common.{◌∙◌, ◌*◌, Some, ap, ap₂, sym, unsigned_abs}
use Rattle.rat128.specs.Divisors.{gcd, lowest}
use Rattle.rat128.specs.Steps.{seen}
use Rattle.rat128.proofs.Operations.{common_of_sum}
use Rattle.rat128.proofs.Sums.{narrow_gives, cross_num, abs_64}
use Rattle.rat128.proofs.rat.narrow_sum.Goals as goal

pub lowest-requires-clause-common : goal.lowest-requires-clause-common
lowest-requires-clause-common c =
    let g = c.gcd_u64-common.result in
    let num = cross_num c.args.a c.args.c c.args.b c.args.d c.divide_u64-left.result c.divide_u64-right.result g c.cross_sum-num.result c.ranges.a c.ranges.c c.cross_sum-num.ensures.small c.cross_sum-num.ensures.value c.divide_u64-right.ensures c.divide_u64-left.ensures in
    let den = ap₂ ◌*◌ c.from.ensures (c.from-2.ensures ∙ c.divide_u64-right.ensures) in
    ap₂ (λ s m. gcd (unsigned_abs s) m) num den ∙ common_of_sum c.args.a c.args.c c.args.b c.args.d g c.requires.left c.requires.right c.gcd_u64-common.ensures.value ∙ ap₂ (λ s g. gcd (unsigned_abs s) g) (sym num) (sym c.from-3.ensures)

pub returns : goal.returns
returns c =
    let g = c.gcd_u64-common.result in
    let num = cross_num c.args.a c.args.c c.args.b c.args.d c.divide_u64-left.result c.divide_u64-right.result g c.cross_sum-num.result c.ranges.a c.ranges.c c.cross_sum-num.ensures.small c.cross_sum-num.ensures.value c.divide_u64-right.ensures c.divide_u64-left.ensures in
    let den = ap₂ ◌*◌ c.from.ensures (c.from-2.ensures ∙ c.divide_u64-right.ensures) in
    ap Some (c.lowest.ensures ∙ ap₂ (λ s m. lowest (seen s m)) num den) ∙ narrow_gives c.args.a c.args.c c.args.b c.args.d g c.requires.left c.requires.right (abs_64 c.args.a c.ranges.a) (abs_64 c.args.c c.ranges.c) c.requires.left_small c.requires.right_small c.gcd_u64-common.ensures.value
