use Rattle.std.proofs.Common.{◌∙◌, Some, ap, ap₂}
use Rattle.rat128.specs.Divisors.{lowest}
use Rattle.rat128.specs.Steps.{seen}
use Rattle.rat128.proofs.Sums.{same_gives, sum_64, abs_64}
use Rattle.rat128.proofs.rat.same_sum.Goals as goal

pub returns : goal.returns
returns c =
    let num = sum_64 c.args.a c.args.c c.from.result c.from-2.result c.ranges.a c.ranges.c c.from.ensures c.from-2.ensures in
    ap Some (c.lowest.ensures ∙ ap₂ (λ s m. lowest (seen s m)) num c.from-3.ensures) ∙ same_gives c.args.a c.args.c c.args.b c.requires.left c.requires.right (abs_64 c.args.a c.ranges.a) (abs_64 c.args.c c.ranges.c) c.requires.small
