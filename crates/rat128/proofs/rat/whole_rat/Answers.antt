use Rattle.std.proofs.Common.{◌∙◌, ap, to_z-of_z}
use Rattle.rat128.specs.Divisors.{lowest}
use Rattle.rat128.specs.Steps.{seen}
use Rattle.rat128.proofs.Lowest.{lowest-whole}
use Rattle.rat128.proofs.rat.whole_rat.Goals as goal

pub returns : goal.returns
returns c =
    c.lowest.ensures ∙ ap (λ z. lowest (seen z 1)) (to_z-of_z c.ranges.num) ∙ lowest-whole c.args.num
