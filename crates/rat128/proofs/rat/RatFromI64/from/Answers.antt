use Rattle.std.proofs.Common.{◌∙◌, ap, to_z-of_z}
use Rattle.std.specs.Int.{w128}
use Rattle.rat128.specs.Divisors.{lowest}
use Rattle.rat128.specs.Steps.{seen}
use Rattle.rat128.proofs.Lowest.{lowest-whole}
use Rattle.rat128.proofs.rat.RatFromI64.from.Goals as goal

pub returns : goal.returns
returns c =
    c.lowest.ensures ∙ ap (λ z. lowest (seen z 1)) (to_z-of_z {w = w128} (record { sfits = c.from.type_inv }) ∙ c.from.ensures ∙ to_z-of_z c.ranges.n) ∙ lowest-whole c.args.n
