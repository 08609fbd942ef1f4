use Rattle.std.proofs.Common.{◌∙◌, ap₂, to_z-of_z}
use Rattle.rat128.specs.Steps.{sum_in_steps}
use Rattle.rat128.proofs.Operations.{add_of_seen}
use Rattle.rat128.proofs.rat.wide_sum.Goals as goal

pub returns : goal.returns
returns c =
    c.sum_over.ensures ∙ ap₂ (λ a c'. sum_in_steps a c.args.b c' c.args.d c.gcd.result) (to_z-of_z c.ranges.a) (to_z-of_z c.ranges.c) ∙ add_of_seen c.args.a c.args.c c.args.b c.args.d c.gcd.result c.requires.left c.requires.right c.gcd.ensures.value
