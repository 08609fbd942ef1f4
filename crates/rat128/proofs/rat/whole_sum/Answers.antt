use Rattle.std.proofs.Common.{◌≡◌, ◌∙◌, Some, None, ap, ap₂, sym, to_z, of_z, to_z-of_z, ◌+ℤ◌}
use Rattle.std.specs.Int.{w128}
use Rattle.rat128.specs.Divisors.{lowest}
use Rattle.rat128.specs.Steps.{small, seen}
use Rattle.rat128.proofs.Operations.{small_bits, small_is}
use Rattle.rat128.proofs.Sums.{whole_steps}
use Rattle.rat128.proofs.rat.whole_sum.Goals as goal

pub returns-in_err-num : goal.returns-in_err-num
returns-in_err-num c =
    c.from_residual.ensures ∙ whole_steps c.args.a c.args.c None c.requires.left c.requires.right (c.in_err-num.ensures ∙ ap₂ (λ a c. small (a +ℤ c)) (to_z-of_z c.ranges.a) (to_z-of_z c.ranges.c))

pub returns : goal.returns
returns c =
    let given : Some c.in_ok-num.num ≡ small (c.args.a +ℤ c.args.c) = c.in_ok-num.ensures ∙ ap₂ (λ a c. small (a +ℤ c)) (to_z-of_z c.ranges.a) (to_z-of_z c.ranges.c) in
    let num : to_z w128 (of_z w128 c.in_ok-num.num) ≡ c.in_ok-num.num = small_bits (c.args.a +ℤ c.args.c) c.in_ok-num.num (sym given) ∙ sym (small_is (c.args.a +ℤ c.args.c) c.in_ok-num.num (sym given)) in
    ap Some (c.lowest.ensures ∙ ap (λ z. lowest (seen z 1)) num) ∙ whole_steps c.args.a c.args.c (Some c.in_ok-num.num) c.requires.left c.requires.right given
