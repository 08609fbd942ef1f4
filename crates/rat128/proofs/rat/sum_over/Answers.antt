use Rattle.std.proofs.Common.{◌≡◌, ◌∙◌, ◌*◌, ◌/◌, ◌<◌, ◌+ℤ◌, ◌*ℤ◌, pos, ap, ap₂, sym, subst, to_z, of_z, to_z-of_z, unsigned_abs}
use Rattle.std.specs.Int.{w128}
use Rattle.rat128.specs.Divisors.{gcd}
use Rattle.rat128.proofs.Operations.{small_bits, small_den_is, den_positive, common_of_sum}
use Rattle.rat128.proofs.rat.sum_over.Goals as goal

-- the denominator of the sum
den_is : (c : goal.In_ok-den) → c.in_ok-den.den ≡ c.args.b * (c.args.d / c.args.common)
den_is c =
    small_den_is (c.args.b * c.divide-right.result) c.in_ok-den.den (sym c.in_ok-den.ensures) ∙ ap (λ d. c.args.b * d) c.divide-right.ensures

-- its numerator
num_is : (c : goal.In_ok-den) → to_z w128 (of_z w128 c.in_ok-num.num) ≡ c.args.a *ℤ pos (c.args.d / c.args.common) +ℤ c.args.c *ℤ pos (c.args.b / c.args.common)
num_is c =
    small_bits _ _ (sym c.in_ok-num.ensures) ∙ ap₂ ◌+ℤ◌ (small_bits _ _ (sym c.in_ok-first.ensures) ∙ ap₂ (λ a d. a *ℤ pos d) (to_z-of_z c.ranges.a) c.divide-right.ensures) (small_bits _ _ (sym c.in_ok-second.ensures) ∙ ap₂ (λ a d. a *ℤ pos d) (to_z-of_z c.ranges.c) c.divide-left.ensures)

pub lowest-requires-clause-positive : goal.lowest-requires-clause-positive
lowest-requires-clause-positive c =
    subst (λ n. 0 < n) (sym (den_is c)) (den_positive c.args.b c.args.d c.args.common c.requires.left.positive c.requires.right.positive c.requires.common)

pub lowest-requires-clause-common : goal.lowest-requires-clause-common
lowest-requires-clause-common c =
    ap₂ (λ s m. gcd (unsigned_abs s) m) (num_is c) (den_is c) ∙ common_of_sum c.args.a c.args.c c.args.b c.args.d c.args.common c.requires.left c.requires.right c.requires.common ∙ ap (λ s. gcd (unsigned_abs s) c.args.common) (sym (num_is c))
