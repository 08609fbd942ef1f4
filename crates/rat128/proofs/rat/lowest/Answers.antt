use Rattle.std.proofs.Common.{◌≡◌, ℕ, ℤ, FitsSigned, ◌∙◌, sym, subst, subst₂, ap, ap₂, to_z, of_z, to_z-of_z, unsigned_abs, int_div, pos}
use Rattle.std.specs.Int.{w128}
use Rattle.rat128.specs.Divisors.{gcd}
use Rattle.rat128.specs.Operations.{IsRat}
use Rattle.rat128.specs.Steps.{seen}
use Rattle.rat128.proofs.Lowest.{IsRat-from_one, IsRat-lowest, seen-lowest, seen-lowest_one, divisor_small}
use Rattle.rat128.proofs.rat.lowest.Goals as goal

pub invariant_of-result : goal.invariant_of-result
invariant_of-result c =
    subst (λ z. IsRat z c.args.den) (sym (to_z-of_z c.ranges.num)) (IsRat-from_one c.args.num c.args.den c.args.common c.requires.positive c.requires.num_small c.requires.den_small c.requires.common c.if-common-eq1.true)

pub returns-then-common-eq1 : goal.returns-then-common-eq1
returns-then-common-eq1 c =
    ap (λ z. seen z c.args.den) (to_z-of_z c.ranges.num) ∙ seen-lowest_one c.args.num c.args.den (IsRat-from_one c.args.num c.args.den c.args.common c.requires.positive c.requires.num_small c.requires.den_small c.requires.common c.if-common-eq1.true)

-- the divisor that is taken out
divisor_is : (n : ℤ) (k g u : ℕ) → FitsSigned w128 n → u ≡ unsigned_abs (to_z w128 (of_z w128 n)) → g ≡ gcd u k → g ≡ gcd (unsigned_abs n) k
divisor_is n k g u f e h = h ∙ ap (λ m. gcd m k) (e ∙ ap unsigned_abs (to_z-of_z f))

pub quotient-requires-clause-small : goal.quotient-requires-clause-small
quotient-requires-clause-small c =
    divisor_small (unsigned_abs c.args.num) c.args.den c.args.common c.gcd-divisor.result c.requires.positive c.requires.den_small c.requires.common (divisor_is c.args.num c.args.common _ _ c.ranges.num c.unsigned_abs.ensures.value c.gcd-divisor.ensures.value)

-- the numerator that is left
num_is : (c : goal.After-divide) → to_z w128 (of_z w128 c.quotient.result) ≡ int_div c.args.num (pos c.gcd-divisor.result)
num_is c =
    to_z-of_z {w = w128} (record { sfits = c.quotient.type_inv }) ∙ c.quotient.ensures ∙ ap (λ n. int_div n (pos c.gcd-divisor.result)) (to_z-of_z c.ranges.num)

pub invariant_of-result-2 : goal.invariant_of-result-2
invariant_of-result-2 c =
    subst₂ IsRat (sym (num_is c)) (sym c.divide.ensures) (IsRat-lowest c.args.num c.args.den c.args.common c.gcd-divisor.result c.requires.positive c.requires.num_small c.requires.den_small c.requires.common (divisor_is c.args.num c.args.common _ _ c.ranges.num c.unsigned_abs.ensures.value c.gcd-divisor.ensures.value))

pub returns : goal.returns
returns c =
    ap₂ seen (num_is c) c.divide.ensures ∙ seen-lowest c.args.num c.args.den c.args.common c.gcd-divisor.result c.requires.positive c.requires.common (divisor_is c.args.num c.args.common _ _ c.ranges.num c.unsigned_abs.ensures.value c.gcd-divisor.ensures.value)
