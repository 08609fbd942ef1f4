use Rattle.std.proofs.Common.{◌∙◌, ap, subst, sym}
use Rattle.rat128.specs.Fractions.{minus}
use Rattle.rat128.specs.Rationals.{value, value-minus}
use Rattle.rat128.specs.Operations.{IsRat}
use Rattle.rat128.specs.Steps.{seen}
use Rattle.rat128.proofs.Signs.{IsRat-neg, neg_bits}
use Rattle.rat128.proofs.rat.Rat.negated.Goals as goal

pub invariant_of-result : goal.invariant_of-result
invariant_of-result c =
    subst (λ z. IsRat z c.self.inside.den) (sym (neg_bits c.self.inside.num c.self.invariant.num_small)) (IsRat-neg c.self.inside.num c.self.inside.den c.self.invariant)

pub returns-clause-gives : goal.returns-clause-gives
returns-clause-gives c =
    ap (λ z. seen z c.self.inside.den) (neg_bits c.self.inside.num c.self.invariant.num_small) ∙ ap minus c.self.view_is

pub returns-clause-value : goal.returns-clause-value
returns-clause-value c =
    ap (λ z. value (seen z c.self.inside.den)) (neg_bits c.self.inside.num c.self.invariant.num_small) ∙ ap (λ p. value (minus p)) c.self.view_is ∙ sym (value-minus c.args.self.now)
