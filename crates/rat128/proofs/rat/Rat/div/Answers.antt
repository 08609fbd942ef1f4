use Rattle.std.proofs.Common.{◌≡◌, ◌≢◌, ◌∙◌, ap, pos, subst, sym, to_z-of_z}
use Rattle.std.specs.Int.{w128}
use Rattle.std.proofs.lemmas.Int.{fits_signed_from_abs}
use Rattle.rat128.specs.Fractions.{inverse}
use Rattle.rat128.specs.Operations.{mul_of, div_of}
use Rattle.rat128.specs.Steps.{seen}
use Rattle.rat128.proofs.Operations.{IfSome-div_of}
use Rattle.rat128.proofs.Signs.{div_by_zero, div_by_inverse, zero_bits, not_zero_bits}
use Rattle.rat128.proofs.rat.Rat.div.Goals as goal

pub returns-then-other-eq0-clause-gives : goal.returns-then-other-eq0-clause-gives
returns-then-other-eq0-clause-gives c =
    let zero : c.other.inside.num ≡ pos 0 = zero_bits c.other.inside.num (fits_signed_from_abs w128 c.other.inside.num c.other.invariant.num_small) c.if-other-eq0.true in
    div_by_zero c.args.self.now c.args.other.now (ap (λ f. f.num) (sym c.other.view_is) ∙ zero)

-- the product with the inverse is the quotient
product_is : (c : goal.After-mul) → c.mul.result ≡ div_of c.args.self.now c.args.other.now
product_is c =
    let there = to_z-of_z (fits_signed_from_abs w128 c.other.inside.num c.other.invariant.num_small) in
    let other : c.inverse_of.result ≡ inverse c.args.other.now = c.inverse_of.ensures ∙ ap (λ z. inverse (seen z c.other.inside.den)) there ∙ ap inverse c.other.view_is in
    let apart : c.args.other.now.num ≢ pos 0 = subst (λ f. f.num ≢ pos 0) c.other.view_is (not_zero_bits c.other.inside.num c.if-other-eq0.false) in
    c.mul.ensures.gives ∙ ap (mul_of c.args.self.now) other ∙ div_by_inverse c.args.self.now c.args.other.now apart

pub returns-clause-gives : goal.returns-clause-gives
returns-clause-gives c = product_is c

pub returns-clause-value : goal.returns-clause-value
returns-clause-value c =
    IfSome-div_of c.args.self.now c.args.other.now c.mul.result (product_is c)
