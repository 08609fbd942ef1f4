use Rattle.std.proofs.Common.{◌≡◌, ◌∙◌, ◌-ℤ◌, neg_ℤ, pos, ap, sym, subst, to_z, of_z}
use Rattle.std.specs.Int.{w128, int_div_euclid}
use Rattle.rat128.specs.Fractions.{ceil_of}
use Rattle.rat128.specs.Rationals.{value, IsCeiling}
use Rattle.rat128.proofs.Orders.{floor_of_seen, ceil_of_seen}
use Rattle.rat128.proofs.Rationals.{IsCeiling-ceil_of}
use Rattle.rat128.proofs.Signs.{neg_bits}
use Rattle.rat128.proofs.rat.Rat.ceil.Goals as goal

ceil_is : (c : goal.After-rounded_down) → to_z w128 (of_z w128 (pos 0 -ℤ to_z w128 (of_z w128 c.rounded_down.result))) ≡ ceil_of c.args.self.now
ceil_is c =
    let num = neg_bits c.self.inside.num c.self.invariant.num_small in
    neg_bits c.rounded_down.result c.rounded_down.ensures.small ∙ ap neg_ℤ (c.rounded_down.ensures.value ∙ ap (λ n. int_div_euclid n (pos c.self.inside.den)) num ∙ floor_of_seen (neg_ℤ c.self.inside.num) c.self.inside.den c.self.invariant.positive) ∙ ceil_of_seen c.self.inside.num c.self.inside.den ∙ ap ceil_of c.self.view_is

pub returns-clause-value : goal.returns-clause-value
returns-clause-value c =
    subst (IsCeiling (value c.args.self.now)) (sym (ceil_is c)) (IsCeiling-ceil_of c.args.self.now)

pub returns-clause-gives : goal.returns-clause-gives
returns-clause-gives c = ceil_is c
