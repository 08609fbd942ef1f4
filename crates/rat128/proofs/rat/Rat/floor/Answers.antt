use Rattle.std.proofs.Common.{◌≡◌, ◌∙◌, pos, ap, sym, subst, to_z, of_z, to_z-of_z}
use Rattle.std.specs.Int.{w128, int_div_euclid}
use Rattle.std.proofs.lemmas.Int.{fits_signed_from_abs}
use Rattle.rat128.specs.Fractions.{floor_of}
use Rattle.rat128.specs.Rationals.{value, IsFloor}
use Rattle.rat128.proofs.Orders.{floor_of_seen}
use Rattle.rat128.proofs.Rationals.{IsFloor-floor_of}
use Rattle.rat128.proofs.rat.Rat.floor.Goals as goal

floor_is : (c : goal.After-rounded_down) → to_z w128 (of_z w128 c.rounded_down.result) ≡ floor_of c.args.self.now
floor_is c =
    let num = to_z-of_z (fits_signed_from_abs w128 c.self.inside.num c.self.invariant.num_small) in
    to_z-of_z {w = w128} (record { sfits = c.rounded_down.type_inv }) ∙ c.rounded_down.ensures.value ∙ ap (λ n. int_div_euclid n (pos c.self.inside.den)) num ∙ floor_of_seen c.self.inside.num c.self.inside.den c.self.invariant.positive ∙ ap floor_of c.self.view_is

pub returns-clause-value : goal.returns-clause-value
returns-clause-value c =
    subst (IsFloor (value c.args.self.now)) (sym (floor_is c)) (IsFloor-floor_of c.args.self.now)

pub returns-clause-gives : goal.returns-clause-gives
returns-clause-gives c = floor_is c
