use Rattle.std.proofs.Common.{◌≡◌, ◌∙◌, ap, ap₂, pos, int_lt, unsigned_abs, sym, subst₂, to_z, of_z, to_z-of_z}
use Rattle.std.specs.Int.{w128}
use Rattle.rat128.specs.Operations.{IsRat}
use Rattle.rat128.specs.Steps.{seen, signed}
use Rattle.rat128.proofs.Signs.{IsRat-inverse, inverse_by_size}
use Rattle.rat128.proofs.rat.inverse_of.Goals as goal

num_is : (c : goal.After-unsigned_abs) → to_z w128 (of_z w128 c.signed.result) ≡ signed c.args.d (int_lt c.args.c (pos 0))
num_is c =
    to_z-of_z {w = w128} (record { sfits = c.signed.type_inv }) ∙ c.signed.ensures ∙ ap (λ z. signed c.args.d (int_lt z (pos 0))) (to_z-of_z c.ranges.c)

den_is : (c : goal.After-unsigned_abs) → c.unsigned_abs.result ≡ unsigned_abs c.args.c
den_is c = c.unsigned_abs.ensures.value ∙ ap unsigned_abs (to_z-of_z c.ranges.c)

pub invariant_of-result : goal.invariant_of-result
invariant_of-result c =
    subst₂ IsRat (sym (num_is c)) (sym (den_is c)) (IsRat-inverse c.args.c c.args.d (int_lt c.args.c (pos 0)) c.requires.given c.requires.nonzero)

pub returns : goal.returns
returns c =
    ap₂ seen (num_is c) (den_is c) ∙ inverse_by_size c.args.c c.args.d c.requires.given.positive c.requires.nonzero
