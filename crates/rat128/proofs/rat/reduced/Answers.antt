use Rattle.std.proofs.Common.{◌≡◌, ◌⊎◌, ◌∙◌, ◌/◌, ◌≤◌, ◌^◌, inl, inr, Some, ap, ap₂, sym, subst₂, arith, to_z, of_z, to_z-of_z}
use Rattle.std.specs.Int.{w128}
use Rattle.rat128.specs.Operations.{IsRat}
use Rattle.rat128.specs.Steps.{seen, signed}
use Rattle.rat128.proofs.Signs.{reduced_some, reduced_none, IsRat-signed}
use Rattle.rat128.proofs.rat.reduced.Goals as goal
use Rattle.rat128.proofs.rat.reduced.Goals.{then-top-gt-LARGEST-via-then-top-gt-LARGEST, then-top-gt-LARGEST-via-else-top-gt-LARGEST+then-bottom-gt-LARGEST}

-- the numerator
num_is : (c : goal.After-signed) → to_z w128 (of_z w128 c.signed.result) ≡ signed (c.args.top / c.gcd-common.result) c.args.negative
num_is c =
    to_z-of_z {w = w128} (record { sfits = c.signed.type_inv }) ∙ c.signed.ensures ∙ ap (λ n. signed n c.args.negative) c.divide-top.ensures

pub invariant_of-result : goal.invariant_of-result
invariant_of-result c =
    subst₂ IsRat (sym (num_is c)) (sym c.divide-bottom.ensures) (IsRat-signed c.args.top c.args.bottom c.gcd-common.result c.args.negative c.requires c.gcd-common.ensures.value (omega arith) (omega arith))

pub returns-then-top-gt-LARGEST : goal.returns-then-top-gt-LARGEST
returns-then-top-gt-LARGEST c =
    let above : (2 ^ 127 ≤ c.args.top / c.gcd-common.result) ⊎ (2 ^ 127 ≤ c.args.bottom / c.gcd-common.result) = elim c.then-top-gt-LARGEST.branch [ then-top-gt-LARGEST-via-then-top-gt-LARGEST w ↦ inl (omega (arith, w.if-top-gt-LARGEST.true)) | then-top-gt-LARGEST-via-else-top-gt-LARGEST+then-bottom-gt-LARGEST w ↦ inr (omega (arith, w.if-bottom-gt-LARGEST.true)) ] in
    reduced_none c.args.top c.args.bottom c.gcd-common.result c.args.negative c.requires c.gcd-common.ensures.value above

pub returns : goal.returns
returns c =
    ap Some (ap₂ seen (num_is c) c.divide-bottom.ensures) ∙ reduced_some c.args.top c.args.bottom c.gcd-common.result c.args.negative c.requires c.gcd-common.ensures.value (omega arith) (omega arith)
