use Rattle.std.proofs.Common.{◌≡◌, ◌∙◌, ap₂, pos, not, unsigned_abs, int_lt, to_z, of_z, to_z-of_z}
use Rattle.std.specs.Int.{w128}
use mathlib.Core.Bool.{beq}
use Rattle.rat128.specs.Operations.{new_of, reduced}
use Rattle.rat128.specs.Steps.{seen, signed}
use Rattle.rat128.proofs.Operations.{IfSome-new_of}
use Rattle.rat128.proofs.Signs.{new_by_zero, new_by_size, zero_bits, not_zero_bits}
use Rattle.rat128.proofs.rat.Rat.new.Goals as goal

pub returns-then-den-eq0 : goal.returns-then-den-eq0
returns-then-den-eq0 c = record {
  gives = new_by_zero c.args.num c.args.den (zero_bits c.args.den c.ranges.den c.if-den-eq0.true);
  value = tt;
}

pub returns : goal.returns
returns c =
    let n = to_z w128 (of_z w128 c.args.num) in
    let d = to_z w128 (of_z w128 c.args.den) in
    let sizes = ap₂ (λ t b. reduced (seen (signed t (not (beq (int_lt n (pos 0)) (int_lt d (pos 0))))) b)) c.unsigned_abs.ensures.value c.unsigned_abs-2.ensures.value in
    let bits = ap₂ (λ n d. reduced (seen (signed (unsigned_abs n) (not (beq (int_lt n (pos 0)) (int_lt d (pos 0))))) (unsigned_abs d))) (to_z-of_z {w = w128} c.ranges.num) (to_z-of_z {w = w128} c.ranges.den) in
    let e : c.reduced.result ≡ new_of c.args.num c.args.den = c.reduced.ensures ∙ sizes ∙ bits ∙ new_by_size c.args.num c.args.den (not_zero_bits c.args.den c.if-den-eq0.false) in
    record { gives = e; value = IfSome-new_of c.args.num c.args.den c.reduced.result e }
