use Rattle.std.proofs.Common.{◌*◌, ◌%◌, ◌^◌, sym, ap, ◌∙◌}
use Rattle.std.specs.Int.{w64, trailing_zeros}
use Rattle.rat128.specs.Divisors.{gcd}
use Rattle.rat128.proofs.Divisors.{gcd_same}
use Rattle.rat128.proofs.Halving.{gcd_turn, gcd_shifted, odd_min}
use Rattle.rat128.proofs.divisor.halved_u64.Goals as goal

pub loop-x-preserved : goal.loop-x-preserved
loop-x-preserved c =
    let x = c.loop-x.x in
    let y = c.loop-x.y in
    let rest = c.odd_part_u64-rest in
    let kept = c.loop-x.invariant in
    record {
      left = ap (λ n. n % 2) c.min-x.ensures ∙ odd_min x y kept.left kept.right;
      right = rest.ensures.odd;
      same = ap (λ n. gcd n rest.result) c.min-x.ensures ∙ gcd_turn x y (trailing_zeros w64 c.abs_diff.result) rest.result kept.left kept.right c.loop-x-test.true (sym c.abs_diff.ensures ∙ rest.ensures.part) ∙ kept.same;
    }

pub returns : goal.returns
returns c =
    let x = c.loop-x.x in
    let left = c.odd_part_u64-x in
    let right = c.odd_part_u64-y in
    let is = sym c.loop-x.invariant.same ∙ ap (gcd x) (sym c.loop-x-test.false) ∙ gcd_same x in
    ap (λ n. x * 2 ^ n % 2 ^ 64) c.min.ensures ∙ gcd_shifted w64 c.args.a c.args.b left.result right.result x c.requires.left c.ranges.a.fits left.ensures.odd right.ensures.odd left.ensures.part right.ensures.part is
