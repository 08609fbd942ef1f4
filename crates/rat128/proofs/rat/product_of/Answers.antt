use Rattle.std.proofs.Common.{◌≡◌, ◌⊎◌, inl, inr, pos}
use Rattle.rat128.proofs.Products.{zero_gives, IsRat-zero}
use Rattle.rat128.proofs.Signs.{zero_bits}
use Rattle.rat128.proofs.rat.product_of.Goals as goal
use Rattle.rat128.proofs.rat.product_of.Goals.{then-a-eq0-via-then-a-eq0, then-a-eq0-via-else-a-eq0+then-c-eq0}

pub invariant_of-result : goal.invariant_of-result
invariant_of-result c = IsRat-zero

pub returns-then-a-eq0 : goal.returns-then-a-eq0
returns-then-a-eq0 c =
    let one : (c.args.a ≡ pos 0) ⊎ (c.args.c ≡ pos 0) = elim c.then-a-eq0.branch [ then-a-eq0-via-then-a-eq0 w ↦ inl (zero_bits c.args.a c.ranges.a w.if-a-eq0.true) | then-a-eq0-via-else-a-eq0+then-c-eq0 w ↦ inr (zero_bits c.args.c c.ranges.c w.if-c-eq0.true) ] in
    zero_gives c.args.a c.args.c c.args.b c.args.d c.requires.left c.requires.right one
