use Rattle.std.proofs.Common.{◌≡◌, ◌∙◌, ◌*ℤ◌, FitsSigned, of_z, w64, pos, refl, ap, ap₂, rules}
use Rattle.std.proofs.Math.Facts.{to_z-of_z}
use Rattle.ip_rows.specs.Programs.{sides_of}
use Rattle.ip_reduce.proofs.Casts.{same_number}
use Rattle.ip_reduce.proofs.SumLemmas.{fixed_here, fixed_nowhere}
use Rattle.ip_reduce.proofs.put_in.part_if_fixed.Goals as goal
use mir.Syntax.{w128}

pub returns-then-side : goal.returns-then-side
returns-then-side c =
    let high : FitsSigned w64 c.side_of-side.result.hi = search rules in
    let factor : FitsSigned w64 c.args.term.now.factor = search rules in
    let number : FitsSigned w64 c.side_of-side.result.lo = search rules in
    let whole : FitsSigned w128 c.product.result = search rules in
    let product : c.product.result ≡ c.args.term.now.factor *ℤ c.side_of-side.result.lo = c.product.ensures ∙ ap₂ (λ a b. a *ℤ b) (to_z-of_z factor) (to_z-of_z number) in
    to_z-of_z whole ∙ fixed_here (sides_of c.args.columns.now) c.args.term.now c.side_of-side.result c.product.result c.side_of-side.ensures (same_number c.side_of-side.result.lo c.side_of-side.result.hi number high c.if-side.true) product

pub returns-else-side : goal.returns-else-side
returns-else-side c = fixed_nowhere (sides_of c.args.columns.now) c.args.term.now c.side_of-side.result (pos 0) c.side_of-side.ensures (λ e. c.if-side.false (ap (of_z w64) e)) refl
