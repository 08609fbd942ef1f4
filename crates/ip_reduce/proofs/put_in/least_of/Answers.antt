use Rattle.std.proofs.Common.{◌≡◌, ◌∙◌, ◌*ℤ◌, FitsSigned, w64, pos, true, false, ap₂, subst, rules}
use Rattle.std.proofs.Math.Facts.{to_z-of_z}
use Rattle.std.specs.Prelude.{int_lt}
use Rattle.ip_rows.specs.Programs.{sides_of}
use Rattle.ip_reduce.proofs.SumLemmas.{least_at_high, least_at_low}
use Rattle.ip_reduce.proofs.put_in.least_of.Goals as goal
use mir.Syntax.{w128}

pub returns-then-term-lt0 : goal.returns-then-term-lt0
returns-then-term-lt0 c =
    let factor : FitsSigned w64 c.args.term.now.factor = search rules in
    let number : FitsSigned w64 c.side_of-side.result.hi = search rules in
    let whole : FitsSigned w128 c.product.result = search rules in
    let product : c.product.result ≡ c.args.term.now.factor *ℤ c.side_of-side.result.hi = c.product.ensures ∙ ap₂ (λ a b. a *ℤ b) (to_z-of_z factor) (to_z-of_z number) in
    to_z-of_z whole ∙ least_at_high (sides_of c.args.columns.now) c.args.term.now c.side_of-side.result c.product.result c.side_of-side.ensures (subst (λ z. int_lt z (pos 0) ≡ true) (to_z-of_z factor) c.if-term-lt0.true) product

pub returns-else-term-lt0 : goal.returns-else-term-lt0
returns-else-term-lt0 c =
    let factor : FitsSigned w64 c.args.term.now.factor = search rules in
    let number : FitsSigned w64 c.side_of-side.result.lo = search rules in
    let whole : FitsSigned w128 c.product-else-term-lt0.result = search rules in
    let product : c.product-else-term-lt0.result ≡ c.args.term.now.factor *ℤ c.side_of-side.result.lo = c.product-else-term-lt0.ensures ∙ ap₂ (λ a b. a *ℤ b) (to_z-of_z factor) (to_z-of_z number) in
    to_z-of_z whole ∙ least_at_low (sides_of c.args.columns.now) c.args.term.now c.side_of-side.result c.product-else-term-lt0.result c.side_of-side.ensures (subst (λ z. int_lt z (pos 0) ≡ false) (to_z-of_z factor) c.if-term-lt0.false) product
