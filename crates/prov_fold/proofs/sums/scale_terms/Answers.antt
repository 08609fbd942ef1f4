use Rattle.std.proofs.Common.{rules, ◌≡◌, ◌∙◌, sym, ap, subst, ℤ, pos, ◌*ℤ◌, to_z, of_z, get_or, map, [], ◌∷◌, ◌++◌, FitsSigned, w64}
use Rattle.std.proofs.Math.Facts.{to_z-of_z}
use Rattle.std.proofs.lemmas.List.{map-append}
use mir.Syntax.{w128}
use Rattle.prov_arena.specs.declared.part.Term.{Term}
use Rattle.prov_fold.specs.Scraps.{told}
use Rattle.prov_fold.proofs.LoopLemmas.{scaled_step}
use Rattle.prov_fold.proofs.Casts.{fits_product}
use Rattle.prov_fold.proofs.sums.scale_terms.Goals as goal

pub loop-term-preserved : goal.loop-term-preserved
loop-term-preserved c =
    let blank : Term = record { factor = pos 0; node = 0 } in
    let x : Term = get_or c.args.terms.now c.loop-term.term-index (record { factor = pos 0; node = 0 }) in
    let k : ℤ = to_z w64 (of_z w64 c.args.factor) in
    let fits_x : FitsSigned w64 (get_or c.args.terms.now c.loop-term.term-index (record { factor = pos 0; node = 0 })).factor = search rules in
    let fits_k : FitsSigned w64 (to_z w64 (of_z w64 c.args.factor)) = subst (FitsSigned w64) (sym (to_z-of_z c.ranges.factor)) c.ranges.factor in
    let fits_a : FitsSigned w128 c.from.result = search rules in
    let fits_b : FitsSigned w128 c.from-in-loop-term.result = search rules in
    let a : to_z w128 (of_z w128 c.from.result) ≡ to_z w64 (of_z w64 c.args.factor) = to_z-of_z fits_a ∙ c.from.ensures in
    let b : to_z w128 (of_z w128 c.from-in-loop-term.result) ≡ x.factor = to_z-of_z fits_b ∙ c.from-in-loop-term.ensures ∙ to_z-of_z fits_x in
    let fits_p : FitsSigned w128 (to_z w128 (of_z w128 c.from.result) *ℤ to_z w128 (of_z w128 c.from-in-loop-term.result)) = rw (a, b) (fits_product (to_z w64 (of_z w64 c.args.factor)) x.factor fits_k fits_x) in
    let p : to_z w128 (of_z w128 (to_z w128 (of_z w128 c.from.result) *ℤ to_z w128 (of_z w128 c.from-in-loop-term.result))) ≡ k *ℤ x.factor = to_z-of_z fits_p ∙ (λ i. a i *ℤ b i) in
    let pushed : map told c.push.new.self.items ≡ map told c.loop-term.scraps.items ++ record { factor = to_z w128 (of_z w128 (to_z w128 (of_z w128 c.from.result) *ℤ to_z w128 (of_z w128 c.from-in-loop-term.result))); node = x.node } ∷ [] =
    ap (map told) c.in_ok-push.ensures.items ∙ map-append told c.loop-term.scraps.items _ in
    scaled_step k c.args.terms.now c.loop-term.term-index blank _ (map told c.loop-term.scraps.items) (map told c.push.new.self.items) _ c.loop-term-test.true pushed p c.loop-term.invariant
