use Rattle.std.proofs.Common.{rules, ◌≡◌, ◌∙◌, sym, ap, subst, arith, ◌+ℤ◌, ◌-ℤ◌, to_z, of_z, FitsSigned, w64}
use Rattle.std.proofs.Math.Facts.{to_z-of_z}
use Rattle.std.proofs.lemmas.Int.{ints}
use mir.Syntax.{w128}
use Rattle.prov_arena.specs.Formulas.{Formula, LinNode}
use Rattle.prov_fold.specs.Sums.{total_by}
use Rattle.prov_fold.specs.Graphs.{Fits, node, range}
use Rattle.prov_fold.specs.Rules.{terms_in, constant_in}
use Rattle.prov_fold.specs.Scraps.{at_low}
use Rattle.prov_fold.proofs.SumLemmas.{number_weight, number_base}
use Rattle.prov_fold.proofs.fold.Fold.base_in.Goals as goal

pub fall-requires-clause-weight : goal.fall-requires-clause-weight
fall-requires-clause-weight c =
    let is : LinNode c.in-Lin.field-0 c.in-Lin.terms.now ≡ node c.args.self.now c.args.number = c.in-Lin.ensures.part in
    number_weight c.args.self.now (range c.args.self.now c.args.number) c.in-Lin.field-0 c.in-Lin.terms.now c.node.ensures.fold (subst (Fits c.args.self.now (range c.args.self.now c.args.number)) (sym is) c.node.ensures.fits)

pub returns-in-Lin-clause-value : goal.returns-in-Lin-clause-value
returns-in-Lin-clause-value c =
    let g = c.args.self.now in
    let is : LinNode c.in-Lin.field-0 c.in-Lin.terms.now ≡ node c.args.self.now c.args.number = c.in-Lin.ensures.part in
    let fits_s : FitsSigned w64 c.range.result.lo = search rules in
    let fits_f : FitsSigned w128 c.from.result = search rules in
    let f : to_z w128 (of_z w128 c.from.result) ≡ c.range.result.lo = to_z-of_z fits_f ∙ c.from.ensures ∙ to_z-of_z fits_s in
    let fits_d : FitsSigned w128 c.fall.result = search rules in
    let d : to_z w128 (of_z w128 c.fall.result) ≡ c.fall.result = to_z-of_z fits_d in
    let small_lo = c.range.ensures.fits.small_lo in
    let small_d = c.fall.ensures.small in
    let fits_all : FitsSigned w128 (to_z w128 (of_z w128 c.from.result) -ℤ to_z w128 (of_z w128 c.fall.result)) = rw (f, d) (omega (arith, ints, small_lo, small_d)) in
    let value : c.range.result.lo -ℤ c.fall.result ≡ c.in-Lin.field-0 +ℤ total_by (at_low g) c.in-Lin.terms.now = number_base g c.range.result c.in-Lin.field-0 c.in-Lin.terms.now c.fall.result c.node.ensures.fold (subst (Fits g c.range.result) (sym is) c.range.ensures.fits) c.fall.ensures.value in
    to_z-of_z fits_all ∙ (λ i. f i -ℤ d i) ∙ value ∙ ap (λ (n : Formula). constant_in n +ℤ total_by (at_low g) (terms_in c.args.number n)) is
