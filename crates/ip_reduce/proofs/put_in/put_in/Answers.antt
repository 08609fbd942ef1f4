use Rattle.std.proofs.Common.{◌≡◌, ◌∙◌, ◌-ℤ◌, ℤ, FitsSigned, to_z, of_z, w64, List, sym, ap, ap₂, subst, rules}
use Rattle.std.proofs.Math.Facts.{to_z-of_z}
use Rattle.ip_rows.specs.declared.rows.Coef.{Coef}
use Rattle.ip_rows.specs.Programs.{sides_of, fixed_sum}
use Rattle.ip_reduce.specs.Rows.{IsLight, open_terms}
use Rattle.ip_reduce.proofs.Casts.{fits_wider}
use Rattle.ip_reduce.proofs.RowLemmas.{same_rows}
use Rattle.ip_reduce.proofs.put_in.put_in.Goals as goal
use mir.Syntax.{w128}

pub fixed_total-requires : goal.fixed_total-requires
fixed_total-requires c = subst (λ (ts : List Coef). IsLight (sides_of c.args.columns.now) ts) (sym c.as_slice-terms.ensures) c.requires.light

pub open_terms-requires : goal.open_terms-requires
open_terms-requires c = subst (λ (ts : List Coef). IsLight (sides_of c.args.columns.now) ts) (sym c.as_slice-terms.ensures) c.requires.light

-- what is left of the least
left : (c : goal.In_ok-open_terms) → to_z w128 (of_z w128 (to_z w128 (of_z w128 c.from.result) -ℤ to_z w128 (of_z w128 c.fixed_total.result))) ≡ c.args.row.now.least -ℤ fixed_sum (sides_of c.args.columns.now) c.args.row.now.terms
left c =
    let least : FitsSigned w64 c.args.row.now.least = search rules in
    let wide : FitsSigned w128 c.from.result = search rules in
    let total : FitsSigned w128 c.fixed_total.result = search rules in
    let a : to_z w128 (of_z w128 c.from.result) ≡ c.args.row.now.least = to_z-of_z wide ∙ c.from.ensures ∙ to_z-of_z least in
    let b : to_z w128 (of_z w128 c.fixed_total.result) ≡ fixed_sum (sides_of c.args.columns.now) c.args.row.now.terms = to_z-of_z total ∙ c.fixed_total.ensures.total ∙ ap (fixed_sum (sides_of c.args.columns.now)) c.as_slice-terms.ensures in
    let d : to_z w128 (of_z w128 c.from.result) -ℤ to_z w128 (of_z w128 c.fixed_total.result) ≡ c.args.row.now.least -ℤ fixed_sum (sides_of c.args.columns.now) c.args.row.now.terms = ap₂ (λ x y. x -ℤ y) a b in
    ap (λ (z : ℤ). to_z w128 (of_z w128 z)) d ∙ to_z-of_z (fits_wider (c.args.row.now.least -ℤ fixed_sum (sides_of c.args.columns.now) c.args.row.now.terms) c.requires.fits)

pub overflow_cast-result : goal.overflow_cast-result
overflow_cast-result c = subst (λ (z : ℤ). FitsSigned w64 z) (sym (left c)) c.requires.fits

pub returns : goal.returns
returns c =
    same_rows _ _ (c.in_ok-open_terms.ensures ∙ ap (open_terms (sides_of c.args.columns.now)) c.as_slice-terms.ensures)
    (ap (λ (z : ℤ). to_z w64 (of_z w64 z)) (left c) ∙ to_z-of_z c.requires.fits)
