use Rattle.std.proofs.Common.{rules, ◌≡◌, ◌∙◌, ◌<◌, ◌^◌, sym, ap, subst, pos, ◌+ℤ◌, unsigned_abs, to_z, of_z, w64, FitsSigned, length, get_or, set}
use Rattle.std.proofs.Math.Facts.{to_z-of_z}
use Rattle.std.proofs.lemmas.Int.{fits_signed_from_abs}
use Rattle.std.proofs.lemmas.List.{get_or_default}
use Rattle.prov_arena.specs.declared.part.Term.{Term}
use Rattle.used_columns.proofs.SeedLemmas.{bulk_each, total_fits, total_small, totals_begin, totals_end, totals_next}
use Rattle.used_columns.proofs.rows.add_all.Goals as goal

pub loop-term-init : goal.loop-term-init
loop-term-init c = totals_begin (length c.args.totals.now) c.args.terms.now c.args.totals.now c.requires.totals

sum_is : (c : goal.After-sum-arg-in-loop-term-1)
    → let t : Term = get_or c.args.terms.now c.loop-term.term-index (record { factor = pos 0; node = 0 }) in
    to_z w64 (of_z w64 (get_or c.loop-term.totals t.node (pos 0))) +ℤ to_z w64 (of_z w64 t.factor) ≡ get_or c.loop-term.totals t.node (pos 0) +ℤ t.factor
sum_is c =
    let blank : Term = record { factor = pos 0; node = 0 } in
    let t : Term = get_or c.args.terms.now c.loop-term.term-index (record { factor = pos 0; node = 0 }) in
    let there = c.requires.there c.loop-term.term-index blank c.loop-term-test.true in
    let fits_a : FitsSigned w64 (get_or c.loop-term.totals t.node (pos 0)) = fits_signed_from_abs w64 _ (total_small (length c.args.totals.now) c.args.terms.now c.loop-term.term-index c.loop-term.totals t.node there c.requires.light c.loop-term.invariant) in
    let fits_b : FitsSigned w64 t.factor = fits_signed_from_abs w64 _ (bulk_each (2 ^ 63) c.args.terms.now c.requires.light c.loop-term.term-index blank c.loop-term-test.true) in
    λ i. to_z-of_z fits_a i +ℤ to_z-of_z fits_b i

pub sum-requires : goal.sum-requires
sum-requires c =
    let blank : Term = record { factor = pos 0; node = 0 } in
    let t : Term = get_or c.args.terms.now c.loop-term.term-index (record { factor = pos 0; node = 0 }) in
    subst (λ m. unsigned_abs m < 2 ^ 63) (sym (sum_is c))
    (total_fits (length c.args.totals.now) c.args.terms.now c.loop-term.term-index t c.loop-term.totals c.loop-term-test.true (get_or_default c.args.terms.now c.loop-term.term-index blank t c.loop-term-test.true)
    (c.requires.there c.loop-term.term-index blank c.loop-term-test.true) c.loop-term.invariant c.requires.light)

pub loop-term-preserved : goal.loop-term-preserved
loop-term-preserved c =
    let blank : Term = record { factor = pos 0; node = 0 } in
    let t : Term = get_or c.args.terms.now c.loop-term.term-index (record { factor = pos 0; node = 0 }) in
    let fits : FitsSigned w64 c.sum.result = search rules in
    let is : to_z w64 (of_z w64 c.sum.result) ≡ get_or c.loop-term.totals t.node (pos 0) +ℤ t.factor = to_z-of_z fits ∙ c.sum.ensures ∙ sum_is c.before in
    totals_next (length c.args.totals.now) c.args.terms.now c.loop-term.term-index t c.loop-term.totals c.loop-term-test.true (get_or_default c.args.terms.now c.loop-term.term-index blank t c.loop-term-test.true)
    (c.requires.there c.loop-term.term-index blank c.loop-term-test.true) c.loop-term.invariant _ (ap (set c.loop-term.totals t.node) is)

pub returns : goal.returns
returns c = totals_end (length c.args.totals.now) c.loop-term.term-index c.args.terms.now c.loop-term.totals c.loop-term-test.false c.loop-term.invariant
