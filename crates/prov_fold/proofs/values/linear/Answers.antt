use Rattle.std.proofs.Common.{rules, ◌≡◌, ◌∙◌, ap, arith, ℤ, pos, ◌+ℤ◌, ◌*ℤ◌, unsigned_abs, to_z, of_z, get_or, FitsSigned, w64}
use Rattle.std.proofs.Math.Facts.{to_z-of_z}
use Rattle.std.proofs.lemmas.Int.{ints}
use mir.Syntax.{w128}
use Rattle.prov_arena.specs.declared.part.Term.{Term}
use Rattle.prov_fold.specs.Values.{number_at}
use Rattle.prov_fold.proofs.LoopLemmas.{total_step, added_step}
use Rattle.prov_fold.proofs.values.linear.Goals as goal

pub loop-term-preserved : goal.loop-term-preserved
loop-term-preserved c =
    let i = c.loop-term.term-index in
    let x : Term = get_or c.args.terms.now c.loop-term.term-index (record { factor = pos 0; node = 0 }) in
    let fits_x : FitsSigned w64 (get_or c.args.terms.now c.loop-term.term-index (record { factor = pos 0; node = 0 })).factor = search rules in
    let v : to_z w64 (of_z w64 x.factor) ≡ x.factor = to_z-of_z fits_x in
    let fits_n : FitsSigned w128 c.from.result = search rules in
    let fits_w : FitsSigned w64 (number_at c.args.values.now (get_or c.args.terms.now c.loop-term.term-index (record { factor = pos 0; node = 0 })).node) = search rules in
    let n : to_z w128 (of_z w128 c.from.result) ≡ number_at c.args.values.now x.node = to_z-of_z fits_n ∙ c.from.ensures ∙ to_z-of_z fits_w in
    let fits_m : FitsSigned w128 c.part_times-more.result = search rules in
    let m : to_z w128 (of_z w128 c.part_times-more.result) ≡ c.part_times-more.result = to_z-of_z fits_m in
    let fits_p : FitsSigned w128 c.plus-sum.result = search rules in
    let p : to_z w128 (of_z w128 c.plus-sum.result) ≡ c.plus-sum.result = to_z-of_z fits_p in
    let s = added_step (λ (t : Term). unsigned_abs t.factor) c.args.terms.now i (record { factor = pos 0; node = 0 }) c.loop-term-test.true in
    let small = c.part_times-more.ensures.small in
    let sum : c.plus-sum.result ≡ to_z w128 c.loop-term.sum-bits +ℤ c.part_times-more.result = c.plus-sum.ensures ∙ ap (λ (z : ℤ). to_z w128 c.loop-term.sum-bits +ℤ z) m in
    let step : c.part_times-more.result ≡ x.factor *ℤ number_at c.args.values.now x.node = c.part_times-more.ensures.value ∙ (λ j. v j *ℤ n j) in
    record {
      value = rw p (total_step (λ (t : Term). t.factor *ℤ number_at c.args.values.now t.node) c.args.terms.now i (record { factor = pos 0; node = 0 }) _ _ _ _ c.loop-term-test.true step sum c.loop-term.invariant.value);
      small = rw p (omega (arith, ints, s, small, ap unsigned_abs v, sum, c.loop-term.invariant.small));
    }
