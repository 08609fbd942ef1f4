use Rattle.std.proofs.Common.{rules, ◌≡◌, ◌∙◌, ap, arith, ℤ, pos, ◌*◌, ◌≤◌, ◌+ℤ◌, ◌-ℤ◌, ◌*ℤ◌, unsigned_abs, to_z, of_z, get_or, FitsSigned, w64}
use Rattle.std.specs.Int.{int_min}
use Rattle.std.proofs.Math.Facts.{to_z-of_z}
use Rattle.std.proofs.lemmas.Int.{ints}
use mir.Syntax.{w128}
use Rattle.prov_arena.specs.declared.part.Term.{Term}
use Rattle.prov_fold.specs.Graphs.{range}
use Rattle.prov_fold.specs.Scraps.{fall_of, weight_of, reach_of, width_of}
use Rattle.prov_fold.proofs.LoopLemmas.{total_step, added_step, min_small}
use Rattle.prov_fold.proofs.fold.Fold.fall.Goals as goal

pub loop-term-preserved : goal.loop-term-preserved
loop-term-preserved c =
    let i = c.loop-term.term-index in
    let x : Term = get_or c.args.terms.now c.loop-term.term-index (record { factor = pos 0; node = 0 }) in
    let fits : FitsSigned w64 (get_or c.args.terms.now c.loop-term.term-index (record { factor = pos 0; node = 0 })).factor = search rules in
    let v : to_z w64 (of_z w64 x.factor) ≡ x.factor = to_z-of_z fits in
    let fits_f : FitsSigned w128 c.from.result = search rules in
    let f : to_z w128 (of_z w128 c.from.result) ≡ x.factor = to_z-of_z fits_f ∙ c.from.ensures ∙ v in
    let fits_r : FitsSigned w128 c.reach-reach.result = search rules in
    let r : to_z w128 (of_z w128 c.reach-reach.result) ≡ c.reach-reach.result = to_z-of_z fits_r in
    let fits_m : FitsSigned w128 c.min.result = search rules in
    let m : to_z w128 (of_z w128 c.min.result) ≡ c.min.result = to_z-of_z fits_m in
    let fits_p : FitsSigned w128 c.plus-fall.result = search rules in
    let p : to_z w128 (of_z w128 c.plus-fall.result) ≡ c.plus-fall.result = to_z-of_z fits_p in
    let s = added_step (weight_of c.args.self.now) c.args.terms.now i (record { factor = pos 0; node = 0 }) c.loop-term-test.true in
    let reach : c.reach-reach.result ≡ reach_of c.args.self.now x = c.reach-reach.ensures.value ∙ ap (λ (z : ℤ). z *ℤ ((range c.args.self.now x.node).hi -ℤ (range c.args.self.now x.node).lo)) f in
    let size : unsigned_abs c.reach-reach.result ≡ weight_of c.args.self.now x = c.reach-reach.ensures.small ∙ ap (λ (z : ℤ). unsigned_abs z * width_of (range c.args.self.now x.node)) f in
    let step : c.min.result ≡ fall_of c.args.self.now x = c.min.ensures.value ∙ ap (λ (z : ℤ). int_min z (pos 0)) (r ∙ reach) in
    let small : unsigned_abs c.min.result ≤ unsigned_abs c.reach-reach.result = min_small c.reach-reach.result c.min.result (c.min.ensures.value ∙ ap (λ (z : ℤ). int_min z (pos 0)) r) in
    let sum : c.plus-fall.result ≡ to_z w128 c.loop-term.fall-bits +ℤ c.min.result = c.plus-fall.ensures ∙ ap (λ (z : ℤ). to_z w128 c.loop-term.fall-bits +ℤ z) m in
    record {
      value = rw p (total_step (fall_of c.args.self.now) c.args.terms.now i (record { factor = pos 0; node = 0 }) _ _ _ _ c.loop-term-test.true step sum c.loop-term.invariant.value);
      small = rw p (omega (arith, ints, s, small, size, sum, c.loop-term.invariant.small));
    }
