use Rattle.std.proofs.Common.{rules, ◌≡◌, ◌∙◌, ap, arith, ℤ, pos, ◌*◌, ◌≤◌, ◌+ℤ◌, ◌-ℤ◌, ◌*ℤ◌, unsigned_abs, to_z, of_z, get_or, FitsSigned}
use Rattle.std.specs.Int.{int_min, int_max}
use Rattle.std.proofs.Math.Facts.{to_z-of_z}
use Rattle.std.proofs.lemmas.Int.{ints}
use mir.Syntax.{w128}
use Rattle.prov_fold.specs.declared.sums.Scrap.{Scrap}
use Rattle.prov_fold.specs.Graphs.{range}
use Rattle.prov_fold.specs.Scraps.{told, fall_of, rise_of, weight_of, reach_of, width_of}
use Rattle.prov_fold.proofs.LoopLemmas.{total_step, added_step, min_small, max_small}
use Rattle.prov_fold.proofs.fold.Fold.ends.Goals as goal

pub reach-reach-requires-clause-small : goal.reach-reach-requires-clause-small
reach-reach-requires-clause-small c =
    let i = c.loop-scrap.scrap-index in
    let x : Scrap = get_or c.args.joined.now c.loop-scrap.scrap-index (record { node = 0; factor = pos 0 }) in
    let fits : FitsSigned w128 (get_or c.args.joined.now c.loop-scrap.scrap-index (record { node = 0; factor = pos 0 })).factor = search rules in
    let v : to_z w128 (of_z w128 x.factor) ≡ x.factor = to_z-of_z fits in
    let s = added_step (λ (s : Scrap). weight_of c.args.self.now (told s)) c.args.joined.now i (record { node = 0; factor = pos 0 }) c.loop-scrap-test.true in
    rw v (omega (arith, s, c.loop-scrap.invariant.weight))

pub plus-lo-requires : goal.plus-lo-requires
plus-lo-requires c =
    let i = c.loop-scrap.scrap-index in
    let x : Scrap = get_or c.args.joined.now c.loop-scrap.scrap-index (record { node = 0; factor = pos 0 }) in
    let fits : FitsSigned w128 (get_or c.args.joined.now c.loop-scrap.scrap-index (record { node = 0; factor = pos 0 })).factor = search rules in
    let v : to_z w128 (of_z w128 x.factor) ≡ x.factor = to_z-of_z fits in
    let s = added_step (λ (s : Scrap). weight_of c.args.self.now (told s)) c.args.joined.now i (record { node = 0; factor = pos 0 }) c.loop-scrap-test.true in
    let fits_r : FitsSigned w128 c.reach-reach.result = search rules in
    let r : to_z w128 (of_z w128 c.reach-reach.result) ≡ c.reach-reach.result = to_z-of_z fits_r in
    let reach : c.reach-reach.result ≡ reach_of c.args.self.now (told x) = c.reach-reach.ensures.value ∙ ap (λ (z : ℤ). z *ℤ ((range c.args.self.now x.node).hi -ℤ (range c.args.self.now x.node).lo)) v in
    let size : unsigned_abs c.reach-reach.result ≡ weight_of c.args.self.now (told x) = c.reach-reach.ensures.small ∙ ap (λ (z : ℤ). unsigned_abs z * width_of (range c.args.self.now x.node)) v in
    let fits_lo : FitsSigned w128 c.min.result = search rules in
    let m_lo : to_z w128 (of_z w128 c.min.result) ≡ c.min.result = to_z-of_z fits_lo in
    let small_lo : unsigned_abs c.min.result ≤ unsigned_abs c.reach-reach.result = min_small c.reach-reach.result c.min.result (c.min.ensures.value ∙ ap (λ (z : ℤ). int_min z (pos 0)) r) in
    rw m_lo (omega (arith, s, size, small_lo, c.loop-scrap.invariant.small_lo))

pub plus-hi-requires : goal.plus-hi-requires
plus-hi-requires c =
    let i = c.loop-scrap.scrap-index in
    let x : Scrap = get_or c.args.joined.now c.loop-scrap.scrap-index (record { node = 0; factor = pos 0 }) in
    let fits : FitsSigned w128 (get_or c.args.joined.now c.loop-scrap.scrap-index (record { node = 0; factor = pos 0 })).factor = search rules in
    let v : to_z w128 (of_z w128 x.factor) ≡ x.factor = to_z-of_z fits in
    let s = added_step (λ (s : Scrap). weight_of c.args.self.now (told s)) c.args.joined.now i (record { node = 0; factor = pos 0 }) c.loop-scrap-test.true in
    let fits_r : FitsSigned w128 c.reach-reach.result = search rules in
    let r : to_z w128 (of_z w128 c.reach-reach.result) ≡ c.reach-reach.result = to_z-of_z fits_r in
    let reach : c.reach-reach.result ≡ reach_of c.args.self.now (told x) = c.reach-reach.ensures.value ∙ ap (λ (z : ℤ). z *ℤ ((range c.args.self.now x.node).hi -ℤ (range c.args.self.now x.node).lo)) v in
    let size : unsigned_abs c.reach-reach.result ≡ weight_of c.args.self.now (told x) = c.reach-reach.ensures.small ∙ ap (λ (z : ℤ). unsigned_abs z * width_of (range c.args.self.now x.node)) v in
    let fits_hi : FitsSigned w128 c.max.result = search rules in
    let m_hi : to_z w128 (of_z w128 c.max.result) ≡ c.max.result = to_z-of_z fits_hi in
    let small_hi : unsigned_abs c.max.result ≤ unsigned_abs c.reach-reach.result = max_small c.reach-reach.result c.max.result (c.max.ensures.value ∙ ap (λ (z : ℤ). int_max z (pos 0)) r) in
    rw m_hi (omega (arith, s, size, small_hi, c.loop-scrap.invariant.small_hi))

pub loop-scrap-preserved : goal.loop-scrap-preserved
loop-scrap-preserved c =
    let i = c.loop-scrap.scrap-index in
    let x : Scrap = get_or c.args.joined.now c.loop-scrap.scrap-index (record { node = 0; factor = pos 0 }) in
    let fits : FitsSigned w128 (get_or c.args.joined.now c.loop-scrap.scrap-index (record { node = 0; factor = pos 0 })).factor = search rules in
    let v : to_z w128 (of_z w128 x.factor) ≡ x.factor = to_z-of_z fits in
    let s = added_step (λ (s : Scrap). weight_of c.args.self.now (told s)) c.args.joined.now i (record { node = 0; factor = pos 0 }) c.loop-scrap-test.true in
    let fits_r : FitsSigned w128 c.reach-reach.result = search rules in
    let r : to_z w128 (of_z w128 c.reach-reach.result) ≡ c.reach-reach.result = to_z-of_z fits_r in
    let reach : c.reach-reach.result ≡ reach_of c.args.self.now (told x) = c.reach-reach.ensures.value ∙ ap (λ (z : ℤ). z *ℤ ((range c.args.self.now x.node).hi -ℤ (range c.args.self.now x.node).lo)) v in
    let size : unsigned_abs c.reach-reach.result ≡ weight_of c.args.self.now (told x) = c.reach-reach.ensures.small ∙ ap (λ (z : ℤ). unsigned_abs z * width_of (range c.args.self.now x.node)) v in
    let fits_lo : FitsSigned w128 c.min.result = search rules in
    let m_lo : to_z w128 (of_z w128 c.min.result) ≡ c.min.result = to_z-of_z fits_lo in
    let fits_p_lo : FitsSigned w128 c.plus-lo.result = search rules in
    let p_lo : to_z w128 (of_z w128 c.plus-lo.result) ≡ c.plus-lo.result = to_z-of_z fits_p_lo in
    let step_lo : c.min.result ≡ fall_of c.args.self.now (told x) = c.min.ensures.value ∙ ap (λ (z : ℤ). int_min z (pos 0)) (r ∙ reach) in
    let small_lo : unsigned_abs c.min.result ≤ unsigned_abs c.reach-reach.result = min_small c.reach-reach.result c.min.result (c.min.ensures.value ∙ ap (λ (z : ℤ). int_min z (pos 0)) r) in
    let sum_lo : c.plus-lo.result ≡ to_z w128 c.loop-scrap.lo-bits +ℤ c.min.result = c.plus-lo.ensures ∙ ap (λ (z : ℤ). to_z w128 c.loop-scrap.lo-bits +ℤ z) m_lo in
    let fits_hi : FitsSigned w128 c.max.result = search rules in
    let m_hi : to_z w128 (of_z w128 c.max.result) ≡ c.max.result = to_z-of_z fits_hi in
    let fits_p_hi : FitsSigned w128 c.plus-hi.result = search rules in
    let p_hi : to_z w128 (of_z w128 c.plus-hi.result) ≡ c.plus-hi.result = to_z-of_z fits_p_hi in
    let step_hi : c.max.result ≡ rise_of c.args.self.now (told x) = c.max.ensures.value ∙ ap (λ (z : ℤ). int_max z (pos 0)) (r ∙ reach) in
    let small_hi : unsigned_abs c.max.result ≤ unsigned_abs c.reach-reach.result = max_small c.reach-reach.result c.max.result (c.max.ensures.value ∙ ap (λ (z : ℤ). int_max z (pos 0)) r) in
    let sum_hi : c.plus-hi.result ≡ to_z w128 c.loop-scrap.hi-bits +ℤ c.max.result = c.plus-hi.ensures ∙ ap (λ (z : ℤ). to_z w128 c.loop-scrap.hi-bits +ℤ z) m_hi in
    record {
      low = rw p_lo (total_step (λ (s : Scrap). fall_of c.args.self.now (told s)) c.args.joined.now i (record { node = 0; factor = pos 0 }) _ _ _ _ c.loop-scrap-test.true step_lo sum_lo c.loop-scrap.invariant.low);
      high = rw p_hi (total_step (λ (s : Scrap). rise_of c.args.self.now (told s)) c.args.joined.now i (record { node = 0; factor = pos 0 }) _ _ _ _ c.loop-scrap-test.true step_hi sum_hi c.loop-scrap.invariant.high);
      weight = omega (arith, s, c.loop-scrap.invariant.weight);
      small_lo = rw p_lo (omega (arith, ints, s, size, small_lo, sum_lo, c.loop-scrap.invariant.small_lo));
      small_hi = rw p_hi (omega (arith, ints, s, size, small_hi, sum_hi, c.loop-scrap.invariant.small_hi));
    }
