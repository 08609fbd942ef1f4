use Rattle.std.proofs.Common.{rules, ◌≡◌, ◌∙◌, sym, ap, subst, arith, ℤ, ◌≤◌, unsigned_abs, cond, Some, None, Err, List, to_z, of_z, FitsSigned, w64}
use Rattle.std.proofs.Math.Facts.{to_z-of_z}
use Rattle.std.proofs.lemmas.Int.{ints}
use mir.Syntax.{w128}
use Rattle.prov_arena.specs.declared.part.Term.{Term}
use Rattle.prov_arena.specs.Formulas.{LinNode}
use Rattle.prov_fold.specs.declared.fault.FoldFault.TheVariants as fault
use Rattle.prov_fold.specs.Spans.{passes, lin_low, lin_high}
use Rattle.prov_fold.specs.Graphs.{Fits, range}
use Rattle.prov_fold.specs.Rules.{interned}
use Rattle.prov_fold.specs.Scraps.{kept}
use Rattle.prov_fold.proofs.WholeLemmas.{judged_fits, judged_made, judged_wide, none_wide, factor_small}
use Rattle.prov_fold.proofs.fold.Fold.judge.Goals as goal

pub returns-in-Some-clause-made : goal.returns-in-Some-clause-made
returns-in-Some-clause-made c =
    let fits_n : FitsSigned w128 c.in-Some.number = search rules in
    let fits_l : FitsSigned w128 c.args.ends.0 = search rules in
    let fits_h : FitsSigned w128 c.args.ends.1 = search rules in
    let t : to_z w128 (of_z w128 c.args.total) ≡ c.args.total = to_z-of_z c.ranges.total in
    let l : to_z w128 (of_z w128 c.args.ends.0) ≡ c.args.ends.0 = to_z-of_z fits_l in
    let h : to_z w128 (of_z w128 c.args.ends.1) ≡ c.args.ends.1 = to_z-of_z fits_h in
    λ _. ap (λ (z : ℤ). record { gives = Err (fault.Wide z); list = c.args.self.now }) (to_z-of_z fits_n) ∙ judged_wide c.args.self.now c.args.total c.args.ends.0 c.args.ends.1 c.in-Some.number (kept c.args.joined.now) c.requires.low c.requires.high
    (c.in-Some.ensures ∙ (λ i. cond (passes (t i)) (Some (t i)) (cond (passes (l i)) (Some (l i)) (cond (passes (h i)) (Some (h i)) None))))

pub narrowed-requires : goal.narrowed-requires
narrowed-requires c =
    let fits_l : FitsSigned w128 c.args.ends.0 = search rules in
    let fits_h : FitsSigned w128 c.args.ends.1 = search rules in
    let t : to_z w128 (of_z w128 c.args.total) ≡ c.args.total = to_z-of_z c.ranges.total in
    let l : to_z w128 (of_z w128 c.args.ends.0) ≡ c.args.ends.0 = to_z-of_z fits_l in
    let h : to_z w128 (of_z w128 c.args.ends.1) ≡ c.args.ends.1 = to_z-of_z fits_h in
    let small = none_wide c.args.total c.args.ends.0 c.args.ends.1 (c.in_default.ensures ∙ (λ i. cond (passes (t i)) (Some (t i)) (cond (passes (l i)) (Some (l i)) (cond (passes (h i)) (Some (h i)) None)))) in
    let small_t = small.total_small in
    let small_l = small.lo_small in
    let small_h = small.hi_small in
    λ k d lt.
    let one = factor_small c.args.self.now c.args.joined.now c.alloc.ensures c.requires.good k d lt in
    let far = c.requires.apart in
    omega (arith, ints, one, far, small_l, small_h)

pub overflow_cast-span : goal.overflow_cast-span
overflow_cast-span c =
    let fits_l : FitsSigned w128 c.args.ends.0 = search rules in
    let fits_h : FitsSigned w128 c.args.ends.1 = search rules in
    let t : to_z w128 (of_z w128 c.args.total) ≡ c.args.total = to_z-of_z c.ranges.total in
    let l : to_z w128 (of_z w128 c.args.ends.0) ≡ c.args.ends.0 = to_z-of_z fits_l in
    let h : to_z w128 (of_z w128 c.args.ends.1) ≡ c.args.ends.1 = to_z-of_z fits_h in
    let small = none_wide c.args.total c.args.ends.0 c.args.ends.1 (c.in_default.ensures ∙ (λ i. cond (passes (t i)) (Some (t i)) (cond (passes (l i)) (Some (l i)) (cond (passes (h i)) (Some (h i)) None)))) in
    let small_t = small.total_small in
    let small_l = small.lo_small in
    let small_h = small.hi_small in
    rw l (omega (arith, ints, small_l))

pub overflow_cast-span-2 : goal.overflow_cast-span-2
overflow_cast-span-2 c =
    let fits_l : FitsSigned w128 c.args.ends.0 = search rules in
    let fits_h : FitsSigned w128 c.args.ends.1 = search rules in
    let t : to_z w128 (of_z w128 c.args.total) ≡ c.args.total = to_z-of_z c.ranges.total in
    let l : to_z w128 (of_z w128 c.args.ends.0) ≡ c.args.ends.0 = to_z-of_z fits_l in
    let h : to_z w128 (of_z w128 c.args.ends.1) ≡ c.args.ends.1 = to_z-of_z fits_h in
    let small = none_wide c.args.total c.args.ends.0 c.args.ends.1 (c.in_default.ensures ∙ (λ i. cond (passes (t i)) (Some (t i)) (cond (passes (l i)) (Some (l i)) (cond (passes (h i)) (Some (h i)) None)))) in
    let small_t = small.total_small in
    let small_l = small.lo_small in
    let small_h = small.hi_small in
    rw h (omega (arith, ints, small_h))

pub overflow_cast-total : goal.overflow_cast-total
overflow_cast-total c =
    let fits_l : FitsSigned w128 c.args.ends.0 = search rules in
    let fits_h : FitsSigned w128 c.args.ends.1 = search rules in
    let t : to_z w128 (of_z w128 c.args.total) ≡ c.args.total = to_z-of_z c.ranges.total in
    let l : to_z w128 (of_z w128 c.args.ends.0) ≡ c.args.ends.0 = to_z-of_z fits_l in
    let h : to_z w128 (of_z w128 c.args.ends.1) ≡ c.args.ends.1 = to_z-of_z fits_h in
    let small = none_wide c.args.total c.args.ends.0 c.args.ends.1 (c.in_default.ensures ∙ (λ i. cond (passes (t i)) (Some (t i)) (cond (passes (l i)) (Some (l i)) (cond (passes (h i)) (Some (h i)) None)))) in
    let small_t = small.total_small in
    let small_l = small.lo_small in
    let small_h = small.hi_small in
    rw t (omega (arith, ints, small_t))

pub append-requires-clause-fits : goal.append-requires-clause-fits
append-requires-clause-fits c =
    let fits_l : FitsSigned w128 c.args.ends.0 = search rules in
    let fits_h : FitsSigned w128 c.args.ends.1 = search rules in
    let t : to_z w128 (of_z w128 c.args.total) ≡ c.args.total = to_z-of_z c.ranges.total in
    let l : to_z w128 (of_z w128 c.args.ends.0) ≡ c.args.ends.0 = to_z-of_z fits_l in
    let h : to_z w128 (of_z w128 c.args.ends.1) ≡ c.args.ends.1 = to_z-of_z fits_h in
    let small = none_wide c.args.total c.args.ends.0 c.args.ends.1 (c.in_default.ensures ∙ (λ i. cond (passes (t i)) (Some (t i)) (cond (passes (l i)) (Some (l i)) (cond (passes (h i)) (Some (h i)) None)))) in
    let small_t = small.total_small in
    let small_l = small.lo_small in
    let small_h = small.hi_small in
    let f_t : FitsSigned w64 (to_z w128 (of_z w128 c.args.total)) = rw t (omega (arith, ints, small_t)) in
    let f_l : FitsSigned w64 (to_z w128 (of_z w128 c.args.ends.0)) = rw l (omega (arith, ints, small_l)) in
    let f_h : FitsSigned w64 (to_z w128 (of_z w128 c.args.ends.1)) = rw h (omega (arith, ints, small_h)) in
    let total : to_z w64 (of_z w64 (to_z w128 (of_z w128 c.args.total))) ≡ c.args.total = to_z-of_z f_t ∙ t in
    let lo : to_z w64 (of_z w64 (to_z w128 (of_z w128 c.args.ends.0))) ≡ c.args.ends.0 = to_z-of_z f_l ∙ l in
    let hi : to_z w64 (of_z w64 (to_z w128 (of_z w128 c.args.ends.1))) ≡ c.args.ends.1 = to_z-of_z f_h ∙ h in
    let ts : c.as_slice.result.now ≡ kept c.args.joined.now = c.as_slice.ensures.value ∙ c.in_ok-terms.ensures in
    subst (λ (p : ℤ × ℤ × ℤ × List Term). Fits c.args.self.now (record { lo = p.0; hi = p.1 }) (LinNode p.2 p.3)) (sym (λ i. (lo i, hi i, total i, ts i)))
    (judged_fits c.args.self.now c.args.total c.args.ends.0 c.args.ends.1 c.args.joined.now small_t small_l small_h c.requires.low c.requires.high c.requires.apart c.requires.good c.requires.rising)

pub returns-clause-made : goal.returns-clause-made
returns-clause-made c =
    let fits_l : FitsSigned w128 c.args.ends.0 = search rules in
    let fits_h : FitsSigned w128 c.args.ends.1 = search rules in
    let t : to_z w128 (of_z w128 c.args.total) ≡ c.args.total = to_z-of_z c.ranges.total in
    let l : to_z w128 (of_z w128 c.args.ends.0) ≡ c.args.ends.0 = to_z-of_z fits_l in
    let h : to_z w128 (of_z w128 c.args.ends.1) ≡ c.args.ends.1 = to_z-of_z fits_h in
    let small = none_wide c.args.total c.args.ends.0 c.args.ends.1 (c.in_default.ensures ∙ (λ i. cond (passes (t i)) (Some (t i)) (cond (passes (l i)) (Some (l i)) (cond (passes (h i)) (Some (h i)) None)))) in
    let small_t = small.total_small in
    let small_l = small.lo_small in
    let small_h = small.hi_small in
    let f_t : FitsSigned w64 (to_z w128 (of_z w128 c.args.total)) = rw t (omega (arith, ints, small_t)) in
    let f_l : FitsSigned w64 (to_z w128 (of_z w128 c.args.ends.0)) = rw l (omega (arith, ints, small_l)) in
    let f_h : FitsSigned w64 (to_z w128 (of_z w128 c.args.ends.1)) = rw h (omega (arith, ints, small_h)) in
    let total : to_z w64 (of_z w64 (to_z w128 (of_z w128 c.args.total))) ≡ c.args.total = to_z-of_z f_t ∙ t in
    let lo : to_z w64 (of_z w64 (to_z w128 (of_z w128 c.args.ends.0))) ≡ c.args.ends.0 = to_z-of_z f_l ∙ l in
    let hi : to_z w64 (of_z w64 (to_z w128 (of_z w128 c.args.ends.1))) ≡ c.args.ends.1 = to_z-of_z f_h ∙ h in
    let ts : c.as_slice.result.now ≡ kept c.args.joined.now = c.as_slice.ensures.value ∙ c.in_ok-terms.ensures in
    λ other.
    let low_small : unsigned_abs (lin_low (range c.args.self.now) c.args.total (kept c.args.joined.now)) ≤ 100000000000000000 = subst (λ (z : ℤ). unsigned_abs z ≤ 100000000000000000) c.requires.low small_l in
    let high_small : unsigned_abs (lin_high (range c.args.self.now) c.args.total (kept c.args.joined.now)) ≤ 100000000000000000 = subst (λ (z : ℤ). unsigned_abs z ≤ 100000000000000000) c.requires.high small_h in
    judged_made c.args.self.now c.args.total (kept c.args.joined.now) _ small_t low_small high_small
    (c.append.ensures.made other ∙ (λ i. interned (record { lo = lo i; hi = hi i }) (LinNode (total i) (ts i)) c.args.self.now) ∙ (λ i. interned (record { lo = c.requires.low i; hi = c.requires.high i }) (LinNode c.args.total (kept c.args.joined.now)) c.args.self.now))
