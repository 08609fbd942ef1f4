use Rattle.std.proofs.Common.{rules, ◌≡◌, ◌∙◌, ap, arith, ℤ, pos, ◌+ℤ◌, ◌*ℤ◌, unsigned_abs, to_z, of_z, get_or, FitsSigned, w64}
use Rattle.std.proofs.Math.Facts.{to_z-of_z}
use Rattle.std.proofs.lemmas.Int.{ints}
use mir.Syntax.{w128}
use Rattle.prov_fold.specs.declared.span.Scaled.{Scaled}
use Rattle.prov_fold.specs.Scraps.{base_in}
use Rattle.prov_fold.proofs.LoopLemmas.{total_step, added_step}
use Rattle.prov_fold.proofs.fold.Fold.base.Goals as goal

pub part_times-more-requires : goal.part_times-more-requires
part_times-more-requires c =
    let i = c.loop-part.part-index in
    let x : Scaled = get_or c.args.parts.now c.loop-part.part-index (record { factor = pos 0; number = 0 }) in
    let fits : FitsSigned w64 (get_or c.args.parts.now c.loop-part.part-index (record { factor = pos 0; number = 0 })).factor = search rules in
    let v : to_z w64 (of_z w64 x.factor) ≡ x.factor = to_z-of_z fits in
    let fits_n : FitsSigned w128 c.base_in.result = search rules in
    let n : to_z w128 (of_z w128 c.base_in.result) ≡ c.base_in.result = to_z-of_z fits_n in
    let s = added_step (λ (p : Scaled). unsigned_abs p.factor) c.args.parts.now i (record { factor = pos 0; number = 0 }) c.loop-part-test.true in
    record { factor = rw v (omega (arith, s, c.loop-part.invariant.small)); number = rw n c.base_in.ensures.small }

pub plus-base-requires : goal.plus-base-requires
plus-base-requires c =
    let i = c.loop-part.part-index in
    let x : Scaled = get_or c.args.parts.now c.loop-part.part-index (record { factor = pos 0; number = 0 }) in
    let fits : FitsSigned w64 (get_or c.args.parts.now c.loop-part.part-index (record { factor = pos 0; number = 0 })).factor = search rules in
    let v : to_z w64 (of_z w64 x.factor) ≡ x.factor = to_z-of_z fits in
    let fits_m : FitsSigned w128 c.part_times-more.result = search rules in
    let m : to_z w128 (of_z w128 c.part_times-more.result) ≡ c.part_times-more.result = to_z-of_z fits_m in
    let s = added_step (λ (p : Scaled). unsigned_abs p.factor) c.args.parts.now i (record { factor = pos 0; number = 0 }) c.loop-part-test.true in
    let small = c.part_times-more.ensures.small in
    rw m (omega (arith, s, small, ap unsigned_abs v, c.loop-part.invariant.small))

pub loop-part-preserved : goal.loop-part-preserved
loop-part-preserved c =
    let i = c.loop-part.part-index in
    let x : Scaled = get_or c.args.parts.now c.loop-part.part-index (record { factor = pos 0; number = 0 }) in
    let fits : FitsSigned w64 (get_or c.args.parts.now c.loop-part.part-index (record { factor = pos 0; number = 0 })).factor = search rules in
    let v : to_z w64 (of_z w64 x.factor) ≡ x.factor = to_z-of_z fits in
    let fits_n : FitsSigned w128 c.base_in.result = search rules in
    let n : to_z w128 (of_z w128 c.base_in.result) ≡ c.base_in.result = to_z-of_z fits_n in
    let fits_m : FitsSigned w128 c.part_times-more.result = search rules in
    let m : to_z w128 (of_z w128 c.part_times-more.result) ≡ c.part_times-more.result = to_z-of_z fits_m in
    let fits_p : FitsSigned w128 c.plus-base.result = search rules in
    let p : to_z w128 (of_z w128 c.plus-base.result) ≡ c.plus-base.result = to_z-of_z fits_p in
    let s = added_step (λ (p : Scaled). unsigned_abs p.factor) c.args.parts.now i (record { factor = pos 0; number = 0 }) c.loop-part-test.true in
    let small = c.part_times-more.ensures.small in
    let sum : c.plus-base.result ≡ to_z w128 c.loop-part.base-bits +ℤ c.part_times-more.result = c.plus-base.ensures ∙ ap (λ (z : ℤ). to_z w128 c.loop-part.base-bits +ℤ z) m in
    let step : c.part_times-more.result ≡ x.factor *ℤ c.base_in.result = c.part_times-more.ensures.value ∙ (λ j. v j *ℤ n j) in
    record {
      value = rw p (total_step (λ (p : Scaled). p.factor *ℤ base_in c.args.self.now p.number) c.args.parts.now i (record { factor = pos 0; number = 0 }) _ _ _ _ c.loop-part-test.true (step ∙ ap (λ (z : ℤ). x.factor *ℤ z) c.base_in.ensures.value) sum c.loop-part.invariant.value);
      small = rw p (omega (arith, ints, s, small, ap unsigned_abs v, sum, c.loop-part.invariant.small));
    }
