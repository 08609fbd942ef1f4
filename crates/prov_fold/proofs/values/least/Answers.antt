use Rattle.std.proofs.Common.{rules, ◌≡◌, ◌∙◌, cond, Some, get_or, FitsSigned, w64}
use Rattle.std.proofs.Math.Facts.{to_z-of_z}
use Rattle.prov_arena.specs.declared.part.Pair.{Pair}
use Rattle.prov_fold.specs.Values.{number_at, holds, nearest}
use Rattle.prov_fold.proofs.ValueLemmas.{least_step}
use Rattle.prov_fold.proofs.values.least.Goals as goal

pub loop-pair-preserved : goal.loop-pair-preserved
loop-pair-preserved c =
    let x : Pair = get_or c.args.pairs.now c.loop-pair.pair-index (record { truth = 0; number = 0 }) in
    let fits : FitsSigned w64 (number_at c.args.values.now (get_or c.args.pairs.now c.loop-pair.pair-index (record { truth = 0; number = 0 })).number) = search rules in
    let next : c.next-found.result ≡ cond (holds (number_at c.args.values.now) x.truth) (Some (nearest c.loop-pair.found (number_at c.args.values.now x.number))) c.loop-pair.found =
    c.next-found.ensures ∙ (λ i. cond (c.holds.ensures i) (Some (nearest c.loop-pair.found (to_z-of_z fits i))) c.loop-pair.found) in
    least_step (λ (p : Pair). holds (number_at c.args.values.now) p.truth) (λ (p : Pair). number_at c.args.values.now p.number) c.args.pairs.now c.loop-pair.pair-index (record { truth = 0; number = 0 }) c.loop-pair.found c.next-found.result _ c.loop-pair-test.true next c.loop-pair.invariant
