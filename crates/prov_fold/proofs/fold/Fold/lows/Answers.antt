use Rattle.std.proofs.Common.{rules, ◌∙◌, ap, FitsSigned, w64}
use Rattle.std.proofs.Math.Facts.{to_z-of_z}
use Rattle.prov_arena.specs.declared.part.Pair.{Pair}
use Rattle.prov_fold.specs.declared.span.Span.{Span}
use Rattle.prov_fold.specs.Graphs.{range}
use Rattle.prov_fold.proofs.LoopLemmas.{map_step}
use Rattle.prov_fold.proofs.fold.Fold.lows.Goals as goal

pub loop-pair-preserved : goal.loop-pair-preserved
loop-pair-preserved c =
    let fits : FitsSigned w64 c.range.result.lo = search rules in
    map_step (λ (p : Pair). (range c.args.self.now p.number).lo) c.args.pairs.now c.loop-pair.pair-index (record { truth = 0; number = 0 }) c.loop-pair.ends.items c.push.new.self.items _ _ c.loop-pair-test.true c.in_ok-push.ensures.items
    (to_z-of_z fits ∙ ap (λ (s : Span). s.lo) c.range.ensures.range) c.loop-pair.invariant
