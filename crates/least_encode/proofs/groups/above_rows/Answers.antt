use Rattle.std.proofs.Common.{◌∙◌, to_z, of_z, w64, arith}
use Rattle.prov_fold.specs.Graphs.{range}
use Rattle.least_encode.proofs.Loops.{above_more}
use Rattle.least_encode.proofs.Weights.{small_same}
use Rattle.least_encode.proofs.groups.above_rows.Goals as goal

pub loop-pair-preserved : goal.loop-pair-preserved
loop-pair-preserved c =
    above_more c.args.fold.now c.args.map.now.stands c.args.id c.args.pairs.now c.args.rows.now c.args.span (range c.args.fold.now) c.loop-pair.pair-index c.loop-pair.rows c.push.new.self c.in_ok-above_row.field-0 (record { truth = 0; number = 0 }) (to_z w64 (of_z w64 c.above_gap-gap.result)) c.loop-pair-test.true
    (small_same c.above_gap-gap.result (let small = c.above_gap-gap.ensures.small in omega (arith, small)) ∙ c.above_gap-gap.ensures.gap) c.loop-pair.invariant c.in_ok-above_row.ensures c.in_ok-push.ensures.ok
