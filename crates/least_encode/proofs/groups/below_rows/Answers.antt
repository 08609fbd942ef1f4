use Rattle.std.proofs.Common.{◌∙◌, to_z, of_z, w64, arith}
use Rattle.prov_fold.specs.Graphs.{range}
use Rattle.least_encode.proofs.Loops.{below_more}
use Rattle.least_encode.proofs.Weights.{small_same}
use Rattle.least_encode.proofs.groups.below_rows.Goals as goal

pub loop-pair-preserved : goal.loop-pair-preserved
loop-pair-preserved c =
    below_more c.args.fold.now c.args.map.now.stands c.args.id c.args.pairs.now c.args.rows.now c.args.span (range c.args.fold.now) c.loop-pair.pair c.loop-pair.rows c.push.new.self c.in_ok-row.row (record { truth = 0; number = 0 }) (to_z w64 (of_z w64 c.below_gap-gap.result)) c.loop-pair-test.true
    (small_same c.below_gap-gap.result (let small = c.below_gap-gap.ensures.small in omega (arith, small)) ∙ c.below_gap-gap.ensures.gap) c.loop-pair.invariant c.in_ok-row.ensures c.in_ok-push.ensures.ok
