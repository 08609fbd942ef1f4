use Rattle.least_encode.proofs.Loops.{present_more}
use Rattle.least_encode.proofs.groups.present_rows.Goals as goal

pub loop-pair-preserved : goal.loop-pair-preserved
loop-pair-preserved c =
    present_more c.args.fold.now c.args.map.now.stands c.args.id c.args.pairs.now c.args.rows.now c.loop-pair.pair c.loop-pair.rows c.push.new.self c.in_ok-row.row (record { truth = 0; number = 0 }) c.loop-pair-test.true c.loop-pair.invariant c.in_ok-row.ensures c.in_ok-push.ensures.ok
