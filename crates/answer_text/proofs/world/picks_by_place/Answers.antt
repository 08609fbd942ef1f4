use Rattle.std.proofs.Common.{arith}
use Rattle.answer_text.proofs.Picks.{picks_all, picks_more, picks_none, place_pick, too_many_rows}
use Rattle.answer_text.proofs.world.picks_by_place.Goals as goal

pub returns-then-base-rows : goal.returns-then-base-rows
returns-then-base-rows c = λ picks are. too_many_rows c.args.key.now c.args.base.now c.args.rows.now c.requires.none (omega arith) picks are

pub loop-place-init : goal.loop-place-init
loop-place-init c = rw c.new-picks.ensures (picks_none c.args.key.now c.args.base.now c.args.rows.now)

pub loop-place-preserved : goal.loop-place-preserved
loop-place-preserved c =
    picks_more c.args.key.now c.args.base.now c.args.rows.now c.loop-place.picks _ c.loop-place.place c.loop-place.place c.loop-place.invariant
    (place_pick c.args.key.now c.args.base.now c.args.rows.now c.loop-place.place _ c.requires.none (omega arith)) c.in_ok-push.ensures.ok

pub returns : goal.returns
returns c = picks_all c.args.key.now c.args.base.now c.args.rows.now c.loop-place.picks c.loop-place.place c.loop-place.invariant (omega arith)
