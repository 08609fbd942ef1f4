use Rattle.answer_text.proofs.Picks.{ArePicksUpTo}
use Rattle.answer_text.proofs.world.picks_by_place.Given as goal

abbrev pub invariant-loop-place : goal.invariant-loop-place
invariant-loop-place l = ArePicksUpTo l.key l.base l.rows l.picks l.place
