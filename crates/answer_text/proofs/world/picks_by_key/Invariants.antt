use Rattle.answer_text.proofs.Picks.{ArePicksUpTo}
use Rattle.answer_text.proofs.world.picks_by_key.Given as goal

abbrev pub invariant-loop-row : goal.invariant-loop-row
invariant-loop-row l = ArePicksUpTo l.table.key l.base l.rows l.picks l.row-index
