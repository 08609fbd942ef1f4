use Rattle.std.proofs.Common.{◌≡◌, length}
use Rattle.answer_text.specs.Blocks.{joined, worlds_at}
use Rattle.answer_text.proofs.blocks.worlds.Given as goal

abbrev pub invariant-each : goal.invariant-each
invariant-each l = joined l.worlds (worlds_at l.rest) ≡ worlds_at l.bytes

abbrev pub decreases-each : goal.decreases-each
decreases-each l = length l.rest
