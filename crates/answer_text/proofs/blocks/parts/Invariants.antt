use Rattle.std.proofs.Common.{◌≡◌, ◌≤◌, length}
use Rattle.answer_text.specs.Blocks.{joined, parts_at}
use Rattle.answer_text.proofs.blocks.parts.Given as goal

abbrev pub invariant-each : goal.invariant-each
invariant-each l = record {
  within : length l.rest ≤ length l.bytes;
  items : joined l.parts (parts_at l.rest) ≡ parts_at l.bytes;
}

abbrev pub decreases-each : goal.decreases-each
decreases-each l = length l.rest
