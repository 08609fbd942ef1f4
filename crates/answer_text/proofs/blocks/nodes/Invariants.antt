use Rattle.std.proofs.Common.{◌≡◌, ◌+◌, ◌≤◌, length}
use Rattle.answer_text.specs.Blocks.{joined, nodes_from, nodes_at}
use Rattle.answer_text.proofs.blocks.nodes.Given as goal

abbrev pub invariant-each : goal.invariant-each
invariant-each l = record {
  within : l.wanted + length l.rest ≤ length l.bytes + 1;
  items : joined l.nodes (nodes_from (length l.rest) l.wanted l.rest) ≡ nodes_at l.bytes;
}

abbrev pub decreases-each : goal.decreases-each
decreases-each l = length l.rest
