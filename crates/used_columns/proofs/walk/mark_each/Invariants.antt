use Rattle.std.proofs.Common.{◌≡◌, length, drop}
use Rattle.used_columns.specs.Marks.{marked}
use Rattle.used_columns.proofs.walk.mark_each.Given as goal

abbrev pub invariant-loop-node : goal.invariant-loop-node
invariant-loop-node l = record {
  count : length l.marks ≡ length l.initial.marks;
  rest : marked l.marks (drop l.node-index l.nodes) ≡ marked l.initial.marks l.nodes;
}
