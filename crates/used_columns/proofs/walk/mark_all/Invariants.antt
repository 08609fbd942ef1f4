use Rattle.std.proofs.Common.{◌≡◌, length, drop}
use Rattle.prov_fold.specs.Graphs.{size}
use Rattle.used_columns.specs.Used.{all_made_of}
use Rattle.used_columns.specs.Marks.{marked}
use Rattle.used_columns.proofs.walk.mark_all.Given as goal

abbrev pub invariant-loop-node : goal.invariant-loop-node
invariant-loop-node l = record {
  count : length l.marks ≡ size l.fold;
  rest : marked l.marks (all_made_of l.fold (drop l.node-index l.nodes)) ≡ marked l.initial.marks (all_made_of l.fold l.nodes);
}
