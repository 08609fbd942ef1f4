use Rattle.std.proofs.Common.{◌≡◌, length, drop}
use Rattle.prov_arena.specs.Formulas.{MinNode, kids_of}
use Rattle.prov_fold.specs.Graphs.{size}
use Rattle.used_columns.specs.Used.{all_made_of}
use Rattle.used_columns.specs.Marks.{marked}
use Rattle.used_columns.proofs.walk.mark_pairs.Given as goal

abbrev pub invariant-loop-pair : goal.invariant-loop-pair
invariant-loop-pair l = record {
  count : length l.marks ≡ size l.fold;
  rest : marked l.marks (all_made_of l.fold (kids_of (MinNode (drop l.pair-index l.pairs)))) ≡ marked l.initial.marks (all_made_of l.fold (kids_of (MinNode l.pairs)));
}
