use Rattle.std.proofs.Common.{◌≡◌, map, take}
use Rattle.sym_groups.specs.Aggregates.{pairs_of}
use Rattle.sym_groups.proofs.items.pairs_of.Given as goal

abbrev pub invariant-loop-row : goal.invariant-loop-row
invariant-loop-row l = l.made.items ≡ pairs_of l.place (map (λ row. row.now) (take l.row-index l.group))
