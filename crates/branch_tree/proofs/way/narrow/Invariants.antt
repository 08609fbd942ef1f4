use Rattle.std.proofs.Common.{◌≡◌, length}
use Rattle.branch_tree.specs.Ways as spec
use Rattle.branch_tree.proofs.way.narrow.Given as goal

abbrev pub invariant-loop-turn : goal.invariant-loop-turn
invariant-loop-turn l = record {
  way : spec.IsWay l.sides l.turns;
  same : spec.box_along l.sides l.turns ≡ spec.box_along l.initial.sides l.initial.turns;
}

abbrev pub decreases-loop-turn : goal.decreases-loop-turn
decreases-loop-turn l = length l.turns
