use Rattle.std.proofs.Common.{◌≡◌, ◌+◌, ◌≤◌, length, drop}
use Rattle.branch_tree.specs.Ways as spec
use Rattle.branch_tree.proofs.way.turns_above.Given as goal

abbrev pub invariant-loop-left : goal.invariant-loop-left
invariant-loop-left l = record {
  walked : l.walk ≡ spec.walk_back (drop l.left l.before);
  within : l.left ≤ length l.before;
  bound : l.walk.passed + l.left ≤ length l.before;
}

abbrev pub decreases-loop-left : goal.decreases-loop-left
decreases-loop-left l = l.left
