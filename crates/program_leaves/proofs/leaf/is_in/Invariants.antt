use Rattle.std.proofs.Common.{◌≡◌, drop}
use Rattle.program_leaves.specs.Leaves.{is_in}
use Rattle.program_leaves.proofs.leaf.is_in.Given as goal

abbrev pub invariant-loop-column : goal.invariant-loop-column
invariant-loop-column l = is_in (drop l.column l.sides) (drop l.column l.point) ≡ is_in l.sides l.point
