use Rattle.std.proofs.Common.{◌≡◌, take}
use Rattle.world_points.specs.Points as spec
use Rattle.world_points.proofs.sides.sides_of.Given as goal

abbrev pub invariant-loop-column : goal.invariant-loop-column
invariant-loop-column l = l.sides ≡ spec.root (take l.column-index l.columns)
