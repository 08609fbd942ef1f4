use Rattle.std.proofs.Common.{◌≡◌, take}
use Rattle.ip_rows.specs.Programs.{sides_of}
use Rattle.program_leaves.proofs.part.root_sides.Given as goal

abbrev pub invariant-loop-column : goal.invariant-loop-column
invariant-loop-column l = l.sides ≡ sides_of (take l.column-index l.column-items)
