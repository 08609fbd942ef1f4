use Rattle.std.proofs.Common.{◌≡◌, map, take}
use Rattle.sym_groups.specs.Groups.{value_at}
use Rattle.sym_groups.proofs.keys.values_of.Given as goal

abbrev pub invariant-loop-cell : goal.invariant-loop-cell
invariant-loop-cell l = l.made ≡ map (value_at l.fold) (take l.cell-index l.cells)
