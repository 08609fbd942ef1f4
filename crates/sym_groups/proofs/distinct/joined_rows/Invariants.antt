use Rattle.std.proofs.Common.{map}
use Rattle.sym_rows.specs.Cells.{cell_in}
use Rattle.sym_groups.specs.Groups.{joined, first_cells}
use Rattle.sym_groups.specs.Meanings.{some_there}
use Rattle.sym_groups.proofs.Listed.{Going}
use Rattle.sym_groups.proofs.distinct.joined_rows.Given as goal

abbrev pub invariant-loop-group : goal.invariant-loop-group
invariant-loop-group l = Going joined l.groups some_there (λ group v. map (cell_in v) (first_cells group)) l.fn.fold l.group-index l.made l.fold
