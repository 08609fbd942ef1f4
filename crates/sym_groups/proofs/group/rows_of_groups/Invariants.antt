use Rattle.sym_groups.specs.Groups.{group_row}
use Rattle.sym_groups.specs.Meanings.{group_there, items_then}
use Rattle.sym_groups.proofs.Listed.{Going}
use Rattle.sym_groups.proofs.group.rows_of_groups.Given as goal

abbrev pub invariant-loop-group : goal.invariant-loop-group
invariant-loop-group l = Going (group_row l.columns l.keys l.items) l.groups (group_there l.keys l.items) (λ group v. items_then v l.columns l.keys l.items group) l.fn.fold l.group-index l.made l.fold
