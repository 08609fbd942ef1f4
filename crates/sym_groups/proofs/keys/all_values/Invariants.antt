use Rattle.std.proofs.Common.{◌≡◌, map, take}
use Rattle.sym_rows.specs.declared.row.SymRow.{SymRow}
use Rattle.sym_groups.specs.Groups.{values_at}
use Rattle.sym_groups.proofs.keys.all_values.Given as goal

abbrev pub invariant-loop-row : goal.invariant-loop-row
invariant-loop-row l = l.made.items ≡ map (λ (row : SymRow). values_at l.fold row.cells) (take l.row-index l.rows)
