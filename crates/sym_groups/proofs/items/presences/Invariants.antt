use Rattle.std.proofs.Common.{◌≡◌, map, take}
use Rattle.sym_rows.specs.declared.row.SymRow.{SymRow}
use Rattle.sym_groups.proofs.items.presences.Given as goal

abbrev pub invariant-loop-row : goal.invariant-loop-row
invariant-loop-row l = l.made.items ≡ map (λ (row : SymRow). row.presence) (map (λ row. row.now) (take l.row-index l.group))
