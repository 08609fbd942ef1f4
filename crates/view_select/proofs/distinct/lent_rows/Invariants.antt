use Rattle.std.proofs.Common.{◌≡◌, map, take}
use Rattle.view_select.specs.Selects.{distinct}
use Rattle.view_select.proofs.distinct.lent_rows.Given as goal

abbrev pub invariant-loop-row : goal.invariant-loop-row
invariant-loop-row l = map (λ row. row.now) l.set.keys ≡ distinct (take l.row-index l.rows)
