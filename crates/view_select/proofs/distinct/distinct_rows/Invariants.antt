use Rattle.std.proofs.Common.{◌≡◌, ◌++◌, map}
use Rattle.view_select.specs.Selects.{distinct}
use Rattle.view_select.proofs.distinct.distinct_rows.Given as goal

abbrev pub invariant-loop-row : goal.invariant-loop-row
invariant-loop-row l = l.made ++ map (λ row. row.now) l.row-iterator ≡ distinct l.rows
