use Rattle.std.proofs.Common.{◌≡◌, map, take}
use Rattle.tiql_check.specs.Views.{first_column}
use Rattle.tiql_check.proofs.view.first_columns.Given as goal

abbrev pub invariant-loop-item : goal.invariant-loop-item
invariant-loop-item l = l.made ≡ map first_column (take l.item-index l.items)
