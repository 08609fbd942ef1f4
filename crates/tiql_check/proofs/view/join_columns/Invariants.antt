use Rattle.std.proofs.Common.{◌≡◌, [], drop}
use Rattle.tiql_check.specs.Turns.{in_turn}
use Rattle.tiql_check.specs.Views.{with_joined}
use Rattle.tiql_check.proofs.view.join_columns.Given as goal

abbrev pub invariant-loop-item : goal.invariant-loop-item
invariant-loop-item l = in_turn (with_joined l.columns) l.before (drop l.item-index l.items) ≡ in_turn (with_joined l.columns) [] l.items
