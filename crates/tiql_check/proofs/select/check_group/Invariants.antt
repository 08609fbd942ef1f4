use Rattle.std.proofs.Common.{◌≡◌, [], drop}
use Rattle.tiql_check.specs.Turns.{in_turn}
use Rattle.tiql_check.specs.Selects.{with_group}
use Rattle.tiql_check.specs.Scopes.{scope_of}
use Rattle.tiql_check.proofs.select.check_group.Given as goal

abbrev pub invariant-loop-column : goal.invariant-loop-column
invariant-loop-column l = in_turn (with_group (scope_of l.scope)) l.before (drop l.column-index l.columns) ≡ in_turn (with_group (scope_of l.scope)) [] l.columns
