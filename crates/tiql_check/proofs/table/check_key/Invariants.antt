use Rattle.std.proofs.Common.{◌≡◌, [], drop}
use Rattle.tiql_check.specs.Turns.{in_turn}
use Rattle.tiql_check.specs.Tables.{with_key_column}
use Rattle.tiql_check.proofs.table.check_key.Given as goal

abbrev pub invariant-loop-name : goal.invariant-loop-name
invariant-loop-name l = in_turn (with_key_column l.columns) l.before (drop l.name-index l.names) ≡ in_turn (with_key_column l.columns) [] l.names
