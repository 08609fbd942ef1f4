use Rattle.std.proofs.Common.{◌≡◌, [], drop}
use Rattle.tiql_check.specs.Turns.{in_turn}
use Rattle.tiql_check.specs.Tables.{with_column}
use Rattle.tiql_check.proofs.table.check_columns.Given as goal

abbrev pub invariant-loop-column : goal.invariant-loop-column
invariant-loop-column l = in_turn with_column l.before (drop l.column-index l.trees) ≡ in_turn with_column [] l.trees
