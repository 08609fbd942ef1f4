use Rattle.std.proofs.Common.{◌≡◌, drop}
use Rattle.tiql_check.specs.Scopes.{column_named}
use Rattle.tiql_check.proofs.scope.find_column.Given as goal

abbrev pub invariant-loop-number : goal.invariant-loop-number
invariant-loop-number l = column_named l.name l.number (drop l.number l.columns) ≡ column_named l.name 0 l.columns
