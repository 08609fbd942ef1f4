use Rattle.std.proofs.Common.{◌≡◌, ◌++◌, drop}
use Rattle.std.specs.Option.{option_to_list}
use Rattle.tiql_check.specs.Scopes.{scope_of, candidates}
use Rattle.tiql_check.proofs.scope.resolve.Given as goal

abbrev pub invariant-loop-source : goal.invariant-loop-source
invariant-loop-source l =
    option_to_list l.meant ++ candidates l.column l.source (scope_of (drop l.source l.scope)) ≡ candidates l.column 0 (scope_of l.scope)
