use Rattle.std.proofs.Common.{◌≡◌, [], drop}
use Rattle.tiql_check.specs.Turns.{in_turn}
use Rattle.tiql_check.specs.Hypos.{with_bound}
use Rattle.tiql_check.specs.Scopes.{scope_of}
use Rattle.tiql_check.proofs.hypo.check_bounds.Given as goal

abbrev pub invariant-loop-bound : goal.invariant-loop-bound
invariant-loop-bound l = in_turn (with_bound (scope_of l.scope) l.table) l.before (drop l.bound-index l.trees) ≡ in_turn (with_bound (scope_of l.scope) l.table) [] l.trees
