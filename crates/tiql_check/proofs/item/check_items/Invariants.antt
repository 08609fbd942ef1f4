use Rattle.std.proofs.Common.{◌≡◌, drop}
use Rattle.tiql_check.specs.Turns.{in_turn}
use Rattle.tiql_check.specs.Selects.{with_item, no_items}
use Rattle.tiql_check.specs.Scopes.{scope_of}
use Rattle.tiql_check.proofs.item.check_items.Given as goal

abbrev pub invariant-loop-tree : goal.invariant-loop-tree
invariant-loop-tree l = in_turn (with_item l.rules (scope_of l.scope) l.group) l.before (drop l.tree-index l.trees) ≡ in_turn (with_item l.rules (scope_of l.scope) l.group) no_items l.trees
