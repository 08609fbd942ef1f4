use Rattle.std.proofs.Common.{◌≡◌, drop}
use Rattle.tiql_check.specs.Turns.{in_turn}
use Rattle.tiql_check.specs.Selects.{with_source, none_taken, taken}
use Rattle.tiql_check.proofs.select.check_sources.Given as goal

abbrev pub invariant-loop-tree : goal.invariant-loop-tree
invariant-loop-tree l = in_turn (with_source l.known) (taken l.before) (drop l.tree-index l.trees) ≡ in_turn (with_source l.known) none_taken l.trees
