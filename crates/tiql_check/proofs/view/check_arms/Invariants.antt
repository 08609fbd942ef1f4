use Rattle.std.proofs.Common.{◌≡◌, drop}
use Rattle.tiql_check.specs.Turns.{in_turn}
use Rattle.tiql_check.specs.Views.{with_arm, no_arms}
use Rattle.tiql_check.proofs.view.check_arms.Given as goal

abbrev pub invariant-loop-tree : goal.invariant-loop-tree
invariant-loop-tree l = in_turn (with_arm l.known) l.before (drop l.tree-index l.trees) ≡ in_turn (with_arm l.known) no_arms l.trees
