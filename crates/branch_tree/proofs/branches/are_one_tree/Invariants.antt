use Rattle.std.proofs.Common.{◌≡◌, ◌+◌, ◌≤◌, drop}
use Rattle.branch_tree.specs.Tree.{is_whole, are_whole}
use Rattle.branch_tree.proofs.branches.are_one_tree.Given as goal

abbrev pub invariant-loop-node : goal.invariant-loop-node
invariant-loop-node l = (are_whole l.wanted (drop l.node-index l.nodes) ≡ is_whole l.nodes) × (l.wanted ≤ l.node-index + 1)
