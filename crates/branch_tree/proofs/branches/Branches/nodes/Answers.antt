use Rattle.branch_tree.proofs.Trees.{tree_of_whole}
use Rattle.branch_tree.proofs.branches.Branches.nodes.Goals as goal

pub returns-clause-tree : goal.returns-clause-tree
returns-clause-tree c = rw (← c.self.view_is) (tree_of_whole _ c.self.invariant.whole)
