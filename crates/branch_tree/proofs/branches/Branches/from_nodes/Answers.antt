use Rattle.std.proofs.Common.{sym, ◌∙◌, ap}
use Rattle.branch_tree.specs.Tree.{is_whole}
use Rattle.branch_tree.proofs.Trees.{whole-is-tree}
use Rattle.branch_tree.proofs.branches.Branches.from_nodes.Goals as goal

pub returns-then-are_one_tree-clause-tree : goal.returns-then-are_one_tree-clause-tree
returns-then-are_one_tree-clause-tree c =
    whole-is-tree _ c.args.nodes (sym c.if-are_one_tree.true ∙ c.are_one_tree.ensures ∙ ap is_whole c.as_slice.ensures)

pub returns-else-are_one_tree-clause-tree : goal.returns-else-are_one_tree-clause-tree
returns-else-are_one_tree-clause-tree c =
    whole-is-tree _ c.args.nodes (sym c.if-are_one_tree.false ∙ c.are_one_tree.ensures ∙ ap is_whole c.as_slice.ensures)
