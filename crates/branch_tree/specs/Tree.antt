-- Trees of splits, and the lists of nodes by which they are kept.
use Rattle.std.specs.Prelude.{◌≡◌, ◌+◌, ◌<◌, ◌^◌, ℕ, ℤ, zero, suc, Bool, true, false, not, List, [], ◌∷◌, ◌++◌, length, count_by}
use Rattle.branch_tree.specs.declared.node.Node.{Node}
use Rattle.branch_tree.specs.declared.node.Node.TheVariants as node
use Rattle.branch_tree.specs.declared.node.Leaf.TheVariants as leaf
use Rattle.branch_tree.specs.declared.node.Leaf.{Leaf}
use Rattle.branch_tree.specs.declared.node.Reason.{Reason}

-- a box that is not parted further, or one that is parted at a number of a column, for a reason
pub data Tree : Type 0 where
  closed : Leaf → Tree
  split : ℕ → ℤ → Reason → Tree → Tree → Tree

-- the nodes of a tree: each split before the nodes of its lower side, and those before the upper side's
abbrev pub preorder : Tree → List Node
preorder (closed leaf) = node.Closed leaf ∷ []
preorder (split column at reason low high) = node.Split column at reason ∷ (preorder low ++ preorder high)

-- the nodes are those of one whole tree
abbrev pub IsTree : List Node → Type 0
IsTree nodes = (tree : Tree) × (preorder tree ≡ nodes)

-- the nodes are so many whole trees, one after another
abbrev pub are_whole : ℕ → List Node → Bool
are_whole zero [] = true
are_whole zero (node ∷ nodes) = false
are_whole (suc trees) [] = false
are_whole (suc trees) (node.Split column at reason ∷ nodes) = are_whole (suc (suc trees)) nodes
are_whole (suc trees) (node.Closed leaf ∷ nodes) = are_whole trees nodes

-- the nodes are one whole tree
abbrev pub is_whole : List Node → Bool
is_whole nodes = are_whole 1 nodes

-- what every tree that is kept meets
pub record WholeTree (nodes : List Node) : Type 0 where
  pub whole : is_whole nodes ≡ true
  pub small : length nodes < 2 ^ 32

-- a split, or a leaf that has been worked
abbrev pub is_worked : Node → Bool
is_worked (node.Split column at reason) = true
is_worked (node.Closed leaf.Fixed) = true
is_worked (node.Closed leaf.Pending) = false

-- how many of the nodes have been worked
abbrev pub worked_nodes : List Node → ℕ
worked_nodes nodes = count_by is_worked nodes

-- how many of the nodes are boxes that have not been worked
abbrev pub pending_nodes : List Node → ℕ
pending_nodes nodes = count_by (λ node. not (is_worked node)) nodes

-- how many of a tree's nodes have been worked
abbrev pub worked_of : Tree → ℕ
worked_of (closed leaf.Fixed) = 1
worked_of (closed leaf.Pending) = 0
worked_of (split column at reason low high) = 1 + worked_of low + worked_of high

-- how many of a tree's boxes have not been worked
abbrev pub pending_of : Tree → ℕ
pending_of (closed leaf.Fixed) = 0
pending_of (closed leaf.Pending) = 1
pending_of (split column at reason low high) = pending_of low + pending_of high
