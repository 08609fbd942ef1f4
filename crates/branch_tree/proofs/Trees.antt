-- A list of nodes is whole exactly where it is the preorder of a tree, and of one tree alone.
use Rattle.std.proofs.Common.{◌≡◌, ◌↔◌, ◌+◌, ◌≤◌, ℕ, zero, suc, ℤ, Bool, true, false, cond, List, [], ◌∷◌, ◌++◌, length, refl, sym, ◌∙◌, ap, ap₂, get_or, drop, ◌<◌, ◌-◌, not, arith, add_assoc, zero-add, append_assoc, length-append}
use Rattle.std.proofs.lemmas.List.{append-nil}
use Rattle.std.specs.List.{flat_map}
use Rattle.std.proofs.lemmas.List.Sums.{sum_by-append, sum_by-cons}
use Rattle.std.proofs.lemmas.List.{drop_more}
use Rattle.branch_tree.specs.Tree.{Tree, closed, split, preorder, IsTree, are_whole, is_whole, is_worked, worked_nodes, pending_nodes, worked_of, pending_of}
use Rattle.branch_tree.specs.declared.node.Node.{Node}
use Rattle.branch_tree.specs.declared.node.Node.TheVariants as node
use Rattle.branch_tree.specs.declared.node.Leaf.TheVariants as leaf
use Rattle.branch_tree.specs.declared.node.Leaf.{Leaf}
use Rattle.branch_tree.specs.declared.node.Reason.{Reason}

-- a tree in front of other nodes is one of the trees that they are
pub are_whole-preorder : (tree : Tree) (trees : ℕ) (rest : List Node) → are_whole (suc trees) (preorder tree ++ rest) ≡ are_whole trees rest
are_whole-preorder (closed leaf) trees rest = refl
are_whole-preorder (split column at reason low high) trees rest =
    ap (are_whole (suc (suc trees))) (append_assoc (preorder low) (preorder high) rest)
    ∙ are_whole-preorder low (suc trees) (preorder high ++ rest)
    ∙ are_whole-preorder high trees rest

-- the nodes of a tree are whole
pub preorder_is_whole : (tree : Tree) → is_whole (preorder tree) ≡ true
preorder_is_whole tree = ap (are_whole 1) (sym (append-nil (preorder tree))) ∙ are_whole-preorder tree 0 []

-- the trees, so many, of which these are the nodes
record Forest (trees : ℕ) (nodes : List Node) : Type 0 where
  items : List Tree
  count : length items ≡ trees
  listed : flat_map preorder items ≡ nodes

forest : (trees : ℕ) (nodes : List Node) → are_whole trees nodes ≡ true → Forest trees nodes
forest zero [] whole = record { items = []; count = refl; listed = refl }
forest zero (n ∷ nodes) whole = cc
forest (suc trees) [] whole = cc
forest (suc trees) (node.Closed leaf ∷ nodes) whole =
    let more = forest trees nodes whole in
    record { items = closed leaf ∷ more.items; count = ap suc more.count; listed = ap (λ (l : List Node). node.Closed leaf ∷ l) more.listed }
forest (suc trees) (node.Split column at reason ∷ nodes) whole =
    joined (forest (suc (suc trees)) nodes whole).items (forest (suc (suc trees)) nodes whole).count (forest (suc (suc trees)) nodes whole).listed
  where
    joined : (items : List Tree) → length items ≡ suc (suc trees) → flat_map preorder items ≡ nodes → Forest (suc trees) (node.Split column at reason ∷ nodes)
    joined [] count listed = cc
    joined (low ∷ []) count listed = cc
    joined (low ∷ high ∷ more) count listed = record { items = split column at reason low high ∷ more; count = cc; listed = ap (λ (l : List Node). node.Split column at reason ∷ l) (append_assoc (preorder low) (preorder high) (flat_map preorder more) ∙ listed) }

-- two trees at the head of one list are one tree
pub same_tree : (one other : Tree) (rest more : List Node) → preorder one ++ rest ≡ preorder other ++ more → (one ≡ other) × (rest ≡ more)
same_tree (closed leaf) (closed mark) rest more same = (cc, cc)
same_tree (closed leaf) (split column at reason low high) rest more same = cc
same_tree (split column at reason low high) (closed leaf) rest more same = cc
same_tree (split column at reason low high) (split column' at' reason' low' high') rest more same =
    let tail : preorder low ++ preorder high ++ rest ≡ preorder low' ++ preorder high' ++ more = cc in
    let tails : preorder low ++ (preorder high ++ rest) ≡ preorder low' ++ (preorder high' ++ more) =
    sym (append_assoc (preorder low) (preorder high) rest) ∙ tail ∙ append_assoc (preorder low') (preorder high') more in
    let lows = same_tree low low' (preorder high ++ rest) (preorder high' ++ more) tails in
    let highs = same_tree high high' rest more lows.1 in
    (cc, highs.1)

-- whole nodes are those of a tree
pub tree_of_whole : (nodes : List Node) → is_whole nodes ≡ true → IsTree nodes
tree_of_whole nodes whole = only (forest 1 nodes whole).items (forest 1 nodes whole).count (forest 1 nodes whole).listed
  where
    only : (items : List Tree) → length items ≡ 1 → flat_map preorder items ≡ nodes → IsTree nodes
    only [] count listed = cc
    only (tree ∷ []) count listed = (tree, sym (append-nil (preorder tree)) ∙ listed)
    only (tree ∷ next ∷ more) count listed = cc

-- the nodes of a tree are whole
pub whole_of_tree : (nodes : List Node) → IsTree nodes → is_whole nodes ≡ true
whole_of_tree nodes tree = ap is_whole (sym tree.1) ∙ preorder_is_whole tree.0

-- what the count answers
pub whole-is-tree : (answer : Bool) (nodes : List Node) → answer ≡ is_whole nodes → (answer ≡ true) ↔ IsTree nodes
whole-is-tree answer nodes counted = (λ yes. tree_of_whole nodes (sym counted ∙ yes), λ tree. counted ∙ whole_of_tree nodes tree)

-- a list has one tree
pub one_tree : (one other : Tree) → preorder one ≡ preorder other → one ≡ other
one_tree one other same = (same_tree one other [] [] (ap (λ (l : List Node). l ++ []) same)).0

-- the worked nodes of two lists together
pub worked_nodes-append : (xs ys : List Node) → worked_nodes (xs ++ ys) ≡ worked_nodes xs + worked_nodes ys
worked_nodes-append = sum_by-append (λ (n : Node). cond (is_worked n) 1 0)

-- the pending nodes of two lists together
pub pending_nodes-append : (xs ys : List Node) → pending_nodes (xs ++ ys) ≡ pending_nodes xs + pending_nodes ys
pending_nodes-append = sum_by-append (λ (n : Node). cond (not (is_worked n)) 1 0)

-- what is counted on the list is what is counted on the tree
pub worked_nodes-preorder : (tree : Tree) → worked_nodes (preorder tree) ≡ worked_of tree
worked_nodes-preorder (closed leaf.Fixed) = refl
worked_nodes-preorder (closed leaf.Pending) = refl
worked_nodes-preorder (split column at reason low high) =
    sum_by-cons (λ (n : Node). cond (is_worked n) 1 0) (node.Split column at reason) (preorder low ++ preorder high)
    ∙ ap (λ n. 1 + n) (worked_nodes-append (preorder low) (preorder high) ∙ ap₂ (λ m n. m + n) (worked_nodes-preorder low) (worked_nodes-preorder high))
    ∙ sym (add_assoc 1 (worked_of low) (worked_of high))

pub pending_nodes-preorder : (tree : Tree) → pending_nodes (preorder tree) ≡ pending_of tree
pending_nodes-preorder (closed leaf.Fixed) = refl
pending_nodes-preorder (closed leaf.Pending) = refl
pending_nodes-preorder (split column at reason low high) =
    sum_by-cons (λ (n : Node). cond (not (is_worked n)) 1 0) (node.Split column at reason) (preorder low ++ preorder high)
    ∙ ap (λ n. 0 + n) (pending_nodes-append (preorder low) (preorder high) ∙ ap₂ (λ m n. m + n) (pending_nodes-preorder low) (pending_nodes-preorder high))
    ∙ zero-add (pending_of low + pending_of high)

-- every node has been worked or is pending
pub length-preorder : (tree : Tree) → length (preorder tree) ≡ worked_of tree + pending_of tree
length-preorder (closed leaf.Fixed) = refl
length-preorder (closed leaf.Pending) = refl
length-preorder (split column at reason low high) =
    omega (arith, length-append (preorder low) (preorder high), length-preorder low, length-preorder high)

-- a tree has one box more than it has splits, so at most one pending box more than it has worked nodes
pub pending_of-le-worked_of : (tree : Tree) → pending_of tree ≤ worked_of tree + 1
pending_of-le-worked_of (closed leaf.Fixed) = omega arith
pending_of-le-worked_of (closed leaf.Pending) = omega arith
pending_of-le-worked_of (split column at reason low high) = omega (arith, pending_of-le-worked_of low, pending_of-le-worked_of high)

-- a loop over the nodes, which counts the trees that are still wanted
pub wanted_none : (trees i : ℕ) (nodes : List Node) (whole : Bool) → i < length nodes → trees ≡ 0 → are_whole trees (drop i nodes) ≡ whole → false ≡ whole
wanted_none trees i nodes whole lt none so = sym (ap₂ are_whole none (drop_more nodes i (node.Closed leaf.Fixed) lt)) ∙ so

pub wanted_more : (trees i : ℕ) (nodes : List Node) (other : Node) (column : ℕ) (at : ℤ) (reason : Reason) (whole : Bool) → i < length nodes → get_or nodes i other ≡ node.Split column at reason → 0 < trees → are_whole trees (drop i nodes) ≡ whole → are_whole (trees + 1) (drop (i + 1) nodes) ≡ whole
wanted_more trees i nodes other column at reason whole lt is some so =
    let one : trees ≡ suc (trees - 1) = omega arith in
    let two : trees + 1 ≡ suc (suc (trees - 1)) = omega arith in
    let first : drop i nodes ≡ node.Split column at reason ∷ drop (i + 1) nodes = drop_more nodes i other lt ∙ ap (λ (n : Node). n ∷ drop (i + 1) nodes) is in
    ap (λ (n : ℕ). are_whole n (drop (i + 1) nodes)) two ∙ sym (ap₂ are_whole one first) ∙ so

pub wanted_less : (trees i : ℕ) (nodes : List Node) (other : Node) (leaf : Leaf) (whole : Bool) → i < length nodes → get_or nodes i other ≡ node.Closed leaf → 0 < trees → are_whole trees (drop i nodes) ≡ whole → are_whole (trees - 1) (drop (i + 1) nodes) ≡ whole
wanted_less trees i nodes other leaf whole lt is some so =
    let one : trees ≡ suc (trees - 1) = omega arith in
    let first : drop i nodes ≡ node.Closed leaf ∷ drop (i + 1) nodes = drop_more nodes i other lt ∙ ap (λ (n : Node). n ∷ drop (i + 1) nodes) is in
    sym (ap₂ are_whole one first) ∙ so
