-- The boxes of a walk have a side for each column.
use Rattle.std.proofs.Common.{◌≡◌, ℕ, List, [], ◌∷◌, length, sym, ◌∙◌, subst}
use Rattle.std.proofs.lemmas.List.{length-set}
use Rattle.ip_rows.specs.declared.Bounds.{Bounds}
use Rattle.branch_tree.specs.declared.node.Node.{Node}
use Rattle.branch_tree.specs.declared.node.Node.TheVariants as node
use Rattle.branch_tree.specs.Boxes.{side_at, low_side, high_side}
use Rattle.cert_check.specs.Walks.{behind_node}

abbrev pub AreLong : ℕ → List (List Bounds) → Type 0
AreLong n [] = Unit {0}
AreLong n (sides ∷ more) = (length sides ≡ n) × AreLong n more

pub long_behind : (n : ℕ) (here : Node) (more : List (List Bounds)) → AreLong n more → AreLong n (behind_node here more)
long_behind n (node.Closed leaf) [] all = tt
long_behind n (node.Closed leaf) (sides ∷ more) all = all.1
long_behind n (node.Split column at reason) [] all = tt
long_behind n (node.Split column at reason) (sides ∷ more) all =
    (length-set sides column (low_side (side_at sides column) at) ∙ all.0, (length-set sides column (high_side (side_at sides column) at) ∙ all.0, all.1))

pub long_here : (n : ℕ) (all more : List (List Bounds)) (sides : List Bounds) → all ≡ sides ∷ more → AreLong n all → length sides ≡ n
long_here n all more sides is long = (subst (AreLong n) is long).0

pub long_root : (n : ℕ) (all : List (List Bounds)) (root : List Bounds) → all ≡ root ∷ [] → length root ≡ n → AreLong n all
long_root n all root is long = subst (AreLong n) (sym is) (long, tt)
