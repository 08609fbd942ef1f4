-- Trees whose every leaf closes, whatever closes a leaf, and what such a tree says of a program's whole points.
use Rattle.std.specs.Prelude.{◌≡◌, ◌≤ℤ◌, ◌+ℤ◌, ℤ, List, Option, Some, true}
use Rattle.ip_rows.specs.declared.Bounds.{Bounds}
use Rattle.ip_rows.specs.declared.program.Program.{Program}
use Rattle.ip_rows.specs.Programs.{sum_at}
use Rattle.prov_fold.specs.Graphs.{Graph}
use Rattle.branch_tree.specs.declared.node.Leaf.{Leaf}
use Rattle.branch_tree.specs.declared.node.Leaf.TheVariants as leaf
use Rattle.branch_tree.specs.Boxes.{IsParted, low_box, high_box}
use Rattle.branch_tree.specs.Listing.{AreFixed, NoBetter, is_done}
use Rattle.branch_tree.specs.Tree.{Tree, closed, split}
use Rattle.bool_encode.specs.declared.stand.Stand.{Stand}
use Rattle.whole_points.specs.Points.{IsWholePoint}
use Rattle.program_leaves.specs.Leaves.{leaf_value, part_value, root_of, worlds_in}

-- every split parts its box, and every leaf closes
module _ (ClosesAt : Leaf → List Bounds → Type 0) where
  abbrev pub Closes : Tree → List Bounds → Type 0
  Closes (closed leaf) sides = ClosesAt leaf sides
  Closes (split column at reason low high) sides = IsParted sides column at × Closes low (low_box sides column at) × Closes high (high_box sides column at)

module _ (program : Program) (g : Graph) (stands : List Stand) where
  -- a leaf that is not open closes against a best value: each world column has one value, and the point has no better value
  abbrev pub ClosesLeaf : Option ℤ → Leaf → List Bounds → Type 0
  ClosesLeaf best leaf.Pending sides = Unit {0}
  ClosesLeaf best leaf.Fixed sides = AreFixed (worlds_in stands sides) × NoBetter best (leaf_value program g stands sides)

  -- the tree closes against a best value, and has no open node
  pub record ClosesAll (best : Option ℤ) (tree : Tree) : Type 0 where
    pub done : is_done tree ≡ true
    pub closes : Closes (ClosesLeaf best) tree (root_of program)

-- no whole point has a better value in the part
abbrev pub NoneBetter : Program → Option ℤ → Type 0
NoneBetter program best = (point : List ℤ) → IsWholePoint program point → NoBetter best (Some (part_value program point))

-- what a program comes to at a point
abbrev pub value_of : Program → List ℤ → ℤ
value_of program point = program.constant +ℤ sum_at point program.aim

-- a whole point than which none has a lesser value
pub record IsLeastPoint (program : Program) (point : List ℤ) : Type 0 where
  pub whole : IsWholePoint program point
  pub least : (other : List ℤ) → IsWholePoint program other → value_of program point ≤ℤ value_of program other

-- there is no whole point
abbrev pub HasNoPoint : Program → Type 0
HasNoPoint program = (point : List ℤ) → ¬ IsWholePoint program point
