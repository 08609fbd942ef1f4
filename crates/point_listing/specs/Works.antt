-- What the search has done: at a box, and at the whole of a program's box.
use Rattle.std.specs.Prelude.{◌≡◌, ◌≤◌, ℕ, ◌+◌, ℤ, List, ◌++◌, Option, Some, None, option_map, Bool, true, false, int_lt, if◌then◌else◌, ◌⊎◌}
use Rattle.ip_rows.specs.declared.Bounds.{Bounds}
use Rattle.ip_rows.specs.declared.program.Program.{Program}
use Rattle.prov_fold.specs.Graphs.{Graph}
use Rattle.bool_encode.specs.declared.stand.Stand.{Stand}
use Rattle.branch_tree.specs.declared.node.Leaf.TheVariants as leaf
use Rattle.branch_tree.specs.Boxes.{low_box, high_box}
use Rattle.branch_tree.specs.Tree.{Tree, closed, split, preorder, worked_of}
use Rattle.branch_tree.specs.Listing.{IsListing, IsInOrder, NoBetter, is_done, lows}
use Rattle.program_leaves.specs.Leaves.{leaf_value, root_of, worlds_in}
use Rattle.program_leaves.specs.Closing.{Closes, ClosesLeaf}
use Rattle.point_listing.specs.declared.search.Search.{Search}
use Rattle.point_listing.specs.declared.search.Found.{Found}
use Rattle.point_listing.specs.declared.search.Listed.{Listed}

-- the value of the best that is found
abbrev pub best_value : Option Found → Option ℤ
best_value best = option_map (λ found. found.value) best

-- a value is less than the best, or the first one
abbrev pub is_less : ℤ → Option ℤ → Bool
is_less value None = true
is_less value (Some best) = int_lt value best

-- a world with its value takes the place of the best where it is better; one without a value never does
abbrev pub better_of : Option Found → List ℤ → Option ℤ → Option Found
better_of best world None = best
better_of best world (Some value) = if is_less value (best_value best) then Some (record { value = value; world = world }) else best

module _ (program : Program) (g : Graph) (stands : List Stand) where
  -- some leaf of the tree has this world, and its point this value
  abbrev pub HasLeaf : List ℤ → ℤ → Tree → List Bounds → Type 0
  HasLeaf world value (closed leaf.Pending) sides = ⊥
  HasLeaf world value (closed leaf.Fixed) sides = (world ≡ lows (worlds_in stands sides)) × (leaf_value program g stands sides ≡ Some value)
  HasLeaf world value (split column at reason low high) sides =
      HasLeaf world value low (low_box sides column at) ⊎ HasLeaf world value high (high_box sides column at)

  -- what is found best stood before, or is that of a leaf of the tree
  abbrev pub IsFromLeaf : Option Found → Option Found → Tree → List Bounds → Type 0
  IsFromLeaf before None tree sides = before ≡ None
  IsFromLeaf before (Some found) tree sides = (before ≡ Some found) ⊎ HasLeaf found.world found.value tree sides

  -- a search has worked the tree of a box
  pub record Works (sides : List Bounds) (before now : Search) : Type 0 where
    pub tree : Tree
    pub nodes : now.nodes ≡ before.nodes ++ preorder tree
    pub listing : IsListing tree (worlds_in stands sides)
    pub in_order : IsInOrder tree
    pub spent : before.left ≡ now.left + worked_of tree
    -- a node is left open only where the budget is spent
    pub pending : is_done tree ≡ false → now.left ≡ 0
    pub closes : Closes (ClosesLeaf program g stands (best_value now.best)) tree sides
    -- what was not better than the best before is not better now
    pub kept : (other : Option ℤ) → NoBetter (best_value before.best) other → NoBetter (best_value now.best) other
    pub found : IsFromLeaf before.best now.best tree sides

  -- the program's box is listed with a budget
  pub record Lists (budget : ℕ) (listed : Listed) : Type 0 where
    pub tree : Tree
    pub nodes : listed.tree ≡ preorder tree
    pub listing : IsListing tree (worlds_in stands (root_of program))
    pub in_order : IsInOrder tree
    pub within : worked_of tree ≤ budget
    pub pending : is_done tree ≡ false → worked_of tree ≡ budget
    pub closes : Closes (ClosesLeaf program g stands (best_value listed.best)) tree (root_of program)
    pub found : IsFromLeaf None listed.best tree (root_of program)
