-- What the search has done: at a box, and at the whole of one.
use Rattle.std.specs.Prelude.{◌≡◌, ◌≤◌, ℕ, ◌+◌, ℤ, List, ◌++◌, Option, Some, None, option_map, Bool, true, false, int_lt, if◌then◌else◌, ◌⊎◌, Result, Ok, Err}
use Rattle.ip_rows.specs.declared.Bounds.{Bounds}
use Rattle.branch_tree.specs.Tree.{Tree, preorder, worked_of}
use Rattle.branch_tree.specs.Faults.{NoFault}
use Rattle.branch_tree.specs.Listing.{Closes, HasLeaf, IsListing, IsInOrder, NoBetter, is_done}
use Rattle.world_def.specs.declared.fault.EvalFault.{EvalFault}
use Rattle.world_listing.specs.declared.search.Search.{Search}
use Rattle.world_listing.specs.declared.search.Found.{Found}
use Rattle.world_listing.specs.declared.search.Listed.{Listed}

-- the cost of the best that is found
abbrev pub best_value : Option Found → Option ℤ
best_value best = option_map (λ found. found.cost) best

-- a value is less than the best, or the first one
abbrev pub is_less : ℤ → Option ℤ → Bool
is_less cost None = true
is_less cost (Some best) = int_lt cost best

-- a point with its value takes the place of the best where it is better; one without a value never does
abbrev pub better_of : Option Found → List ℤ → Option ℤ → Option Found
better_of best point None = best
better_of best point (Some cost) = if is_less cost (best_value best) then Some (record { cost = cost; point = point }) else best

-- the best after a point that is not at fault
abbrev pub IsJudgedTo : Result (Option ℤ) EvalFault → Option Found → List ℤ → Option Found → Type 0
IsJudgedTo (Ok value) before point now = now ≡ better_of before point value
IsJudgedTo (Err told) before point now = ⊥

module _ (value : List ℤ → Option ℤ) where
  -- what is found best stood before, or is the point of a leaf of the tree
  abbrev pub IsFromLeaf : Option Found → Option Found → Tree → List Bounds → Type 0
  IsFromLeaf before None tree sides = before ≡ None
  IsFromLeaf before (Some found) tree sides = (before ≡ Some found) ⊎ HasLeaf value found.point found.cost tree sides

  module _ (judged : List ℤ → Result (Option ℤ) EvalFault) where
    -- a search has worked the tree of a box
    pub record Works (sides : List Bounds) (before now : Search) : Type 0 where
      pub tree : Tree
      pub nodes : now.nodes ≡ before.nodes ++ preorder tree
      pub listing : IsListing tree sides
      pub in_order : IsInOrder tree
      pub spent : before.left ≡ now.left + worked_of tree
      -- a node is left open only where the budget is spent
      pub pending : is_done tree ≡ false → now.left ≡ 0
      pub closes : Closes value (best_value now.best) tree sides
      pub sound : NoFault judged tree sides
      -- what was not better than the best before is not better now
      pub kept : (other : Option ℤ) → NoBetter (best_value before.best) other → NoBetter (best_value now.best) other
      pub found : IsFromLeaf before.best now.best tree sides

    -- a box is listed with a budget
    pub record Lists (root : List Bounds) (budget : ℕ) (listed : Listed) : Type 0 where
      pub tree : Tree
      pub nodes : listed.tree ≡ preorder tree
      pub listing : IsListing tree root
      pub in_order : IsInOrder tree
      pub within : worked_of tree ≤ budget
      pub pending : is_done tree ≡ false → worked_of tree ≡ budget
      pub closes : Closes value (best_value listed.best) tree root
      pub sound : NoFault judged tree root
      pub found : IsFromLeaf None listed.best tree root
