-- Where judging the points of a tree's leaves comes upon a fault.
use Rattle.std.specs.Prelude.{◌≡◌, ℤ, List, Option, Some, None, Result, Ok, Err}
use Rattle.ip_rows.specs.declared.Bounds.{Bounds}
use Rattle.branch_tree.specs.declared.node.Leaf.TheVariants as leaf
use Rattle.branch_tree.specs.Boxes.{low_box, high_box}
use Rattle.branch_tree.specs.Listing.{lows}
use Rattle.branch_tree.specs.Tree.{Tree, closed, split}

-- the fault of what is judged, if it has one
abbrev pub fault_of : {A E : Type 0} → Result A E → Option E
fault_of (Ok value) = None
fault_of (Err told) = Some told

-- it has none
abbrev pub IsSound : {A E : Type 0} → Result A E → Type 0
IsSound outcome = fault_of outcome ≡ None

-- a fault, or else a later one
abbrev pub or_later : {E : Type 0} → Option E → Option E → Option E
or_later None later = later
or_later (Some told) later = Some told

module _ {E : Type 0} (judged : List ℤ → Result (Option ℤ) E) where
  -- the fault of the first leaf whose one point has one, the lower side before the upper one
  abbrev pub first_fault : Tree → List Bounds → Option E
  first_fault (closed leaf.Pending) sides = None
  first_fault (closed leaf.Fixed) sides = fault_of (judged (lows sides))
  first_fault (split column at reason low high) sides = or_later (first_fault low (low_box sides column at)) (first_fault high (high_box sides column at))

  -- no leaf's point is at fault
  abbrev pub NoFault : Tree → List Bounds → Type 0
  NoFault tree sides = first_fault tree sides ≡ None
