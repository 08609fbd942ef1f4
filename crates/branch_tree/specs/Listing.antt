-- What a tree says of the points of its box, whatever value a point has.
use Rattle.std.specs.Prelude.{◌≡◌, ℕ, ℤ, pos, ◌+ℤ◌, ◌-ℤ◌, ◌≤ℤ◌, ◌<ℤ◌, unsigned_abs, ◌+◌, ◌*◌, List, [], ◌∷◌, position, int_lt, if◌then◌else◌, map, Option, Some, None, Bool, true, false, ◌&&◌, ◌⊎◌}
use Rattle.ip_rows.specs.declared.Bounds.{Bounds}
use Rattle.branch_tree.specs.declared.node.Leaf.TheVariants as leaf
use Rattle.branch_tree.specs.Tree.{Tree, closed, split}
use Rattle.branch_tree.specs.Boxes.{side_at, low_box, high_box, IsParted}

-- a box: the sides of each column. One number for each column, within its sides
abbrev pub InBox : List Bounds → List ℤ → Type 0
InBox [] [] = Unit {0}
InBox [] (n ∷ ns) = ⊥
InBox (side ∷ sides) [] = ⊥
InBox (side ∷ sides) (n ∷ ns) = (side.lo ≤ℤ n) × (n ≤ℤ side.hi) × InBox sides ns

-- no side is empty
abbrev pub AreSides : List Bounds → Type 0
AreSides [] = Unit {0}
AreSides (side ∷ sides) = (side.lo ≤ℤ side.hi) × AreSides sides

-- each column has one value
abbrev pub AreFixed : List Bounds → Type 0
AreFixed [] = Unit {0}
AreFixed (side ∷ sides) = (side.lo ≡ side.hi) × AreFixed sides

-- the least point of a box
abbrev pub lows : List Bounds → List ℤ
lows sides = map (λ side. side.lo) sides

-- how many points a box without an empty side has
abbrev pub points : List Bounds → ℕ
points [] = 1
points (side ∷ sides) = (unsigned_abs (side.hi -ℤ side.lo) + 1) * points sides

-- a column has two values
abbrev pub has_two : Bounds → Bool
has_two side = int_lt side.lo side.hi

-- the numbers of the columns with two values, rising; this is the number of the first side
unfoldable pub open_from : ℕ → List Bounds → List ℕ
open_from column [] = []
open_from column (side ∷ sides) = if has_two side then column ∷ open_from (column + 1) sides else open_from (column + 1) sides

-- they are counted from 0
abbrev pub open_columns : List Bounds → List ℕ
open_columns sides = open_from 0 sides

-- the first column with two values
abbrev pub IsFirstOpen : List Bounds → ℕ → Type 0
IsFirstOpen sides column = position has_two sides ≡ Some column

-- the number is the middle of the sides, rounded down
abbrev pub IsMiddle : Bounds → ℤ → Type 0
IsMiddle side at = ((at +ℤ at) ≤ℤ (side.lo +ℤ side.hi)) × ((side.lo +ℤ side.hi) <ℤ (at +ℤ at +ℤ pos 2))

-- the best value is not beaten by that of a point, if the point has one
abbrev pub NoBetter : Option ℤ → Option ℤ → Type 0
NoBetter best None = Unit {0}
NoBetter None (Some value) = ⊥
NoBetter (Some best) (Some value) = best ≤ℤ value

module _ (value : List ℤ → Option ℤ) where
  -- every split parts its box, and every leaf that is not open closes against the best value: its one point has none better
  abbrev pub Closes : Option ℤ → Tree → List Bounds → Type 0
  Closes best (closed leaf.Pending) sides = Unit {0}
  Closes best (closed leaf.Fixed) sides = AreFixed sides × NoBetter best (value (lows sides))
  Closes best (split column at reason low high) sides =
      IsParted sides column at × Closes best low (low_box sides column at) × Closes best high (high_box sides column at)

  -- some leaf's one point is this, with this value
  abbrev pub HasLeaf : List ℤ → ℤ → Tree → List Bounds → Type 0
  HasLeaf point score (closed leaf.Pending) sides = ⊥
  HasLeaf point score (closed leaf.Fixed) sides = (point ≡ lows sides) × (value point ≡ Some score)
  HasLeaf point score (split column at reason low high) sides =
      HasLeaf point score low (low_box sides column at) ⊎ HasLeaf point score high (high_box sides column at)

-- the tree of a listing: a box with one point is a leaf; another is split at the middle of its first column with two values
abbrev pub IsListing : Tree → List Bounds → Type 0
IsListing (closed leaf.Pending) sides = Unit {0}
IsListing (closed leaf.Fixed) sides = AreFixed sides
IsListing (split column at reason low high) sides =
    IsFirstOpen sides column × IsMiddle (side_at sides column) at
    × IsListing low (low_box sides column at) × IsListing high (high_box sides column at)

-- no node is open
abbrev pub is_done : Tree → Bool
is_done (closed leaf.Pending) = false
is_done (closed leaf.Fixed) = true
is_done (split column at reason low high) = is_done low && is_done high

-- no worked node stands behind an open one
abbrev pub IsInOrder : Tree → Type 0
IsInOrder (closed leaf.Pending) = Unit {0}
IsInOrder (closed leaf.Fixed) = Unit {0}
IsInOrder (split column at reason low high) = IsInOrder low × IsInOrder high × (is_done low ≡ false → high ≡ closed leaf.Pending)
