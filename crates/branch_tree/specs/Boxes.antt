-- Boxes: a side for each column, and how the splits of a tree part them.
use Rattle.std.specs.Prelude.{◌-◌, ◌<◌, ℕ, ℤ, pos, ◌+ℤ◌, ◌≤ℤ◌, ◌<ℤ◌, zero, suc, List, [], length, nat_lt, if◌then◌else◌, slice_index_or, slice_set}
use Rattle.std.specs.Bool.{MatchBool}
use Rattle.ip_rows.specs.declared.Bounds.{Bounds}
use Rattle.branch_tree.specs.Tree.{Tree, closed, split, preorder}

-- a column's side of a box, where the column is there
abbrev pub side_at : List Bounds → ℕ → Bounds
side_at sides column = slice_index_or sides column (record { lo = pos 0; hi = pos 0 })

-- the numbers of a side up to a number
abbrev pub low_side : Bounds → ℤ → Bounds
low_side side at = record { lo = side.lo; hi = at }

-- the numbers of a side above a number
abbrev pub high_side : Bounds → ℤ → Bounds
high_side side at = record { lo = at +ℤ pos 1; hi = side.hi }

-- the lower part of a box that is split at a number of a column
abbrev pub low_box : List Bounds → ℕ → ℤ → List Bounds
low_box sides column at = slice_set sides column (low_side (side_at sides column) at)

-- the upper part
abbrev pub high_box : List Bounds → ℕ → ℤ → List Bounds
high_box sides column at = slice_set sides column (high_side (side_at sides column) at)

-- the column is there, and the number leaves something of its side on either part
pub record IsParted (sides : List Bounds) (column : ℕ) (at : ℤ) : Type 0 where
  pub there : column < length sides
  pub low : (side_at sides column).lo ≤ℤ at
  pub high : at <ℤ (side_at sides column).hi

-- every split of the tree parts its own box
abbrev pub Fits : List Bounds → Tree → Type 0
Fits sides (closed leaf) = Unit {0}
Fits sides (split column at reason low high) =
    IsParted sides column at × Fits (low_box sides column at) low × Fits (high_box sides column at) high

-- the tree has a node with this number, counted from 0 in preorder, and every split above it parts its own box
abbrev pub HasBox : List Bounds → Tree → ℕ → Type 0
HasBox sides tree zero = Unit {0}
HasBox sides (closed leaf) (suc node) = ⊥
HasBox sides (split column at reason low high) (suc node) =
    IsParted sides column at
    × MatchBool (nat_lt node (length (preorder low)))
    (HasBox (low_box sides column at) low node)
    (HasBox (high_box sides column at) high (node - length (preorder low)))

-- the box of the node with this number: the root's sides, narrowed by every split above it
abbrev pub box_of : List Bounds → Tree → ℕ → List Bounds
box_of sides tree zero = sides
box_of sides (closed leaf) (suc node) = []
box_of sides (split column at reason low high) (suc node) =
    if nat_lt node (length (preorder low))
    then box_of (low_box sides column at) low node
    else box_of (high_box sides column at) high (node - length (preorder low))
