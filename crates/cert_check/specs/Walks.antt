-- A walk over the nodes of a tree in preorder, with the boxes that are still to be gone over.
use Rattle.std.specs.Prelude.{◌+◌, ◌<◌, ℕ, ℤ, if◌then◌else◌, List, [], ◌∷◌, length, reverse, Option, Some, None, Ok, slice_set}
use Rattle.std.specs.List.{All}
use Rattle.ip_rows.specs.declared.Bounds.{Bounds}
use Rattle.tiql_query.specs.declared.query.Query.{Query}
use Rattle.tiql_query.specs.declared.world_column.WorldColumn.{WorldColumn}
use Rattle.branch_tree.specs.declared.node.Node.{Node}
use Rattle.branch_tree.specs.declared.node.Node.TheVariants as node
use Rattle.branch_tree.specs.Boxes.{IsParted, low_box, high_box}
use Rattle.world_def.specs.Columns.{Tables}
use Rattle.cert_check.specs.declared.fault.Reject.TheVariants as reject
use Rattle.cert_check.specs.declared.walk.Turn.{Turn}
use Rattle.cert_check.specs.declared.walk.Walk.{Walk}
use Rattle.cert_check.specs.Reasons.{Outcome, ◌>>◌, unless, at_leaf, is_parted}

-- a box that waits with another side in a column, before others
abbrev pub waits : Option Bounds → List Bounds → ℕ → List (List Bounds) → List (List Bounds)
waits None sides column more = more
waits (Some side) sides column more = slice_set sides column side ∷ more

-- the boxes that wait above a box, the nearest first, where the last turn stands first
abbrev pub waiting : List Bounds → List Turn → List (List Bounds)
waiting sides [] = []
waiting sides (turn ∷ turns) = waits turn.next sides turn.column (waiting (slice_set sides turn.column turn.side) turns)

-- the box where the walk stands, and those that wait
unfoldable pub boxes : Walk → List (List Bounds)
boxes walk = if walk.over then [] else walk.sides ∷ waiting walk.sides (reverse walk.turns)

-- every turn has a column of the box
unfoldable pub IsWalk : Walk → Type 0
IsWalk walk = All (λ turn. turn.column < length walk.sides) walk.turns

-- the boxes behind a split at the first of them
abbrev pub split_first : ℕ → ℤ → List (List Bounds) → List (List Bounds)
split_first column at [] = []
split_first column at (sides ∷ more) = low_box sides column at ∷ high_box sides column at ∷ more

-- the boxes behind a leaf at the first of them
abbrev pub behind_first : List (List Bounds) → List (List Bounds)
behind_first [] = []
behind_first (sides ∷ more) = more

-- the boxes behind a node at the first of them
abbrev pub behind_node : Node → List (List Bounds) → List (List Bounds)
behind_node (node.Split column at reason) more = split_first column at more
behind_node (node.Closed leaf) more = behind_first more

-- a split parts the first of the boxes
abbrev pub PartsFirst : Node → List (List Bounds) → Type 0
PartsFirst (node.Closed leaf) more = Unit {0}
PartsFirst (node.Split column at reason) [] = ⊥
PartsFirst (node.Split column at reason) (sides ∷ more) = IsParted sides column at

module _ (query : Query) (tables : Tables) (columns : List WorldColumn) (best : Option ℤ) (part : ℕ) where
  -- what is wrong at a node
  abbrev pub at_node : Node → List Bounds → ℕ → Outcome
  at_node (node.Split column at reason) sides place = unless (is_parted sides column at) reject.WrongSplit part place
  at_node (node.Closed leaf) sides place = at_leaf query tables columns best leaf sides part place

  -- what is wrong first at these nodes, from this number on, over these boxes
  abbrev pub in_nodes : List Node → List (List Bounds) → ℕ → Outcome
  in_nodes [] more place = Ok tt
  in_nodes (here ∷ nodes) [] place = Ok tt
  in_nodes (here ∷ nodes) (sides ∷ more) place = at_node here sides place >> in_nodes nodes (behind_node here (sides ∷ more)) (place + 1)
