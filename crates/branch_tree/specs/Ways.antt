-- The way from a node of a tree up to its root, as a walk back over the nodes before it finds it.
use Rattle.std.specs.Prelude.{◌+◌, ℕ, ℤ, zero, suc, true, false, List, [], ◌∷◌, ◌++◌, if◌then◌else◌}
use Rattle.branch_tree.specs.declared.node.Node.{Node}
use Rattle.branch_tree.specs.declared.node.Node.TheVariants as node
use Rattle.branch_tree.specs.declared.way.Turn.{Turn}
use Rattle.branch_tree.specs.declared.way.Walk.{Walk}
use Rattle.branch_tree.specs.Boxes.{low_box, high_box, IsParted}
use Rattle.ip_rows.specs.declared.Bounds.{Bounds}

-- a whole tree more has been passed
abbrev pub past_tree : Walk → Walk
past_tree walk = record walk { passed = walk.passed + 1 }

-- back over a split: its sides are the first two trees that were passed, or the walk began in its upper side, behind one, or in its lower side
abbrev pub turn_at : ℕ → ℤ → Walk → Walk
turn_at column at walk = by_passed walk.passed
  where
    by_passed : ℕ → Walk
    by_passed zero = record walk { turns = walk.turns ++ record { column = column; at = at; is_low = true } ∷ [] }
    by_passed (suc zero) = record { passed = 0; turns = walk.turns ++ record { column = column; at = at; is_low = false } ∷ [] }
    by_passed (suc (suc trees)) = record walk { passed = suc trees }

-- back over a node
abbrev pub step_back : Node → Walk → Walk
step_back (node.Closed leaf) walk = past_tree walk
step_back (node.Split column at reason) walk = turn_at column at walk

-- the walk from behind these nodes to the first of them
abbrev pub walk_back : List Node → Walk
walk_back [] = record { passed = 0; turns = [] }
walk_back (node ∷ nodes) = step_back node (walk_back nodes)

-- the box behind a split, on the side where the way goes
abbrev pub turned : List Bounds → Turn → List Bounds
turned sides turn = if turn.is_low then low_box sides turn.column turn.at else high_box sides turn.column turn.at

-- the box at the end of the way, whose last turn stands first
abbrev pub box_along : List Bounds → List Turn → List Bounds
box_along sides [] = sides
box_along sides (turn ∷ turns) = turned (box_along sides turns) turn

-- every split on the way parts its own box
abbrev pub IsWay : List Bounds → List Turn → Type 0
IsWay sides [] = Unit {0}
IsWay sides (turn ∷ turns) = IsParted (box_along sides turns) turn.column turn.at × IsWay sides turns
