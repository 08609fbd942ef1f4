-- What is asked of the roots and what is minimized, as forms, and the forms of the nodes that they use.
use Rattle.std.specs.Prelude.{◌↔◌, ℕ, ℤ, pos, negsuc, Bool, true, if◌then◌else◌, List, [], ◌∷◌, ◌++◌, flat_map, Contains, Option, Some, None}
use Rattle.std.specs.List.{range_with_len}
use Rattle.prov_fold.specs.Graphs.{Graph, node, size}
use Rattle.bool_encode.specs.Forms.{Form, form}
use Rattle.bool_encode.specs.Tables.{times}
use Rattle.cmp_encode.specs.Tables.{forms_of}
use Rattle.root_encode.specs.Roots.{root_forms}
use Rattle.used_columns.specs.Seeds.{IsSeed}
use Rattle.used_columns.specs.Used.{mark_at}
use Rattle.program_rows.specs.declared.goal.Goal.{Goal}

-- the sign of the number that is minimized: -1 where it is to be great
abbrev pub sign_of : Goal → ℤ
sign_of goal = if goal.maximize then negsuc 0 else pos 1

-- what is minimized: a number of the list with its sign, or nothing
abbrev pub aim_form : Option Goal → Form
aim_form None = form (pos 0) []
aim_form (Some goal) = form (pos 0) (times (sign_of goal) goal.number ∷ [])

-- what is asked of all roots, root by root
abbrev pub goal_forms : Graph → List ℕ → List Form
goal_forms g roots = flat_map (root_forms g true) roots

-- the forms in whose rows a column has to stand that it is used: those of the roots, and the aim's
abbrev pub wanted_forms : Graph → List ℕ → Option Goal → List Form
wanted_forms g roots aim = goal_forms g roots ++ aim_form aim ∷ []

-- exactly the nodes whose columns stand in the row of one of the forms, like columns joined
abbrev pub AreSeedsOf : Graph → List Form → List ℕ → Type 0
AreSeedsOf g forms seeds = (z : ℕ) → Contains seeds z ↔ ((r : Form) × Contains forms r × IsSeed g r.pieces z)

-- the forms of a node where it is marked
abbrev pub marked_forms : Graph → List Bool → ℕ → List Form
marked_forms g marks z = if mark_at marks z then forms_of g z (node g z) else []

-- the forms of the marked nodes, in rising order
abbrev pub node_forms : Graph → List Bool → List Form
node_forms g marks = flat_map (marked_forms g marks) (range_with_len 0 (size g))

-- all forms with rows of a program, behind those of cells: those of used nodes, and then the roots'
abbrev pub all_forms : Graph → List Bool → List ℕ → List Form
all_forms g marks roots = node_forms g marks ++ goal_forms g roots
