-- The answers that a check accepts, by what stands in them alone.
use Rattle.std.specs.Prelude.{◌≡◌, ℕ, ℤ, List, [], ◌∷◌, position, Option, Some, None, IsSome, All, true}
use Rattle.tiql_query.specs.declared.query.Query.{Query}
use Rattle.tiql_query.specs.declared.world_column.WorldColumn.{WorldColumn}
use Rattle.branch_tree.specs.declared.node.Leaf.TheVariants as leaf
use Rattle.branch_tree.specs.Tree.{Tree, closed, preorder}
use Rattle.branch_tree.specs.Faults.{IsSound, NoFault}
use Rattle.branch_tree.specs.Listing.{AreFixed, Closes, has_two, is_done, open_columns}
use Rattle.answer_text.specs.Worlds.{IsWorldOf}
use Rattle.answer_text.specs.declared.answer.Answer.{Answer}
use Rattle.answer_text.specs.declared.answer.PartAnswer.{PartAnswer}
use Rattle.answer_text.specs.declared.answer.Verdict.{Verdict}
use Rattle.answer_text.specs.declared.answer.Verdict.TheVariants as verdict
use Rattle.answer_text.specs.declared.answer.WorldText.{WorldText}
use Rattle.world_def.specs.declared.world.World.{World}
use Rattle.world_def.specs.Columns.{Tables}
use Rattle.world_def.specs.Meaning.{IsBest, IsPossible, Meets, NoneMeets, score}
use Rattle.world_points.specs.Points.{judged, judged_at, root, cost_at, cost}

-- the one part: it has the columns with two values and this best value, its tree parts the whole box, no node is open, and every
-- leaf closes against the best value
pub record IsClosed (query : Query) (tables : Tables) (columns : List WorldColumn) (best : Option ℤ) (part : PartAnswer) : Type 0 where
  pub number : part.number ≡ 1
  pub shown : part.columns ≡ open_columns (root columns)
  pub found : part.best ≡ best
  pub tree : Tree
  pub nodes : part.tree ≡ preorder tree
  pub done : is_done tree ≡ true
  pub closes : Closes (cost_at query tables columns) best tree (root columns)

-- one part where a column has two values, else none
abbrev pub AreClosedFor : Query → Tables → List WorldColumn → Option ℤ → Option ℕ → List PartAnswer → Type 0
AreClosedFor query tables columns best None parts = parts ≡ []
AreClosedFor query tables columns best (Some column) parts = (part : PartAnswer) × (parts ≡ part ∷ []) × IsClosed query tables columns best part

-- an optimal answer: its sections are those of a possible world that meets, whose score is the objective
pub record IsValidOptimal (query : Query) (tables : Tables) (columns : List WorldColumn) (objective : ℤ) (worlds : List WorldText) (parts : List PartAnswer) : Type 0 where
  pub world : World
  pub given : IsWorldOf query tables worlds world
  pub possible : IsPossible query tables world
  pub meets : Meets query tables world
  pub value : objective ≡ score query tables world
  pub closed : AreClosedFor query tables columns (Some (cost query.aim objective)) (position has_two (root columns)) parts

-- an impossible answer with a false row: no column has two values, and the one possible world does not meet
pub record IsValidRow (query : Query) (tables : Tables) (columns : List WorldColumn) (row : ℕ) : Type 0 where
  pub first : row ≡ 0
  pub fixed : AreFixed (root columns)
  pub none : NoneMeets query tables

-- an impossible answer with a part: a column has two values, and no leaf of the part has a world that meets
pub record IsValidPart (query : Query) (tables : Tables) (columns : List WorldColumn) (part : PartAnswer) : Type 0 where
  pub several : IsSome (position has_two (root columns))
  pub closed : IsClosed query tables columns None part

-- the verdict of a valid answer
abbrev pub IsValidVerdict : Query → Tables → List WorldColumn → Verdict → Type 0
IsValidVerdict query tables columns (verdict.Optimal objective worlds parts) = IsValidOptimal query tables columns objective worlds parts
IsValidVerdict query tables columns (verdict.FalseRow row) = IsValidRow query tables columns row
IsValidVerdict query tables columns (verdict.NoWorld part) = IsValidPart query tables columns part
IsValidVerdict query tables columns (verdict.Unfinished nodes parts) = ⊥

-- the three numbers of the program are 0, since none is made yet, and the verdict holds
pub record IsValid (query : Query) (tables : Tables) (columns : List WorldColumn) (answer : Answer) : Type 0 where
  pub no_columns : answer.columns ≡ 0
  pub no_rows : answer.rows ≡ 0
  pub no_formulas : answer.formulas ≡ 0
  pub verdict : IsValidVerdict query tables columns answer.verdict

-- what an answer says is right: its world is the best one, and its objective is that world's score, or no world meets
abbrev pub IsRight : Query → Tables → Verdict → Type 0
IsRight query tables (verdict.Optimal objective worlds parts) =
    (world : World) × IsWorldOf query tables worlds world × IsBest query tables world × (objective ≡ score query tables world)
IsRight query tables (verdict.FalseRow row) = NoneMeets query tables
IsRight query tables (verdict.NoWorld part) = NoneMeets query tables
IsRight query tables (verdict.Unfinished nodes parts) = ⊥

module _ (query : Query) (tables : Tables) (columns : List WorldColumn) where
  -- no world of a leaf of a part is at fault
  abbrev pub IsSoundPart : PartAnswer → Type 0
  IsSoundPart part = (tree : Tree) → part.tree ≡ preorder tree → NoFault (judged_at query tables columns) tree (root columns)

  -- no world that a check of the answer judges is at fault: the one of its sections, those of the leaves, and the one world where no column has two
  -- values
  abbrev pub NoFaults : Verdict → Type 0
  NoFaults (verdict.Optimal objective worlds parts) =
      ((world : World) → IsWorldOf query tables worlds world → IsSound (judged query tables world)) × All IsSoundPart parts
  NoFaults (verdict.FalseRow row) = NoFault (judged_at query tables columns) (closed leaf.Fixed) (root columns)
  NoFaults (verdict.NoWorld part) = IsSoundPart part
  NoFaults (verdict.Unfinished nodes parts) = Unit {0}
