-- The answers to a query: their one part, their world, and when each verdict is right.
use Rattle.std.specs.Prelude.{◌≡◌, ◌≢◌, ◌≤◌, ℕ, ℤ, List, [], ◌∷◌, Option, Some, None, IsSome, true, false, position, Ok}
use Rattle.branch_tree.specs.declared.node.Leaf.TheVariants as leaf
use Rattle.branch_tree.specs.Tree.{Tree, closed, preorder, worked_of}
use Rattle.branch_tree.specs.Faults.{NoFault}
use Rattle.branch_tree.specs.Listing.{AreFixed, has_two, open_columns, Closes, HasLeaf, IsListing, IsInOrder, is_done}
use Rattle.answer_text.specs.Written.{AreWritten}
use Rattle.answer_text.specs.declared.answer.PartAnswer.{PartAnswer}
use Rattle.answer_text.specs.declared.answer.WorldText.{WorldText}
use Rattle.answer_text.specs.declared.answer.Answer.{Answer}
use Rattle.answer_text.specs.declared.answer.Verdict.{Verdict}
use Rattle.answer_text.specs.declared.answer.Verdict.TheVariants as verdict
use Rattle.tiql_query.specs.declared.query.Query.{Query}
use Rattle.tiql_query.specs.declared.world_column.WorldColumn.{WorldColumn}
use Rattle.world_def.specs.Columns.{Tables}
use Rattle.world_def.specs.Meaning.{IsBest, NoneMeets, score}
use Rattle.world_def.specs.declared.fault.EvalFault.{EvalFault}
use Rattle.world_def.specs.declared.fault.EvalFault.TheVariants as fault
use Rattle.world_def.specs.declared.world.World.{World}
use Rattle.world_points.specs.Points.{judged, judged_at, root, cost_at, world_at, cost}
use Rattle.world_listing.specs.Faults.{FaultsIn}
use Rattle.world_listing.specs.Works.{Lists}
use Rattle.world_listing.specs.declared.search.Found.{Found}
use Rattle.world_listing.specs.declared.search.Listed.{Listed}

module _ (query : Query) (tables : Tables) (choices : List WorldColumn) where
  -- some leaf of the tree has this value, if there is one
  abbrev pub IsReached : Tree → Option ℤ → Type 0
  IsReached tree None = Unit {0}
  IsReached tree (Some best) = (point : List ℤ) × HasLeaf (cost_at query tables choices) point best tree (root choices)

  -- the one part, of all columns with two values: its tree is that of a listing within the budget, every leaf that is not open
  -- closes against its best value, that value is the least that a leaf has, and no leaf's world is at fault
  pub record IsListed (budget : ℕ) (part : PartAnswer) : Type 0 where
    pub number : part.number ≡ 1
    pub columns : part.columns ≡ open_columns (root choices)
    pub tree : Tree
    pub nodes : part.tree ≡ preorder tree
    pub listing : IsListing tree (root choices)
    pub in_order : IsInOrder tree
    pub closes : Closes (cost_at query tables choices) part.best tree (root choices)
    pub reached : IsReached tree part.best
    pub within : worked_of tree ≤ budget
    pub spent : is_done tree ≡ false → worked_of tree ≡ budget
    pub sound : NoFault (judged_at query tables choices) tree (root choices)

  -- the listing is whole, and found this
  pub record IsWhole (budget : ℕ) (best : Option ℤ) (part : PartAnswer) : Type 0 where
    pub listed : IsListed budget part
    pub done : is_done listed.tree ≡ true
    pub found : part.best ≡ best

  -- the one world is not at fault, where no column has two values
  abbrev pub IsOneSound : Type 0
  IsOneSound = NoFault (judged_at query tables choices) (closed leaf.Fixed) (root choices)

  -- the parts where this is the first column with two values: the columns with two values are one part, and there is none where no
  -- column has two values
  abbrev pub ArePartsFor : ℕ → Option ℤ → Option ℕ → List PartAnswer → Type 0
  ArePartsFor budget best None parts = (parts ≡ []) × IsOneSound
  ArePartsFor budget best (Some column) parts = (part : PartAnswer) × (parts ≡ part ∷ []) × IsWhole budget best part

  -- the parts of an answer with this best value
  abbrev pub AreParts : ℕ → Option ℤ → List PartAnswer → Type 0
  AreParts budget best parts = ArePartsFor budget best (position has_two (root choices)) parts

  -- an optimal answer: its sections are those of a best world, whose score is its objective
  pub record IsOptimal (budget : ℕ) (objective : ℤ) (worlds : List WorldText) (parts : List PartAnswer) : Type 0 where
    pub world : World
    pub best : IsBest query tables world
    pub score : objective ≡ score query tables world
    -- this world is not at fault
    pub sound : judged query tables world ≡ Ok (Some (cost query.aim objective))
    pub sections : AreWritten query.hypos world.tables worlds
    pub listed : AreParts budget (Some (cost query.aim objective)) parts

  -- an impossible answer without a part: no column has two values, and the one possible world does not meet
  pub record IsFalseRow (row : ℕ) : Type 0 where
    pub first : row ≡ 0
    pub fixed : AreFixed (root choices)
    pub none : NoneMeets query tables
    pub sound : IsOneSound

  -- an impossible answer with the part that was listed: a column has two values, and no leaf has a world that meets
  pub record IsNoWorld (budget : ℕ) (part : PartAnswer) : Type 0 where
    pub several : IsSome (position has_two (root choices))
    pub whole : IsWhole budget None part
    pub none : NoneMeets query tables

  -- an unfinished answer: it has worked the whole budget, and a node is open
  pub record IsUnfinished (budget nodes : ℕ) (parts : List PartAnswer) : Type 0 where
    pub spent : nodes ≡ budget
    pub several : IsSome (position has_two (root choices))
    pub part : PartAnswer
    pub one : parts ≡ part ∷ []
    pub listed : IsListed budget part
    pub undone : is_done listed.tree ≡ false

  -- the verdict is right, for a listing within the budget
  abbrev pub IsVerdictFor : ℕ → Verdict → Type 0
  IsVerdictFor budget (verdict.Optimal objective worlds parts) = IsOptimal budget objective worlds parts
  IsVerdictFor budget (verdict.FalseRow row) = IsFalseRow row
  IsVerdictFor budget (verdict.NoWorld part) = IsNoWorld budget part
  IsVerdictFor budget (verdict.Unfinished nodes parts) = IsUnfinished budget nodes parts

  -- what is answered to a query, with a budget of nodes; no program is made yet
  pub record Answers (budget : ℕ) (answer : Answer) : Type 0 where
    pub columns : answer.columns ≡ 0
    pub rows : answer.rows ≡ 0
    pub formulas : answer.formulas ≡ 0
    pub verdict : IsVerdictFor budget answer.verdict

  -- a fault that is told is the first that a listing comes upon, unless memory runs out
  abbrev pub TellsFault : ℕ → EvalFault → Type 0
  TellsFault budget told = told ≢ fault.Memory → FaultsIn query tables choices budget told

  -- the box of the columns is listed with the budget
  abbrev pub ListsFor : ℕ → Listed → Type 0
  ListsFor budget listed = Lists (cost_at query tables choices) (judged_at query tables choices) (root choices) budget listed

  -- an optimal answer with the world of this point, and these parts
  abbrev pub IsOf : Found → List PartAnswer → Verdict → Type 0
  IsOf found parts (verdict.Optimal objective worlds listed) =
      (objective ≡ cost query.aim found.cost) × AreWritten query.hypos (world_at query tables choices found.point).tables worlds × (listed ≡ parts)
  IsOf found parts (verdict.FalseRow row) = ⊥
  IsOf found parts (verdict.NoWorld part) = ⊥
  IsOf found parts (verdict.Unfinished nodes listed) = ⊥
