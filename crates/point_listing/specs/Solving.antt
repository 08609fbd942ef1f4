-- What a listing of a program answers: its one part, its best point, and when each answer is right.
use Rattle.std.specs.Prelude.{◌≡◌, ◌≤◌, ◌<◌, ◌+◌, ◌*◌, ℕ, ℤ, List, [], ◌∷◌, length, take, Option, Some, None, true, false}
use Rattle.ip_rows.specs.declared.program.Program.{Program}
use Rattle.prov_fold.specs.Graphs.{Graph}
use Rattle.bool_encode.specs.declared.stand.Stand.{Stand}
use Rattle.bool_encode.specs.Points.{point_of}
use Rattle.branch_tree.specs.Tree.{Tree, preorder, worked_of}
use Rattle.branch_tree.specs.Listing.{IsListing, IsInOrder, is_done, points}
use Rattle.whole_points.specs.Matched.{world_count}
use Rattle.answer_text.specs.declared.answer.PartAnswer.{PartAnswer}
use Rattle.program_leaves.specs.Leaves.{HasNoFalseRow, IsFirstFalseRow, IsTooLarge, part_columns, part_value, root_of, worlds_in}
use Rattle.program_leaves.specs.Closing.{Closes, ClosesLeaf, HasNoPoint, IsLeastPoint}
use Rattle.point_listing.specs.Works.{HasLeaf}
use Rattle.point_listing.specs.declared.solved.Solved.{Solved}
use Rattle.point_listing.specs.declared.solved.Solved.TheVariants as solved
use Rattle.point_listing.specs.declared.solved.SolveFault.{SolveFault}
use Rattle.point_listing.specs.declared.solved.SolveFault.TheVariants as fault

-- a part of a program is too large: the one part, of which these are the numbers
abbrev pub TellsTooLarge : Program → SolveFault → Type 0
TellsTooLarge program (fault.PartTooLarge part columns rows) = (part ≡ 1) × (columns ≡ length (part_columns program)) × (rows ≡ length program.rows) × IsTooLarge program
TellsTooLarge program fault.Memory = Unit {0}

module _ (program : Program) (g : Graph) (stands : List Stand) where
  -- some leaf of the tree has this value, if there is one
  abbrev pub IsReached : Tree → Option ℤ → Type 0
  IsReached tree None = Unit {0}
  IsReached tree (Some best) = (world : List ℤ) × HasLeaf program g stands world best tree (root_of program)

  -- the one part, of all columns with two values: its tree lists the worlds within the budget, every leaf that is not open closes
  -- against its best value, and that value is one that a leaf has
  pub record IsListed (budget : ℕ) (part : PartAnswer) : Type 0 where
    pub number : part.number ≡ 1
    pub columns : part.columns ≡ part_columns program
    pub tree : Tree
    pub nodes : part.tree ≡ preorder tree
    pub listing : IsListing tree (worlds_in stands (root_of program))
    pub in_order : IsInOrder tree
    pub closes : Closes (ClosesLeaf program g stands part.best) tree (root_of program)
    pub reached : IsReached tree part.best
    pub within : worked_of tree ≤ budget
    pub spent : is_done tree ≡ false → worked_of tree ≡ budget

  -- the listing is whole, and found this
  pub record IsWhole (budget : ℕ) (best : Option ℤ) (part : PartAnswer) : Type 0 where
    pub listed : IsListed budget part
    pub done : is_done listed.tree ≡ true
    pub found : part.best ≡ best

  -- the parts where these columns have two values: they are one part, and there is none where no column has two values
  abbrev pub ArePartsFor : ℕ → ℤ → List ℕ → List PartAnswer → Type 0
  ArePartsFor budget best [] parts = parts ≡ []
  ArePartsFor budget best (column ∷ columns) parts = (part : PartAnswer) × (parts ≡ part ∷ []) × IsWhole budget (Some best) part

  -- a whole point that is the point of its world, and than which none has a lesser value
  pub record IsBest (budget : ℕ) (point : List ℤ) (parts : List PartAnswer) : Type 0 where
    pub least : IsLeastPoint program point
    pub of_world : point ≡ point_of g stands (take (world_count stands) point)
    pub sound : HasNoFalseRow program
    pub listed : ArePartsFor budget (part_value program point) (part_columns program) parts

  -- the part was listed whole, and no leaf has a value: there is no whole point
  pub record IsNoWorld (budget : ℕ) (part : PartAnswer) : Type 0 where
    pub several : 0 < length (part_columns program)
    pub sound : HasNoFalseRow program
    pub whole : IsWhole budget None part
    pub none : HasNoPoint program

  -- the whole budget is worked, and a node is open
  pub record IsSpent (budget : ℕ) (parts : List PartAnswer) : Type 0 where
    pub several : 0 < length (part_columns program)
    pub sound : HasNoFalseRow program
    pub part : PartAnswer
    pub one : parts ≡ part ∷ []
    pub listed : IsListed budget part
    pub undone : is_done listed.tree ≡ false

  -- the answer is right, for a listing within the budget
  abbrev pub IsSolved : ℕ → Solved → Type 0
  IsSolved budget (solved.Best point parts) = IsBest budget point parts
  IsSolved budget (solved.FalseRow row) = IsFirstFalseRow program row
  IsSolved budget (solved.NoWorld part) = IsNoWorld budget part
  IsSolved budget (solved.Spent parts) = IsSpent budget parts

  -- the budget has a node for each that may be worked: one less than twice the points of the box of the world columns
  abbrev pub IsEnough : ℕ → Type 0
  IsEnough budget = 2 * points (worlds_in stands (root_of program)) ≤ budget + 1

-- the work did not end with the budget
abbrev pub IsFinished : Solved → Type 0
IsFinished (solved.Spent parts) = ⊥
IsFinished _ = Unit {0}
