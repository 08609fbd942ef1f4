-- The first reason for which an answer is refused, with its part and node, or the fault of a world that is judged before a reason comes.
use Rattle.std.specs.Prelude.{◌≡◌, ◌≢◌, ◌+◌, ℕ, ℤ, ◌==◌, Bool, true, false, not, ◌&&◌, List, [], ◌∷◌, length, Option, Some, None, is_none, slice_get, Result, Ok, Err, int_le, int_lt, nat_lt, bytes_eq}
use Rattle.std.specs.List.{AllZip, list_any}
use Rattle.std.specs.Ordering.{int_eq}
use Rattle.base_kit.specs.Asking.{and_then}
use Rattle.ip_rows.specs.declared.Bounds.{Bounds}
use Rattle.tiql_query.specs.declared.query.Query.{Query}
use Rattle.tiql_query.specs.declared.world_column.WorldColumn.{WorldColumn}
use Rattle.branch_tree.specs.declared.node.Leaf.{Leaf}
use Rattle.branch_tree.specs.declared.node.Leaf.TheVariants as leaf
use Rattle.branch_tree.specs.Tree.{Tree, closed, split, preorder}
use Rattle.branch_tree.specs.Boxes.{side_at, low_box, high_box}
use Rattle.branch_tree.specs.Listing as listing
use Rattle.answer_text.specs.Worlds.{IsWorldOf}
use Rattle.answer_text.specs.declared.answer.Answer.{Answer}
use Rattle.answer_text.specs.declared.answer.PartAnswer.{PartAnswer}
use Rattle.answer_text.specs.declared.answer.Verdict.{Verdict}
use Rattle.answer_text.specs.declared.answer.Verdict.TheVariants as verdict
use Rattle.answer_text.specs.declared.answer.WorldText.{WorldText}
use Rattle.world_def.specs.declared.world.World.{World}
use Rattle.world_def.specs.Columns.{Tables}
use Rattle.world_def.specs.Judging as judging
use Rattle.world_def.specs.Meaning.{IsPossible}
use Rattle.world_points.specs.Points.{judged_at, root, cost}
use Rattle.cert_check.specs.Faults.{asking}
use Rattle.cert_check.specs.declared.fault.Reject.{Reject}
use Rattle.cert_check.specs.declared.fault.Reject.TheVariants as reject
use Rattle.cert_check.specs.declared.fault.CheckFault.{CheckFault}
use Rattle.cert_check.specs.declared.fault.CheckFault.TheVariants as fault

-- what a check comes to: nothing is wrong, or its first reason
abbrev pub Outcome : Type 0
Outcome = Result (Unit {0}) CheckFault

infixr 10 ◌>>◌
-- the next reasons come where the ones before do not
abbrev pub ◌>>◌ : Outcome → Outcome → Outcome
(Ok x) >> next = next
(Err first) >> next = Err first

-- the outcome is a reason that comes before, or it is such a one
abbrev pub OrElse : Outcome → Outcome → Type 0 → Type 0
OrElse (Err first) outcome Rest = outcome ≡ Err first
OrElse (Ok x) outcome Rest = Rest

-- the reason comes unless the test holds
abbrev pub unless : Bool → Reject → ℕ → ℕ → Outcome
unless true reason part node = Ok tt
unless false reason part node = Err (fault.Rejected reason part node)

-- a value is better than the best one, or there is no best one
abbrev pub beats : Option ℤ → Option ℤ → Bool
beats best None = false
beats None (Some value) = true
beats (Some best) (Some value) = int_lt value best

-- two values, each of which may be missing, are the same
abbrev pub is_same : Option ℤ → Option ℤ → Bool
is_same None None = true
is_same None (Some value) = false
is_same (Some best) None = false
is_same (Some best) (Some value) = int_eq best value

-- the column is there, and the number leaves something of its side on either part
abbrev pub is_parted : List Bounds → ℕ → ℤ → Bool
is_parted sides column at = nat_lt column (length sides) && int_le (side_at sides column).lo at && int_lt at (side_at sides column).hi

-- some column has two values
abbrev pub have_two : List Bounds → Bool
have_two sides = list_any listing.has_two sides

-- the number stands in this place
abbrev pub has_at : List ℕ → ℕ → ℕ → Bool
has_at columns place number = is_it (slice_get columns place)
  where
    is_it : Option ℕ → Bool
    is_it None = false
    is_it (Some column) = column == number

-- these are the numbers of the columns with two values
abbrev pub are_open : List ℕ → List Bounds → Bool
are_open columns sides = bytes_eq columns (listing.open_columns sides)

-- the part has the number and the columns of the one part
abbrev pub is_the_part : List Bounds → PartAnswer → Bool
is_the_part sides part = part.number == 1 && are_open part.columns sides

-- the parts are all parts in order
abbrev pub are_all_parts : List Bounds → List PartAnswer → Bool
are_all_parts sides [] = not (have_two sides)
are_all_parts sides (part ∷ []) = have_two sides && is_the_part sides part
are_all_parts sides (part ∷ next ∷ more) = false

-- the parts that a verdict shows
abbrev pub parts_of : Verdict → List PartAnswer
parts_of (verdict.Optimal objective worlds parts) = parts
parts_of (verdict.FalseRow row) = []
parts_of (verdict.NoWorld part) = part ∷ []
parts_of (verdict.Unfinished nodes parts) = parts

-- the work has come to its end
abbrev pub is_finished : Verdict → Bool
is_finished (verdict.Optimal objective worlds parts) = true
is_finished (verdict.FalseRow row) = true
is_finished (verdict.NoWorld part) = true
is_finished (verdict.Unfinished nodes parts) = false

-- the three numbers are 0, since no program is made yet
abbrev pub has_no_program : Answer → Bool
has_no_program answer = answer.columns == 0 && answer.rows == 0 && answer.formulas == 0

-- the cost of a world with this score, if it has one: it does not meet, or the objective is not its score
abbrev pub cost_for : Query → ℤ → Option ℤ → Result ℤ CheckFault
cost_for query objective None = Err (fault.Rejected reject.WorldBreaks 0 0)
cost_for query objective (Some score) = and_then (unless (int_eq objective score) reject.WrongObjective 0 0) (λ right. Ok (cost query.aim score))

module _ (query : Query) (tables : Tables) where
  -- the cost of an optimal answer's world
  unfoldable pub cost_of : ℤ → World → Result ℤ CheckFault
  cost_of objective world = and_then (asking (judging.judged query tables world)) (cost_for query objective)

  -- the sections give a possible world, or none
  abbrev pub Give : List WorldText → Option World → Type 0
  Give worlds (Some world) = IsWorldOf query tables worlds world × IsPossible query tables world
  Give worlds None = (world : World) → IsWorldOf query tables worlds world → IsPossible query tables world → ⊥

  -- so do those of an optimal answer; no other verdict shows sections
  abbrev pub IsGiven : Verdict → Option World → Type 0
  IsGiven (verdict.Optimal objective worlds parts) given = Give worlds given
  IsGiven (verdict.FalseRow row) given = given ≡ None
  IsGiven (verdict.NoWorld part) given = given ≡ None
  IsGiven (verdict.Unfinished nodes parts) given = given ≡ None

module _ (query : Query) (tables : Tables) (columns : List WorldColumn) where
  -- at a leaf: an open one, a box with two points, a world that is at fault, or a world that beats the best value
  abbrev pub at_leaf : Option ℤ → Leaf → List Bounds → ℕ → ℕ → Outcome
  at_leaf best leaf.Pending sides part node = Err (fault.Rejected reject.OpenNode part node)
  at_leaf best leaf.Fixed sides part node =
      unless (not (have_two sides)) reject.NotFixed part node
      >> and_then (asking (judged_at query tables columns (listing.lows sides))) (λ value. unless (not (beats best value)) reject.FixedBeats part node)

  -- in a tree over a box, whose first node has this number: a split that does not part its box, or what is wrong at a leaf
  abbrev pub in_tree : Option ℤ → Tree → List Bounds → ℕ → ℕ → Outcome
  in_tree best (closed leaf) sides part node = at_leaf best leaf sides part node
  in_tree best (split column at reason low high) sides part node =
      unless (is_parted sides column at) reject.WrongSplit part node
      >> in_tree best low (low_box sides column at) part (node + 1)
      >> in_tree best high (high_box sides column at) part (node + 1 + length (preorder low))

  -- in a part with this tree: its best value is another, or what is wrong in the tree
  abbrev pub in_part : Option ℤ → PartAnswer → Tree → Outcome
  in_part best part tree =
      unless (is_same part.best best) reject.BestDiffers part.number 0
      >> in_tree best tree (root columns) part.number 1

  -- in one part after another
  abbrev pub in_parts : Option ℤ → List PartAnswer → List Tree → Outcome
  in_parts best [] trees = Ok tt
  in_parts best (part ∷ parts) [] = Ok tt
  in_parts best (part ∷ parts) (tree ∷ trees) = in_part best part tree >> in_parts best parts trees

  -- other parts are shown than all, or what is wrong in them
  abbrev pub of_parts : Option ℤ → List PartAnswer → List Tree → Outcome
  of_parts best parts trees = unless (are_all_parts (root columns) parts) reject.WrongParts 0 0 >> in_parts best parts trees

  -- for an optimal answer: its sections give no possible world, what is wrong with its world, or in the parts
  abbrev pub of_world : ℤ → List PartAnswer → List Tree → Option World → Outcome
  of_world objective parts trees None = Err (fault.Rejected reject.WrongWorld 0 0)
  of_world objective parts trees (Some world) = and_then (cost_of query tables objective world) (λ best. of_parts (Some best) parts trees)

  -- for an impossible answer with a row: a column has two values, or the one world meets
  abbrev pub of_row : ℕ → Outcome
  of_row row =
      unless (row == 0 && not (have_two (root columns))) reject.RowHolds 0 0
      >> and_then (asking (judged_at query tables columns (listing.lows (root columns)))) (λ value. unless (is_none value) reject.RowHolds 0 0)

  -- what is wrong with a verdict whose sections give this world, if one, and whose parts have these trees
  abbrev pub of_verdict : Option World → List Tree → Verdict → Outcome
  of_verdict given trees (verdict.Optimal objective worlds parts) = of_world objective parts trees given
  of_verdict given trees (verdict.FalseRow row) = of_row row
  of_verdict given trees (verdict.NoWorld part) =
      unless (have_two (root columns) && is_the_part (root columns) part) reject.WrongParts 0 0 >> in_parts None (part ∷ []) trees
  of_verdict given trees (verdict.Unfinished nodes parts) = Ok tt

  -- the same, for the world that its sections give and the trees that its parts have
  pub record IsOfVerdict (answer : Verdict) (outcome : Outcome) : Type 0 where
    pub given : Option World
    pub worlds : IsGiven query tables answer given
    pub trees : List Tree
    pub parts : AllZip (λ part tree. part.tree ≡ preorder tree) (parts_of answer) trees
    pub first : outcome ≡ of_verdict given trees answer

  -- what a check of the answer comes to: the work has not come to its end, the numbers are not the program's, or what is
  -- wrong with its verdict
  abbrev pub IsOutcome : Answer → Outcome → Type 0
  IsOutcome answer outcome =
      OrElse (unless (is_finished answer.verdict) reject.Unfinished 0 0 >> unless (has_no_program answer) reject.WrongProgram 0 0) outcome
      (IsOfVerdict answer.verdict outcome)

  -- what is told of an answer is what a check comes to, unless memory ran out
  abbrev pub TellsFirst : Answer → Outcome → Type 0
  TellsFirst answer (Ok x) = IsOutcome answer (Ok tt)
  TellsFirst answer (Err told) = told ≢ fault.Memory → IsOutcome answer (Err told)
