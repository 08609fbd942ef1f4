-- What solving a query over its tables comes to within a budget of worked nodes. This file alone of the definitions names the way in which
-- worlds are searched: another way changes what stands here, and nothing that cites it.
use Rattle.std.specs.Prelude.{ℕ, ◌+◌, ◌*◌, ◌≤◌, List}
use Rattle.answer_text.specs.declared.answer.Answer.{Answer}
use Rattle.branch_tree.specs.Listing.{points}
use Rattle.tiql_query.specs.declared.query.Query.{Query}
use Rattle.tiql_query.specs.declared.world_column.WorldColumn.{WorldColumn}
use Rattle.world_def.specs.Columns.{Tables}
use Rattle.world_def.specs.declared.fault.EvalFault.{EvalFault}
use Rattle.world_listing.specs.Faults.{FaultsIn}
use Rattle.world_listing.specs.Parts.{Answers}
use Rattle.world_points.specs.Points.{root}

module _ (query : Query) (tables : Tables) (columns : List WorldColumn) where
  -- this is answered
  abbrev pub IsSolution : ℕ → Answer → Type 0
  IsSolution budget answer = Answers query tables columns budget answer

  -- nothing is answered, since this is the first that passes in a world: a value that is too large, or a limit of a view's rows
  abbrev pub IsTooLarge : ℕ → EvalFault → Type 0
  IsTooLarge budget told = FaultsIn query tables columns budget told

-- the budget has a node for each that may be worked: one less than twice the points of the box of these columns
abbrev pub IsEnough : List WorldColumn → ℕ → Type 0
IsEnough columns budget = 2 * points (root columns) ≤ budget + 1
