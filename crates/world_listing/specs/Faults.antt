-- where a listing comes upon a world that is at fault
use Rattle.std.specs.Prelude.{◌≡◌, ◌≢◌, ◌≤◌, ℕ, ℤ, List, Option, Some, IsSome, position, Result}
use Rattle.ip_rows.specs.declared.Bounds.{Bounds}
use Rattle.branch_tree.specs.Tree.{Tree, worked_of}
use Rattle.branch_tree.specs.Faults.{first_fault}
use Rattle.branch_tree.specs.Listing.{IsListing, IsInOrder, has_two}
use Rattle.tiql_query.specs.declared.query.Query.{Query}
use Rattle.tiql_query.specs.declared.world_column.WorldColumn.{WorldColumn}
use Rattle.world_def.specs.Columns.{Tables}
use Rattle.world_def.specs.declared.fault.EvalFault.{EvalFault}
use Rattle.world_def.specs.declared.fault.EvalFault.TheVariants as fault
use Rattle.world_points.specs.Points.{judged_at, root}

module _ (judged : List ℤ → Result (Option ℤ) EvalFault) where
  -- a listing that works at most so many nodes of the box comes upon this fault first
  pub record FaultsAt (left : ℕ) (sides : List Bounds) (told : EvalFault) : Type 0 where
    pub tree : Tree
    pub listing : IsListing tree sides
    pub in_order : IsInOrder tree
    pub within : worked_of tree ≤ left
    pub first : first_fault judged tree sides ≡ Some told

  -- and so it is told, unless memory runs out
  abbrev pub FaultsAs : ℕ → List Bounds → EvalFault → Type 0
  FaultsAs left sides told = told ≢ fault.Memory → FaultsAt left sides told

-- a listing of the worlds comes upon this fault first, within the budget of worked nodes. Where no column has two values there is one
-- world, which is judged whatever the budget
pub record FaultsIn (query : Query) (tables : Tables) (columns : List WorldColumn) (budget : ℕ) (told : EvalFault) : Type 0 where
  pub tree : Tree
  pub listing : IsListing tree (root columns)
  pub in_order : IsInOrder tree
  pub within : IsSome (position has_two (root columns)) → worked_of tree ≤ budget
  pub first : first_fault (judged_at query tables columns) tree (root columns) ≡ Some told
