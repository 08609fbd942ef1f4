-- how views are made: which are wanted, and what is made so far
use Rattle.std.specs.Prelude.{◌≡◌, ◌≢◌, ◌<◌, ℕ, Bool, true, false, ◌||◌, List, [], length, map, unwrap_or, slice_get, slice_set, slice_index_or, Option, Some, None, Result, Ok, Err}
use Rattle.tiql_query.specs.declared.view.QView.{QView}
use Rattle.tiql_query.specs.declared.query.Query.{Query}
use Rattle.world_def.specs.declared.fault.EvalFault.{EvalFault}
use Rattle.world_def.specs.declared.fault.EvalFault.TheVariants as fault
use Rattle.world_def.specs.declared.world.World.{World}
use Rattle.world_def.specs.Columns.{Rows, Tables}
use Rattle.world_def.specs.Views.{view_asked, is_among}

-- the marks that are set are those of these numbers
abbrev pub AreMarks : List ℕ → List Bool → Type 0
AreMarks these marks = (k : ℕ) → k < length marks → slice_index_or marks k false ≡ is_among these k

-- what is marked afterwards was marked before, or is among these
pub record Marks (these : List ℕ) (before after : List Bool) : Type 0 where
  pub long : length after ≡ length before
  pub right : (k : ℕ) → k < length before → slice_index_or after k false ≡ (slice_index_or before k false || is_among these k)

-- the rows of a view, none where it is not made
abbrev pub rows_there : Option Rows → Rows
rows_there made = unwrap_or made []

-- whether there is a view with this number that is not made
abbrev pub is_missing : List (Option Rows) → ℕ → Bool
is_missing made n = lacks (slice_get made n)
  where
    lacks : Option (Option Rows) → Bool
    lacks None = false
    lacks (Some None) = true
    lacks (Some (Some rows)) = false

-- the view with this number is made, over what was made before, and nothing else; or this is told
abbrev pub Puts : Query → Tables → World → ℕ → QView → List (Option Rows) → List (Option Rows) → Result Unit EvalFault → Type 0
Puts query tables world n view before after (Ok done) =
    (rows : Rows) × (view_asked query tables world (map rows_there before) n view ≡ Ok rows) × (after ≡ slice_set before n (Some rows))
Puts query tables world n view before after (Err e) = e ≢ fault.Memory → view_asked query tables world (map rows_there before) n view ≡ Err e
