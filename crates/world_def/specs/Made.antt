-- the views of a query that are made so far in one world
use Rattle.std.specs.Prelude.{◌≡◌, ◌≢◌, ℕ, zero, suc, List, [], ◌∷◌, length, map, unwrap_or, slice_get, Option, Some, None, Result, Ok, Err}
use Rattle.tiql_query.specs.declared.relation.Source.{Source}
use Rattle.tiql_query.specs.declared.relation.Source.TheVariants as sources
use Rattle.tiql_query.specs.declared.query.Query.{Query}
use Rattle.world_def.specs.declared.fault.EvalFault.{EvalFault}
use Rattle.world_def.specs.declared.fault.EvalFault.TheVariants as fault
use Rattle.world_def.specs.declared.world.World.{World}
use Rattle.world_def.specs.Columns.{Rows, Tables, rows_of}
use Rattle.world_def.specs.Views.{rows_asked}

-- none of so many views
unfoldable pub none_of : ℕ → List (Option Rows)
none_of zero = []
none_of (suc n) = None ∷ none_of n

-- the rows of a relation where these views are made; none of a view that is not
unfoldable pub rows_made_of : Tables → World → List (Option Rows) → Source → Rows
rows_made_of tables world views (sources.Table n) = rows_of tables n
rows_made_of tables world views (sources.Hypo n) = rows_of (map (λ table. table.rows) world.tables) n
rows_made_of tables world views (sources.View n) = unwrap_or (unwrap_or (slice_get views n) None) []

-- there is a place for each view, and a view that is made has the rows that asking for it comes to
pub record AreMade (query : Query) (tables : Tables) (world : World) (views : List (Option Rows)) : Type 0 where
  pub long : length views ≡ length query.views
  pub right : (n : ℕ) (rows : Rows) → slice_get views n ≡ Some (Some rows) → rows_asked query tables world (sources.View n) ≡ Ok rows

-- a relation's rows are among what is made, or the asking comes to this fault unless memory is wanting
abbrev pub Makes : Query → Tables → World → Source → List (Option Rows) → Result Unit EvalFault → Type 0
Makes query tables world source views (Ok done) = AreMade query tables world views × (rows_asked query tables world source ≡ Ok (rows_made_of tables world views source))
Makes query tables world source views (Err e) = e ≢ fault.Memory → rows_asked query tables world source ≡ Err e

-- what is made is still right
abbrev pub Keeps : {A : Type 0} → Query → Tables → World → List (Option Rows) → Result A EvalFault → Type 0
Keeps query tables world views (Ok a) = AreMade query tables world views
Keeps query tables world views (Err e) = Unit {0}
