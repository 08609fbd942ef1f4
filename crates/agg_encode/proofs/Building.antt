-- What the call for a query's program makes of the calls below it.
use Rattle.std.proofs.Common.{◌≡◌, ◌∙◌, sym, ap, List, Ok, Err}
use Rattle.std.specs.Prelude.{◌≢◌}
use Rattle.tiql_query.specs.declared.query.Query.{Query}
use Rattle.tiql_query.specs.declared.world_column.WorldColumn.{WorldColumn}
use Rattle.world_def.specs.Columns.{Tables, columns_of}
use Rattle.world_points.specs.Points.{root}
use Rattle.prov_fold.specs.Graphs.{Graph}
use Rattle.used_columns.specs.Laid.{HasChoices}
use Rattle.sym_query.specs.declared.fault.QueryFault.{QueryFault}
use Rattle.sym_query.specs.declared.fault.QueryFault.TheVariants as walk
use Rattle.sym_query.specs.declared.goals.Goals.{Goals}
use Rattle.sym_query.specs.Walks.{query_walk}
use Rattle.walk_choices.proofs.QueryChoices.{walk_choices}
use Rattle.walk_choices.specs.Choices.{start}
use Rattle.agg_encode.specs.Built.{TellsFault, of_walk}

module _ (query : Query) (tables : Tables) (columns : List WorldColumn) (before : Graph) (begun : before ≡ start) where
  begins_there : (fault : QueryFault) (g : Graph) → query_walk query tables columns before ≡ Err (fault, g) → query_walk query tables columns start ≡ Err (fault, g)
  begins_there fault g is = ap (query_walk query tables columns) (sym begun) ∙ is

  -- what stopped the walk is told
  pub stopped : (fault : QueryFault) (g : Graph) → (fault ≢ walk.Memory → query_walk query tables columns before ≡ Err (fault, g)) → TellsFault query tables columns (of_walk fault)
  stopped (walk.Wide source number) g is = (g, begins_there (walk.Wide source number) g (is (λ e. cc)))
  stopped (walk.TooManyRows view limit) g is = (g, begins_there (walk.TooManyRows view limit) g (is (λ e. cc)))
  stopped walk.Full g is = (g, begins_there walk.Full g (is (λ e. cc)))
  stopped walk.Memory g is = tt

  pub choices_in : (goals : Goals) (g : Graph) → columns_of query tables ≡ Ok columns → query_walk query tables columns before ≡ Ok (goals, g) → HasChoices g (root columns)
  choices_in goals g made walked = walk_choices query tables columns goals g made (ap (query_walk query tables columns) (sym begun) ∙ walked)
