-- the rows of relations in a world: of tables, of hypothetical tables, and of views over those before them
use Rattle.std.specs.Prelude.{ℕ, List, [], ◌∷◌, ◌++◌, map, flat_map, unwrap_or, slice_get}
use Rattle.tiql_query.specs.declared.relation.Source.{Source}
use Rattle.tiql_query.specs.declared.relation.Source.TheVariants as sources
use Rattle.tiql_query.specs.declared.view.QView.{QView}
use Rattle.tiql_query.specs.declared.query.Query.{Query}
use Rattle.view_select.specs.Selects.{select_rows}
use Rattle.world_def.specs.declared.world.World.{World}
use Rattle.world_def.specs.Columns.{Rows, Tables, rows_of}

-- the rows of a relation, where these are the rows of the views so far; none where the relation is not there
unfoldable pub rows_over : Tables → World → List Rows → Source → Rows
rows_over tables world views (sources.Table n) = rows_of tables n
rows_over tables world views (sources.Hypo n) = rows_of (map (λ table. table.rows) world.tables) n
rows_over tables world views (sources.View n) = rows_of views n

-- the rows of a view: those of its selects, one after the other
unfoldable pub rows_of_view : Tables → World → List Rows → QView → Rows
rows_of_view tables world views view = flat_map (λ select. select_rows select (map (rows_over tables world views) select.sources)) view.arms

-- the rows of views, each over those before it
unfoldable pub views_from : Tables → World → List Rows → List QView → List Rows
views_from tables world so_far [] = so_far
views_from tables world so_far (view ∷ views) = views_from tables world (so_far ++ rows_of_view tables world so_far view ∷ []) views

-- the rows of a relation of a query in a world
unfoldable pub rows_in : Query → Tables → World → Source → Rows
rows_in query tables world = rows_over tables world (views_from tables world [] query.views)
