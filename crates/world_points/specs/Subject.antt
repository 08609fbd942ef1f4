-- What is listed and checked: a query, the tables that it has, and its world columns.
use Rattle.std.specs.Prelude.{◌≡◌, ◌<◌, List, length, Ok}
use Rattle.tiql_query.specs.Rows.{AreTables}
use Rattle.tiql_query.specs.WellFormed.{IsWellFormed}
use Rattle.tiql_query.specs.declared.query.Query.{Query}
use Rattle.tiql_query.specs.declared.world_column.WorldColumn.{WorldColumn}
use Rattle.world_def.specs.Columns.{IsSmall, Tables, columns_of}

-- the query is well formed, the tables are its own, the columns are those of both, and there are few rows and requirements
pub record IsSubject (query : Query) (tables : Tables) (columns : List WorldColumn) : Type 0 where
  pub made : columns_of query tables ≡ Ok columns
  pub small : IsSmall query tables
  pub count : length query.requires_ < 4294967295
  pub given : AreTables query tables
  pub fit : IsWellFormed query
