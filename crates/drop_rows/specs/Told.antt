-- what the rows tell: which points have the numbers of a possible world
use Rattle.std.specs.Prelude.{◌≡◌, ◌↔◌, ℤ, List, length, All, Ok}
use Rattle.branch_tree.specs.Listing.{InBox}
use Rattle.ip_rows.specs.declared.rows.IpRow.{IpRow}
use Rattle.ip_rows.specs.Programs.{Holds}
use Rattle.ip_rows.specs.Rows.{AreTerms}
use Rattle.tiql_query.specs.Rows.{AreTables}
use Rattle.tiql_query.specs.WellFormed.{IsWellFormed}
use Rattle.tiql_query.specs.declared.query.Query.{Query}
use Rattle.tiql_query.specs.declared.world_column.WorldColumn.{WorldColumn}
use Rattle.world_def.specs.declared.world.World.{World}
use Rattle.world_def.specs.Columns.{Tables, columns_of}
use Rattle.world_def.specs.Meaning.{IsPossible, numbers}
use Rattle.world_points.specs.Points.{root}

-- the point's numbers are those of a possible world
abbrev pub IsOfWorld : Query → Tables → List WorldColumn → List ℤ → Type 0
IsOfWorld query tables columns point = (world : World) × IsPossible query tables world × (numbers columns world ≡ point)

-- whatever query and tables have these columns: in their box, the rows hold exactly at the points of possible worlds
unfoldable pub TellsWorlds : List WorldColumn → List IpRow → Type 0
TellsWorlds columns rows = (query : Query) (tables : Tables) → columns_of query tables ≡ Ok columns → IsWellFormed query → AreTables query tables
    → (point : List ℤ) → InBox (root columns) point → (All (Holds point) rows ↔ IsOfWorld query tables columns point)

-- where a query over its tables has these columns, the terms of each row rise by column, name these columns and have no factor 0
unfoldable pub AreFormed : List WorldColumn → List IpRow → Type 0
AreFormed columns rows = (query : Query) (tables : Tables) → columns_of query tables ≡ Ok columns → All (λ (row : IpRow). AreTerms (length columns) row.terms) rows
