-- the columns of a query have bounds as small as is asked of them
use Rattle.std.proofs.Common.{◌≡◌, List, [], ◌∷◌}
use Rattle.std.specs.Prelude.{Ok, All}
use Rattle.std.proofs.lemmas.List.Elements.{All-cons, All-nil}
use Rattle.tiql_query.specs.declared.query.Query.{Query}
use Rattle.tiql_query.specs.declared.world_column.WorldColumn.{WorldColumn}
use Rattle.world_def.specs.Columns.{Tables, columns_of}
use Rattle.world_def.proofs.Bounded.{AreBounded, columns_bounded}
use Rattle.drop_rows.specs.Cells.{HasSmallBound}

all_small : (columns : List WorldColumn) → AreBounded columns → All HasSmallBound columns
all_small [] all = All-nil HasSmallBound
all_small (column ∷ columns) all = All-cons HasSmallBound column columns all.0.lo (all_small columns all.1)

pub small_bounds : (query : Query) (tables : Tables) (columns : List WorldColumn) → columns_of query tables ≡ Ok columns → All HasSmallBound columns
small_bounds query tables columns made = all_small columns (columns_bounded query tables columns made)
