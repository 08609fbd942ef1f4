-- in the box of the columns, the rows hold exactly at the points of possible worlds
use Rattle.std.proofs.Common.{◌≡◌, ℤ, List, refl, sym, ◌∙◌, subst}
use Rattle.std.specs.Prelude.{Ok, All}
use Rattle.branch_tree.specs.Listing.{InBox}
use Rattle.ip_rows.specs.declared.rows.IpRow.{IpRow}
use Rattle.ip_rows.specs.Programs.{number_at, Holds}
use Rattle.tiql_query.specs.Rows.{AreTables}
use Rattle.tiql_query.specs.WellFormed.{IsWellFormed}
use Rattle.tiql_query.specs.declared.query.Query.{Query}
use Rattle.tiql_query.specs.declared.world_column.WorldColumn.{WorldColumn}
use Rattle.world_def.specs.declared.world.World.{World}
use Rattle.world_def.specs.Columns.{Tables, columns_of}
use Rattle.world_def.proofs.Choices.{columns_told}
use Rattle.world_def.proofs.Numbered.{numbers_told}
use Rattle.world_points.specs.Points.{root, world_at}
use Rattle.world_points.proofs.Laws.{cells_there}
use Rattle.drop_rows.specs.Cells.{cell_rows}
use Rattle.drop_rows.specs.Told.{IsOfWorld, TellsWorlds}
use Rattle.drop_rows.proofs.Holding.{tied_of, holding_of}
use Rattle.drop_rows.proofs.Tied.{world_tied}
use Rattle.drop_rows.proofs.Ties.{AreTied}
use Rattle.drop_rows.proofs.Worlds.{box_length, world_back}

module _ (query : Query) (tables : Tables) (columns : List WorldColumn) (made : columns_of query tables ≡ Ok columns) (fit : IsWellFormed query) (are : AreTables query tables) (point : List ℤ) (box : InBox (root columns) point) where
  -- at a possible world the rows hold
  world_holds : IsOfWorld query tables columns point → All (Holds point) (cell_rows columns)
  world_holds is =
      let chosen = columns_told query tables columns made in
      let tied = world_tied query tables columns is.0 chosen (cells_there query tables fit are) is.1 (number_at point 0) in
      holding_of point columns 0 0 point (box_length columns point box) refl
      (subst (λ (ns : List ℤ). AreTied (number_at point 0) columns ns) (numbers_told query tables columns is.0 chosen is.1 ∙ is.2) tied)

  -- and where they hold there is a possible world
  holding_world : All (Holds point) (cell_rows columns) → IsOfWorld query tables columns point
  unfolding world_at
  holding_world all =
      let chosen = columns_told query tables columns made in
      let world : World = world_at query tables columns point in
      let back = world_back query tables columns world point chosen (cells_there query tables fit are) refl box (number_at point 0) (tied_of point columns 0 0 point refl all) in
      (world, back.0, sym (numbers_told query tables columns world chosen back.0) ∙ back.1)

pub rows_tell : (columns : List WorldColumn) (rows : List IpRow) → rows ≡ cell_rows columns → TellsWorlds columns rows
unfolding TellsWorlds
rows_tell columns rows is query tables made fit are point box =
    ((λ all. holding_world query tables columns made fit are point box (subst (All (Holds point)) is all)), (λ world. subst (All (Holds point)) (sym is) (world_holds query tables columns made fit are point box world)))
