-- What the whole points of a query's program are: its possible worlds that meet.
use Rattle.std.specs.Prelude.{◌≡◌, ◌≤◌, ◌^◌, ℤ, ◌+ℤ◌, unsigned_abs, List, length, take}
use Rattle.ip_rows.specs.declared.program.Program.{Program}
use Rattle.ip_rows.specs.Programs.{sides_of, sum_at}
use Rattle.tiql_query.specs.declared.query.Query.{Query}
use Rattle.tiql_query.specs.declared.world_column.WorldColumn.{WorldColumn}
use Rattle.prov_fold.specs.Graphs.{Graph}
use Rattle.bool_encode.specs.declared.stand.Stand.{Stand}
use Rattle.bool_encode.specs.Points.{point_of}
use Rattle.whole_points.specs.Matched.{world_count}
use Rattle.whole_points.specs.Points.{IsWholePoint}
use Rattle.world_def.specs.declared.world.World.{World}
use Rattle.world_def.specs.Columns.{Tables}
use Rattle.world_def.specs.Meaning.{IsPossible, Meets, score}
use Rattle.world_def.specs.Meaning as meaning
use Rattle.world_points.specs.Points.{cost, root}

-- what the program comes to at a point: the least value is wanted
abbrev pub value_at : Program → List ℤ → ℤ
value_at program point = program.constant +ℤ sum_at point program.aim

-- the value at every whole point is at most 10^17 in size
abbrev pub HasSmallValues : Program → Type 0
HasSmallValues program = (point : List ℤ) → IsWholePoint program point → unsigned_abs (value_at program point) ≤ 10 ^ 17

-- the first columns are the world's, with the sides of the choices
pub record BeginsWithChoices (columns : List WorldColumn) (program : Program) (stands : List Stand) : Type 0 where
  pub count : world_count stands ≡ length columns
  pub sides : take (length columns) (sides_of program.columns) ≡ root columns

module _ (query : Query) (tables : Tables) (columns : List WorldColumn) (program : Program) (g : Graph) (stands : List Stand) where
  -- the point of a world
  abbrev pub point_in : World → List ℤ
  point_in world = point_of g stands (meaning.numbers columns world)

  -- the point of a possible world that meets is a whole point, whose value is the world's score, as it is minimized
  pub record IsPointed (world : World) : Type 0 where
    pub whole : IsWholePoint program (point_in world)
    pub value : value_at program (point_in world) ≡ cost query.aim (score query tables world)

  -- a world that is possible and meets, whose numbers stand first in the point, and whose score, as it is minimized, is the point's value
  pub record IsWorldOf (point : List ℤ) (world : World) : Type 0 where
    pub possible : IsPossible query tables world
    pub numbers : meaning.numbers columns world ≡ take (length columns) point
    pub meets : Meets query tables world
    pub value : value_at program point ≡ cost query.aim (score query tables world)

  -- the whole points are the worlds that meet
  pub record Encodes : Type 0 where
    pub ahead : (world : World) → IsPossible query tables world → Meets query tables world → IsPointed world
    pub back : (point : List ℤ) → IsWholePoint program point → (world : World) × IsWorldOf point world
