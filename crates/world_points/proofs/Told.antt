-- what is asked of worlds and points is their cost, where there is no fault
use Rattle.std.proofs.Common.{◌≡◌, ℤ, Bool, true, false, List, sym, ◌∙◌, ap, Option, None, if◌then◌else◌}
use Rattle.std.specs.Prelude.{Ok, option_map}
use Rattle.tiql_query.specs.WellFormed.{IsWellFormed}
use Rattle.tiql_query.specs.declared.query.Query.{Query}
use Rattle.tiql_query.specs.declared.world_column.WorldColumn.{WorldColumn}
use Rattle.world_def.specs.declared.world.World.{World}
use Rattle.world_def.specs.Columns.{Tables}
use Rattle.world_def.specs.Judging as judging
use Rattle.row_values.proofs.Agreed.{and_then-Ok, same_answer}
use Rattle.world_def.proofs.Told as told
use Rattle.world_points.specs.Points.{cost, world_cost, judged, is_of_world, cost_at, judged_at, world_at}

module _ (query : Query) (tables : Tables) where
  pub judged_cost : (world : World) → IsWellFormed query → (v : Option ℤ) → judged query tables world ≡ Ok v → world_cost query tables world ≡ v
  unfolding judged
  judged_cost world fit v e =
      let score = and_then-Ok (judging.judged query tables world) (λ score. Ok (option_map (cost query.aim) score)) v e in
      ap (option_map (cost query.aim)) (sym (told.judged_told query tables world fit (Ok score.0) score.1)) ∙ same_answer (option_map (cost query.aim) score.0) v score.2

  -- the cost of a point, as it is asked
  pub agree : (columns : List WorldColumn) → IsWellFormed query → (point : List ℤ) (v : Option ℤ) → judged_at query tables columns point ≡ Ok v → cost_at query tables columns point ≡ v
  unfolding judged_at cost_at
  agree columns fit point v = by_test (is_of_world query tables columns point)
    where
      by_test : (b : Bool) → (if b then judged query tables (world_at query tables columns point) else Ok None) ≡ Ok v → (if b then world_cost query tables (world_at query tables columns point) else None) ≡ v
      by_test true e = judged_cost (world_at query tables columns point) fit v e
      by_test false e = same_answer None v e
