-- A least whole point is that of a best world, and where there is no whole point no world meets.
use Rattle.std.proofs.Common.{◌≡◌, ℕ, ℤ, pos, neg_ℤ, ◌≤ℤ◌, ◌<ℤ◌, ◌≤◌, unsigned_abs, Bool, true, false, List, length, map, take, refl, sym, ◌∙◌, ap, subst, arith}
use Rattle.std.proofs.lemmas.Int.{ints}
use Rattle.std.proofs.lemmas.List.{length-map, length-take}
use Rattle.ip_rows.specs.declared.program.Program.{Program}
use Rattle.ip_rows.specs.Programs.{IsMeasured, IsWellFormed, sides_of}
use Rattle.tiql_query.specs.declared.aim.Aim.{Aim}
use Rattle.tiql_query.specs.declared.aim.Aim.TheVariants as aims
use Rattle.tiql_query.specs.declared.query.Query.{Query}
use Rattle.tiql_query.specs.declared.world_column.WorldColumn.{WorldColumn}
use Rattle.world_def.specs.declared.world.World.{World}
use Rattle.world_def.specs.Columns.{Tables}
use Rattle.world_def.specs.Meaning.{Better, IsBest, IsPossible, Meets, NoneMeets, better_by, score}
use Rattle.world_points.specs.Points.{cost, root, side}
use Rattle.prov_fold.specs.Graphs.{Graph}
use Rattle.bool_encode.specs.declared.stand.Stand.{Stand}
use Rattle.whole_points.specs.Points.{IsWholePoint}
use Rattle.program_leaves.specs.Closing.{HasNoPoint, IsLeastPoint, value_of}
use Rattle.agg_encode.specs.Encoding.{BeginsWithChoices, Encodes, value_at}

-- a score of a cost is the score again
pub cost_twice : (aim : Aim) (n : ℤ) → cost aim (cost aim n) ≡ n
unfolding cost
cost_twice aims.Find n = refl
cost_twice (aims.Sum true source part) n = omega (arith, ints)
cost_twice (aims.Sum false source part) n = refl

-- and as large
pub cost_size : (aim : Aim) (n : ℤ) → unsigned_abs (cost aim n) ≡ unsigned_abs n
unfolding cost
cost_size aims.Find n = refl
cost_size (aims.Sum true source part) n = omega (arith, ints)
cost_size (aims.Sum false source part) n = refl

-- of two scores the one that costs no more is not worse
not_better : (aim : Aim) (one other : ℤ) → cost aim one ≤ℤ cost aim other → Better aim other one → ⊥
unfolding cost
not_better aims.Find one other least better = better
not_better (aims.Sum true source part) one other least better = omega (arith, ints, least, better)
not_better (aims.Sum false source part) one other least better = omega (arith, ints, least, better)

-- the program has a column for each choice
pub choices_within : (columns : List WorldColumn) (program : Program) (stands : List Stand) → BeginsWithChoices columns program stands → length columns ≤ length (sides_of program.columns)
choices_within columns program stands begins =
    let taken = length-take (length columns) (sides_of program.columns) in
    let same = ap length begins.sides in
    let long = length-map columns side in
    omega (arith, taken, same, long)

module _ (query : Query) (tables : Tables) (columns : List WorldColumn) (program : Program) (g : Graph) (stands : List Stand) (encodes : Encodes query tables columns program g stands) where
  -- without a whole point no possible world meets
  pub none_meets : HasNoPoint program → NoneMeets query tables
  none_meets none world possible meets = none _ (encodes.ahead world possible meets).whole

  -- the world of a least point is a best one
  pub best_world : (point : List ℤ) (world : World) → IsLeastPoint program point → IsPossible query tables world → Meets query tables world → value_at program point ≡ cost query.aim (score query tables world) → IsBest query tables world
  best_world point world least possible meets value = record {
    possible = possible;
    meets = meets;
    none_better = λ other can does better.
        let pointed = encodes.ahead other can does in
        let below = least.least _ pointed.whole in
        not_better query.aim (score query tables world) (score query tables other)
        (subst (λ (n : ℤ). n ≤ℤ cost query.aim (score query tables other)) value (subst (λ (n : ℤ). value_at program point ≤ℤ n) pointed.value below)) better;
  }
