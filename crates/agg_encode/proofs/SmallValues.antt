-- The value of a query's program at a whole point is at most 10^17 in size.
use Rattle.std.proofs.Common.{◌≡◌, ◌∙◌, sym, ap, subst, refl, ℕ, ◌+◌, ◌<◌, ◌≤◌, ◌^◌, ℤ, pos, neg_ℤ, ◌+ℤ◌, ◌*ℤ◌, ◌≤ℤ◌, unsigned_abs, true, false, List, take, All, Option, Some, None, arith}
use Rattle.std.proofs.lemmas.Int.{ints}
use Rattle.ip_rows.specs.declared.program.Program.{Program}
use Rattle.tiql_query.specs.declared.aim.Aim.{Aim}
use Rattle.tiql_query.specs.declared.aim.Aim.TheVariants as aims
use Rattle.tiql_query.specs.declared.query.Query.{Query}
use Rattle.tiql_query.specs.declared.world_column.WorldColumn.{WorldColumn}
use Rattle.world_points.specs.Points.{cost, root}
use Rattle.prov_fold.specs.Graphs.{Graph, HasNumber, range, size}
use Rattle.prov_fold.specs.Folds.{IsFold}
use Rattle.prov_fold.specs.Meanings.{values_in}
use Rattle.prov_fold.specs.Values.{HasNumbers}
use Rattle.prov_fold.proofs.InsideLemmas.{inside_is}
use Rattle.bool_encode.specs.declared.stand.Stand.{Stand}
use Rattle.bool_encode.specs.Forms.{form_at}
use Rattle.whole_points.specs.Matched.{IsMatched, world_count}
use Rattle.whole_points.specs.Points.{IsWholePoint, IsWorldWithin}
use Rattle.whole_points.proofs.AtWorlds.{has_all}
use Rattle.whole_points.proofs.Rights.{right_at}
use Rattle.whole_points.proofs.Whole.{over_one as point_over, world_over, world_within}
use Rattle.root_encode.specs.Told.{value_of}
use Rattle.used_columns.specs.Laid.{HasChoices}
use Rattle.sym_query.specs.declared.goals.Goals.{Goals}
use Rattle.sym_query.specs.Meant.{AreGoals, IsAim, aim_in}
use Rattle.program_rows.specs.Goals.{aim_form}
use Rattle.program_rows.specs.Programs.{IsProgramOf}
use Rattle.agg_encode.specs.Built.{goal_of}
use Rattle.agg_encode.specs.Encoding.{HasSmallValues, value_at}
use Rattle.agg_encode.proofs.Encoded.{aim_there, worth_is}
use Rattle.agg_encode.proofs.Points.{aim_worth}

cost_size : (aim : Aim) (n : ℤ) → unsigned_abs (cost aim n) ≡ unsigned_abs n
unfolding cost
cost_size aims.Find n = refl
cost_size (aims.Sum true source part) n = omega (arith, ints)
cost_size (aims.Sum false source part) n = refl

module _ (g : Graph) (fold : IsFold g) (world : List ℤ) (has : HasNumbers g world) where
  -- a number of the list is small on a world
  near_number : (id : ℕ) → id < size g → unsigned_abs (values_in g world id) ≤ 10 ^ 17
  near_number id less =
      let inside = inside_is g world fold has id less in
      let fits = fold.fits id less in
      omega (arith, ints, inside.low, inside.high, fits.small_lo, fits.small_hi)

  near_aim : (number : Option ℕ) → IsAim g number → unsigned_abs (aim_in (values_in g world) number) ≤ 10 ^ 17
  near_aim None is = omega arith
  near_aim (Some id) is = near_number id is.below

  -- so is what is minimized
  near_worth : (aim : Aim) (number : Option ℕ) → IsAim g number → unsigned_abs (form_at 1 (λ k. value_of g world k *ℤ pos 1) (aim_form (goal_of aim number))) ≤ 10 ^ 17
  near_worth aims.Find None is = omega arith
  near_worth aims.Find (Some id) is = omega arith
  near_worth (aims.Sum maximize source part) number is =
      let value = aim_in (values_in g world) number in
      let worth = aim_worth g world (aims.Sum maximize source part) number value refl (λ same. cc) in
      let near = near_aim number is in
      let size_is = cost_size (aims.Sum maximize source part) value in
      subst (λ (n : ℤ). unsigned_abs n ≤ 10 ^ 17) (sym worth) (omega (arith, near, size_is))

pub small_values : (query : Query) (columns : List WorldColumn) (g : Graph) → IsFold g → (goals : Goals) (program : Program) (stands : List Stand) → IsProgramOf columns g goals.roots (goal_of query.aim goals.aim) program stands
    → HasChoices g (root columns) → IsMatched program g stands → AreGoals g goals → HasSmallValues program
small_values query columns g fold goals program stands is choices matched good point whole =
    let world = take (world_count stands) point in
    let within = world_within program point whole g stands matched in
    let has = has_all program g stands world fold matched within in
    let worth = worth_is columns g fold goals.roots (goal_of query.aim goals.aim) program stands is choices matched good.roots (aim_there g query.aim goals.aim good.aim) world has point
    (λ z lt on. right_at program g stands world 1 point fold matched (point_over program point whole) within.count (world_over program point whole g stands matched) z lt on) in
    subst (λ (n : ℤ). unsigned_abs n ≤ 10 ^ 17) (sym worth) (near_worth g fold world has query.aim goals.aim good.aim)
