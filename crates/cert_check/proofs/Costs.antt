-- What a judgement without a fault tells.
use Rattle.std.proofs.Common.{◌≡◌, ℤ, Bool, true, false, refl, sym, ◌∙◌, ap}
use Rattle.std.specs.Prelude.{Option, Some, None, option_map, Result, Ok, Err, if◌then◌else◌}
use Rattle.std.specs.Ordering.{int_eq}
use Rattle.std.proofs.lemmas.Bool.Decides.{Decides-int_eq}
use Rattle.branch_tree.specs.Faults.{IsSound}
use Rattle.base_kit.specs.Asking.{and_then}
use Rattle.tiql_query.specs.WellFormed.{IsWellFormed}
use Rattle.tiql_query.specs.declared.query.Query.{Query}
use Rattle.world_def.specs.declared.fault.EvalFault.{EvalFault}
use Rattle.world_def.specs.declared.world.World.{World}
use Rattle.world_def.specs.Columns.{Tables}
use Rattle.world_def.specs.Judging as judging
use Rattle.world_def.specs.Meaning.{Meets, meets, score, score_met}
use Rattle.row_values.proofs.Agreed.{and_then-Ok, same_answer}
use Rattle.world_def.proofs.Told.{judged_told}
use Rattle.world_points.specs.Points.{judged, cost}
use Rattle.cert_check.specs.declared.fault.CheckFault.{CheckFault}
use Rattle.cert_check.specs.declared.fault.CheckFault.TheVariants as fault
use Rattle.cert_check.specs.declared.fault.Reject.TheVariants as reject
use Rattle.cert_check.specs.Faults.{asking}
use Rattle.cert_check.specs.Reasons.{unless, cost_for, cost_of}
use Rattle.cert_check.proofs.Nodes.{unless_ok}

pub asked_ok : {A B : Type 0} (r : Result A EvalFault) (f : A → Result B CheckFault) (b : B) → and_then (asking r) f ≡ Ok b → (a : A) × (r ≡ Ok a) × (f a ≡ Ok b)
asked_ok (Ok a) f b is = (a, refl, is)
asked_ok (Err cause) f b is = cc

pub ok_asked : {A B : Type 0} (r : Result A EvalFault) (f : A → Result B CheckFault) (a : A) (b : B) → r ≡ Ok a → f a ≡ Ok b → and_then (asking r) f ≡ Ok b
ok_asked r f a b is goes = rw is goes

module _ (query : Query) (tables : Tables) (fit : IsWellFormed query) (objective : ℤ) (world : World) where
  -- what is told of the world of an optimal answer: it meets, its score is the objective, and so that is its cost
  pub record IsCost (best : ℤ) : Type 0 where
    pub meets : Meets query tables world
    pub value : objective ≡ score query tables world
    pub same : best ≡ cost query.aim objective

  -- a world with a score meets
  has_score : (n : ℤ) → Some n ≡ score_met query tables world → Meets query tables world × (n ≡ score query tables world)
  unfolding score_met
  has_score n = by_test (meets query tables world) refl
    where
      by_test : (b : Bool) → meets query tables world ≡ b → Some n ≡ (if b then Some (score query tables world) else None) → Meets query tables world × (n ≡ score query tables world)
      by_test true t e = (t, cc)
      by_test false t e = absurd (let k : ◌≡◌ {A = Option ℤ} (Some n) None = e in cc)

  score_is : Meets query tables world → score_met query tables world ≡ Some (score query tables world)
  unfolding score_met
  score_is m = let met : meets query tables world ≡ true = m in rw met refl

  pub cost_is : (best : ℤ) → cost_of query tables objective world ≡ Ok best → IsCost best
  unfolding cost_of
  cost_is best right =
      let found = asked_ok (judging.judged query tables world) (cost_for query objective) best right in
      by_score found.0 (judged_told query tables world fit (Ok found.0) found.1) found.2
    where
      by_score : (found : Option ℤ) → found ≡ score_met query tables world → cost_for query objective found ≡ Ok best → IsCost best
      by_score None is told = absurd (let k : ◌≡◌ {A = Result ℤ CheckFault} (Err (fault.Rejected reject.WorldBreaks 0 0)) (Ok best) = told in cc)
      by_score (Some n) is told =
          let both = and_then-Ok (unless (int_eq objective n) reject.WrongObjective 0 0) (λ right. Ok (cost query.aim n)) best told in
          let same : objective ≡ n = (Decides-int_eq objective n).0 (unless_ok (int_eq objective n) reject.WrongObjective 0 0 both.1) in
          let met = has_score n is in
          record { meets = met.0; value = same ∙ met.1; same = sym (same_answer (cost query.aim n) best both.2) ∙ ap (cost query.aim) (sym same) }

  pub is_cost : Meets query tables world → objective ≡ score query tables world → IsSound (judged query tables world) → cost_of query tables objective world ≡ Ok (cost query.aim objective)
  unfolding judged cost_of
  is_cost m value = by_outcome (judging.judged query tables world) refl
    where
      right_score : cost_for query objective (Some (score query tables world)) ≡ Ok (cost query.aim objective)
      right_score =
          let right : int_eq objective (score query tables world) ≡ true = (Decides-int_eq objective (score query tables world)).1 value in
          rw right (ap (λ (n : ℤ). Ok (cost query.aim n)) (sym value))

      by_outcome : (r : Result (Option ℤ) EvalFault) → judging.judged query tables world ≡ r → IsSound (and_then r (λ found. Ok (option_map (cost query.aim) found)))
          → and_then (asking (judging.judged query tables world)) (cost_for query objective) ≡ Ok (cost query.aim objective)
      by_outcome (Err cause) is sound = absurd (let k : ◌≡◌ {A = Option EvalFault} (Some cause) None = sound in cc)
      by_outcome (Ok found) is sound =
          let some : found ≡ Some (score query tables world) = judged_told query tables world fit (Ok found) is ∙ score_is m in
          ok_asked (judging.judged query tables world) (cost_for query objective) (Some (score query tables world)) (cost query.aim objective) (is ∙ ap (λ (o : Option ℤ). Ok o) some) right_score
