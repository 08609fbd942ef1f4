-- where a world is judged without a fault, what is told of it is what it means
use Rattle.std.proofs.Common.{◌≡◌, ℕ, ℤ, pos, ◌+◌, Bool, true, false, ◌&&◌, ◌||◌, IsTrue, List, [], ◌∷◌, map, refl, sym, ◌∙◌, ap, ap₂, subst, Option, Some, None, if◌then◌else◌}
use Rattle.std.specs.Prelude.{Result, Ok, Err, is_none, IfOk, ◌↔◌}
use Rattle.std.specs.List.{list_all, list_any}
use Rattle.base_kit.specs.Asking.{and_then, all_of}
use Rattle.tiql_query.specs.declared.expression.Expr.{Expr}
use Rattle.tiql_query.specs.declared.condition.Cond.{Cond}
use Rattle.tiql_query.specs.declared.relation.Source.{Source}
use Rattle.tiql_query.specs.WellFormed.{IsWellFormed}
use Rattle.tiql_query.specs.declared.query.Query.{Query}
use Rattle.tiql_query.specs.declared.aim.Require.{Require}
use Rattle.tiql_query.specs.declared.aim.Require.TheVariants as needs
use Rattle.tiql_query.specs.declared.aim.Aim.{Aim}
use Rattle.tiql_query.specs.declared.aim.Aim.TheVariants as aims
use Rattle.row_values.specs.declared.fault.Wide.{Wide}
use Rattle.world_def.specs.declared.fault.EvalFault.{EvalFault}
use Rattle.world_def.specs.declared.fault.EvalFault.TheVariants as fault
use Rattle.world_def.specs.declared.world.World.{World}
use Rattle.world_def.specs.declared.judge.Broken.{Broken}
use Rattle.row_values.specs.Values.{number, total, value, truth}
use Rattle.row_values.specs.Asked.{asked, truth_asked, within}
use Rattle.world_def.specs.Columns.{Rows, Tables}
use Rattle.world_def.specs.Relations.{rows_in}
use Rattle.world_def.specs.Views.{Gives, rows_asked}
use Rattle.world_def.specs.Judging.{named, first_broken, one_meets, none_of, source_of, broken_row, as_broken, broken_at, or_else, broken_from, sum_over, score_asked, judged}
use Rattle.world_def.specs.Worlds.{are_none}
use Rattle.world_def.specs.Meaning as meaning
use Rattle.world_def.specs.Meaning.{is_met, meets, score_by, score, score_met}
use Rattle.world_def.proofs.Relations.{rows_told}
use Rattle.row_values.proofs.Agreed.{and_then-Ok, same_answer, within-Ok, agreed, truth_agreed}

first_told : (test : Cond) (n : ℕ) (rows : Rows) (r : Option ℕ) → first_broken test n rows ≡ Ok r → list_all (λ row. truth (row ∷ []) test) rows ≡ is_none r
unfolding first_broken
first_told test n [] r e = ap is_none (same_answer None r e)
first_told test n (row ∷ rows) r e =
    let both = and_then-Ok (truth_asked (row ∷ []) test) (λ holds. if holds then first_broken test (n + 1) rows else Ok (Some n)) r e in
    by_test (first_told test (n + 1) rows r) both.0 (truth_agreed (row ∷ []) test both.0 both.1) both.2
  where
    by_test : (first_broken test (n + 1) rows ≡ Ok r → list_all (λ row. truth (row ∷ []) test) rows ≡ is_none r) → (b : Bool) → truth (row ∷ []) test ≡ b
        → (if b then first_broken test (n + 1) rows else Ok (Some n)) ≡ Ok r → (truth (row ∷ []) test && list_all (λ row. truth (row ∷ []) test) rows) ≡ is_none r
    by_test more true t h = rw t (more h)
    by_test more false t h = rw t (ap is_none (same_answer (Some n) r h))

one_told : (test : Cond) (rows : Rows) (b : Bool) → one_meets test rows ≡ Ok b → list_any (λ row. truth (row ∷ []) test) rows ≡ b
unfolding one_meets
one_told test [] b e = same_answer false b e
one_told test (row ∷ rows) b e =
    let both = and_then-Ok (truth_asked (row ∷ []) test) (λ holds. if holds then Ok true else one_meets test rows) b e in
    by_test (one_told test rows b) both.0 (truth_agreed (row ∷ []) test both.0 both.1) both.2
  where
    by_test : (one_meets test rows ≡ Ok b → list_any (λ row. truth (row ∷ []) test) rows ≡ b) → (here : Bool) → truth (row ∷ []) test ≡ here
        → (if here then Ok true else one_meets test rows) ≡ Ok b → (truth (row ∷ []) test || list_any (λ row. truth (row ∷ []) test) rows) ≡ b
    by_test more true t h = rw t (same_answer true b h)
    by_test more false t h = rw t (more h)

none_told : (rows : Rows) → are_none rows ≡ is_none (none_of rows)
none_told [] = refl
none_told (row ∷ rows) = refl

some_told : (met : Bool) → met ≡ is_none {T = ℕ} (if met then None else Some 0)
some_told true = refl
some_told false = refl

row_told : (need : Require) (rows : Rows) (r : Option ℕ) → broken_row need rows ≡ Ok r → is_met need rows ≡ is_none r
unfolding broken_row
row_told (needs.All source test) rows r e = first_told test 1 rows r e
row_told (needs.Some source test) rows r e =
    let both = and_then-Ok (one_meets test rows) (λ met. Ok (if met then None else Some 0)) r e in
    one_told test rows both.0 both.1 ∙ some_told both.0 ∙ ap (is_none {T = ℕ}) (same_answer (if both.0 then None else Some 0) r both.2)
row_told (needs.None source) rows r e = none_told rows ∙ ap is_none (same_answer (none_of rows) r e)

unnamed : {A : Type 0} (source : Source) (asked : Result A Wide) (a : A) → named source asked ≡ Ok a → asked ≡ Ok a
unnamed source (Ok b) a e = ap (λ c. Ok c) (same_answer b a e)
unnamed {A} source (Err w) a e = absurd (let k : ◌≡◌ {A = Result A EvalFault} (Err (fault.Wide source w.number)) (Ok a) = e in cc)

same_none : (n : ℕ) (r : Option ℕ) → is_none r ≡ is_none (as_broken n r)
same_none n None = refl
same_none n (Some row) = refl

module _ (query : Query) (tables : Tables) (world : World) (fit : IsWellFormed query) where
  at_told : (n : ℕ) (need : Require) (found : Option Broken) → broken_at query tables world n need ≡ Ok found → is_met need (rows_in query tables world (source_of need)) ≡ is_none found
  unfolding broken_at
  at_told n need found e =
      let rows = and_then-Ok (rows_asked query tables world (source_of need)) (λ rows. and_then (named (source_of need) (broken_row need rows)) (λ found. Ok (as_broken n found))) found e in
      let both = and_then-Ok (named (source_of need) (broken_row need rows.0)) (λ found. Ok (as_broken n found)) found rows.2 in
      ap (is_met need) (sym (rows_told query tables world (source_of need) rows.0 fit rows.1))
      ∙ row_told need rows.0 both.0 (unnamed (source_of need) (broken_row need rows.0) both.0 both.1)
      ∙ same_none n both.0 ∙ ap is_none (same_answer (as_broken n both.0) found both.2)

  -- a world meets what is required exactly where no broken requirement is told
  pub meets_told : (n : ℕ) (requires_ : List Require) (found : Option Broken) → broken_from query tables world n requires_ ≡ Ok found
      → list_all (λ need. is_met need (rows_in query tables world (source_of need))) requires_ ≡ is_none found
  unfolding broken_from
  meets_told n [] found e = ap is_none (same_answer None found e)
  meets_told n (need ∷ others) found e =
      let both = and_then-Ok (broken_at query tables world n need) (λ found. or_else found (broken_from query tables world (n + 1) others)) found e in
      by_test (meets_told (n + 1) others found) both.0 (at_told n need both.0 both.1) both.2
    where
      by_test : (broken_from query tables world (n + 1) others ≡ Ok found → list_all (λ need. is_met need (rows_in query tables world (source_of need))) others ≡ is_none found)
          → (here : Option Broken) → is_met need (rows_in query tables world (source_of need)) ≡ is_none here → or_else here (broken_from query tables world (n + 1) others) ≡ Ok found
          → (is_met need (rows_in query tables world (source_of need)) && list_all (λ need. is_met need (rows_in query tables world (source_of need))) others) ≡ is_none found
      by_test more None t h = rw t (more h)
      by_test more (Some broken) t h = rw t (ap is_none (same_answer (Some broken) found h))

all_told : (part : Expr) (rows : Rows) (ns : List ℤ) → all_of (map (λ row. asked (row ∷ []) part) rows) ≡ Ok ns → map (λ row. number (value (row ∷ []) part)) rows ≡ ns
all_told part [] ns e = same_answer [] ns e
all_told part (row ∷ rows) ns e =
    let one = and_then-Ok (asked (row ∷ []) part) (λ n. and_then (all_of (map (λ row. asked (row ∷ []) part) rows)) (λ ns. Ok (n ∷ ns))) ns e in
    let two = and_then-Ok (all_of (map (λ row. asked (row ∷ []) part) rows)) (λ ns. Ok (one.0 ∷ ns)) ns one.2 in
    ap₂ (λ (n : ℤ) (l : List ℤ). n ∷ l) (agreed (row ∷ []) part one.0 one.1) (all_told part rows two.0 two.1) ∙ same_answer (one.0 ∷ two.0) ns two.2

module _ (query : Query) (tables : Tables) (world : World) (fit : IsWellFormed query) where
  -- a score that is told is the world's
  score_by_told : (aim : Aim) (n : ℤ) → score_asked query tables world aim ≡ Ok n → score_by aim (rows_in query tables world) ≡ n
  unfolding score_asked sum_over
  score_by_told aims.Find n e = same_answer (pos 0) n e
  score_by_told (aims.Sum maximize source part) n e =
      let asked_so = and_then-Ok (rows_asked query tables world source) (λ rows. named source (and_then (all_of (map (λ row. asked (row ∷ []) part) rows)) (λ ns. within (total ns)))) n e in
      let both = and_then-Ok (all_of (map (λ row. asked (row ∷ []) part) asked_so.0)) (λ ns. within (total ns)) n (unnamed source (and_then (all_of (map (λ row. asked (row ∷ []) part) asked_so.0)) (λ ns. within (total ns))) n asked_so.2) in
      ap (λ rows. total (map (λ row. number (value (row ∷ []) part)) rows)) (sym (rows_told query tables world source asked_so.0 fit asked_so.1))
      ∙ ap total (all_told part asked_so.0 both.0 both.1) ∙ within-Ok (total both.0) n both.2

  pub score_told : (n : ℤ) → score_asked query tables world query.aim ≡ Ok n → score query tables world ≡ n
  unfolding score
  score_told n e = score_by_told query.aim n e

  pub told_exactly : (result : Result (Option Broken) EvalFault) → Gives (broken_from query tables world 1 query.requires_) result → IfOk result (λ found. IsTrue (is_none found) ↔ IsTrue (meets query tables world))
  told_exactly (Ok found) e =
      let same = meets_told query tables world fit 1 query.requires_ found e in
      (λ h. subst (λ (b : Bool). IsTrue b) (sym same) h, λ h. subst (λ (b : Bool). IsTrue b) same h)
  told_exactly (Err w) e = tt

  pub scored : (result : Result ℤ EvalFault) → Gives (score_asked query tables world query.aim) result → IfOk result (λ n. n ≡ score query tables world)
  scored (Ok n) e = sym (score_told n e)
  scored (Err w) e = tt

  -- the score of a world that meets, as it is told
  pub judged_told : (result : Result (Option ℤ) EvalFault) → Gives (judged query tables world) result → IfOk result (λ score. score ≡ score_met query tables world)
  unfolding judged score_met
  judged_told (Err w) e = tt
  judged_told (Ok score) e =
      let broken = and_then-Ok (broken_from query tables world 1 query.requires_) (λ broken. if is_none broken then and_then (score_asked query tables world query.aim) (λ n. Ok (Some n)) else Ok None) score e in
      by_met (is_none broken.0) (meets_told query tables world fit 1 query.requires_ broken.0 broken.1) broken.2
    where
      by_met : (b : Bool) → meets query tables world ≡ b → (if b then and_then (score_asked query tables world query.aim) (λ n. Ok (Some n)) else Ok None) ≡ Ok score
          → score ≡ (if meets query tables world then Some (meaning.score query tables world) else None)
      by_met true is h =
          let n = and_then-Ok (score_asked query tables world query.aim) (λ n. Ok (Some n)) score h in
          sym (same_answer (Some n.0) score n.2) ∙ ap (λ n. Some n) (sym (score_told n.0 n.1)) ∙ sym (ap (λ b. if b then Some (meaning.score query tables world) else None) is)
      by_met false is h = sym (same_answer None score h) ∙ sym (ap (λ b. if b then Some (meaning.score query tables world) else None) is)
