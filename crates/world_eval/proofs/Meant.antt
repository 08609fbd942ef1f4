-- what is told of a world without a fault is what it means
use Rattle.std.proofs.Common.{◌≡◌, ℕ, ℤ, ◌+◌, Bool, false, List, [], ◌∷◌, ◌++◌, sym, ◌∙◌, ap, ap₂, Option}
use Rattle.std.specs.Prelude.{Result, Ok, Err, IfOk, IsTrue, is_none, ◌↔◌}
use Rattle.std.proofs.lemmas.Bool.{false≢true}
use Rattle.base_kit.specs.Asking.{and_then}
use Rattle.base_kit.proofs.Results.{same_Ok}
use Rattle.tiql_query.specs.declared.query.Query.{Query}
use Rattle.tiql_query.specs.declared.relation.Source.TheVariants as sources
use Rattle.tiql_query.specs.declared.view.QView.{QView}
use Rattle.tiql_query.specs.WellFormed.{IsWellFormed}
use Rattle.row_values.proofs.Agreed.{and_then-Ok}
use Rattle.answer_text.specs.declared.answer.WorldText.{WorldText}
use Rattle.world_def.specs.declared.fault.EvalFault.{EvalFault}
use Rattle.world_def.specs.declared.judge.Broken.{Broken}
use Rattle.world_def.specs.declared.world.World.{World}
use Rattle.world_def.specs.Columns.{Tables}
use Rattle.world_def.specs.Judging.{broken_from, score_asked}
use Rattle.world_def.specs.Views.{rows_asked}
use Rattle.world_def.specs.Meaning as meaning
use Rattle.world_def.proofs.Relations.{rows_told}
use Rattle.world_def.proofs.Told.{meets_told, score_told}
use Rattle.world_eval.specs.declared.evaluation.Evaluation.{Evaluation}
use Rattle.world_eval.specs.declared.evaluation.Evaluation.TheVariants as evaluations
use Rattle.world_eval.specs.declared.standing.Standing.{Standing}
use Rattle.world_eval.specs.declared.standing.Standing.TheVariants as standing
use Rattle.world_eval.specs.Standings.{IsStanding}
use Rattle.world_eval.specs.Lines.{possible_line, view_text, meets_line, score_line}
use Rattle.world_eval.specs.Evaluating.{HaveWorld, IsToldOf, MeansEach, Tells, TellsEach, evaluation, is_met, view_told, views_told, views_in, world_told}

module _ (query : Query) (tables : Tables) (world : World) (fit : IsWellFormed query) where
  views_meant : (views : List QView) (n : ℕ) (text : List ℕ) → views_told query tables world n views ≡ Ok text → text ≡ views_in query tables world n views
  unfolding views_told view_told views_in
  views_meant [] n text e = sym (same_Ok [] text e)
  views_meant (view ∷ views) n text e =
      let one = and_then-Ok (and_then (rows_asked query tables world (sources.View n)) (λ rows. Ok (view_text view rows)))
      (λ text. and_then (views_told query tables world (n + 1) views) (λ more. Ok (text ++ more))) text e in
      let two = and_then-Ok (views_told query tables world (n + 1) views) (λ more. Ok (one.0 ++ more)) text one.2 in
      let rows = and_then-Ok (rows_asked query tables world (sources.View n)) (λ rows. Ok (view_text view rows)) one.0 one.1 in
      sym (same_Ok (one.0 ++ two.0) text two.2)
      ∙ ap₂ (λ (front more : List ℕ). front ++ more) (sym (same_Ok (view_text view rows.0) one.0 rows.2) ∙ ap (view_text view) (rows_told query tables world (sources.View n) rows.0 fit rows.1))
      (views_meant views (n + 1) two.0 two.1)

  text_of : (views : List ℕ) (broken : Option Broken) (score : ℤ) (text : List ℕ) (met : Bool) → evaluations.Told (views ++ meets_line broken ++ score_line score) (is_none broken) ≡ evaluations.Told text met
      → (text ≡ views ++ meets_line broken ++ score_line score) × (met ≡ is_none broken)
  text_of views broken score text met e = (cc, cc)

  no_world : (text : List ℕ) (met : Bool) → evaluations.Told text met ≡ evaluations.NoWorld → ⊥
  no_world text met e = cc

  told_of : (views : List ℕ) (broken : Option Broken) (score : ℤ) (told : Evaluation) → evaluations.Told (views ++ meets_line broken ++ score_line score) (is_none broken) ≡ told
      → views ≡ views_in query tables world 0 query.views → meaning.meets query tables world ≡ is_none broken → meaning.score query tables world ≡ score → IsToldOf query tables world told
  told_of views broken score evaluations.NoWorld e in_views meets same = no_world (views ++ meets_line broken ++ score_line score) (is_none broken) e
  told_of views broken score (evaluations.Told text met) e in_views meets same =
      let parts = text_of views broken score text met e in record {
        broken = broken;
        whole = parts.0 ∙ ap₂ (λ (front : List ℕ) (n : ℤ). front ++ meets_line broken ++ score_line n) in_views (sym same);
        meets = sym meets;
        met = parts.1 ∙ sym meets;
      }

  world_meant : (told : Evaluation) → world_told query tables world ≡ Ok told → IsToldOf query tables world told
  unfolding world_told
  world_meant told e =
      let one = and_then-Ok (views_told query tables world 0 query.views) (λ views. and_then (broken_from query tables world 1 query.requires_) (λ broken. and_then (score_asked query tables world query.aim) (λ score.
      Ok (evaluations.Told (views ++ meets_line broken ++ score_line score) (is_none broken))))) told e in
      let two = and_then-Ok (broken_from query tables world 1 query.requires_) (λ broken. and_then (score_asked query tables world query.aim) (λ score.
      Ok (evaluations.Told (one.0 ++ meets_line broken ++ score_line score) (is_none broken)))) told one.2 in
      let three = and_then-Ok (score_asked query tables world query.aim) (λ score. Ok (evaluations.Told (one.0 ++ meets_line two.0 ++ score_line score) (is_none two.0))) told two.2 in
      told_of one.0 two.0 three.0 told (same_Ok (evaluations.Told (one.0 ++ meets_line two.0 ++ score_line three.0) (is_none two.0)) told three.2)
      (views_meant query.views 0 one.0 one.1) (meets_told query tables world fit 1 query.requires_ two.0 two.1) (score_told query tables world fit three.0 three.1)

pub means_each : (query : Query) (tables : Tables) (worlds : List WorldText) (fit : IsWellFormed query) (result : Result Evaluation EvalFault)
    → TellsEach query tables worlds result → IfOk result (MeansEach query tables worlds)
unfolding evaluation
means_each query tables worlds fit (Ok told) each = λ world is possible. world_meant query tables world fit told (each (standing.Possible world) (is, possible))
means_each query tables worlds fit (Err e) each = tt

-- ---- whether status 0 is due

-- the text of a world tells that it is met exactly where it meets
met_of : (query : Query) (tables : Tables) (world : World) (told : Evaluation) → IsToldOf query tables world told → is_met told ≡ meaning.meets query tables world
met_of query tables world evaluations.NoWorld is = absurd is
met_of query tables world (evaluations.Told text met) is = is.met

module _ (query : Query) (tables : Tables) (worlds : List WorldText) (fit : IsWellFormed query) where
  met_world : (told : Evaluation) (stands : Standing) → IsStanding query tables worlds stands → evaluation query tables stands ≡ Ok told → IsTrue (is_met told) → HaveWorld query tables worlds
  unfolding evaluation
  met_world told (standing.NotPossible name) is e met = absurd (false≢true (ap is_met (same_Ok (evaluations.Told (possible_line name) false) told e) ∙ met))
  met_world told (standing.Possible world) is e met = (world, is.0, is.1, sym (met_of query tables world told (world_meant query tables world fit told e)) ∙ met)

  pub met_exactly : (result : Result Evaluation EvalFault) → Tells query tables worlds result → IfOk result (MeansEach query tables worlds)
      → IfOk result (λ told. IsTrue (is_met told) ↔ HaveWorld query tables worlds)
  met_exactly (Ok told) tells means = (
    (λ met. met_world told tells.0 tells.1 tells.2 met),
    (λ has. met_of query tables has.0 told (means has.0 has.1 has.2) ∙ has.3),
  )
  met_exactly (Err e) tells means = tt
