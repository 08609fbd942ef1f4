-- the views in turn
use Rattle.std.proofs.Common.{◌≡◌, ◌≢◌, ℕ, ◌+◌, ◌<◌, ◌≤◌, List, [], ◌++◌, length, get_or, drop, refl, sym, ◌∙◌, ap, append_assoc, append-nil}
use Rattle.std.specs.Prelude.{Result, Ok, Err}
use Rattle.std.proofs.lemmas.List.{drop_more, drop_all}
use Rattle.base_kit.specs.Asking.{and_then}
use Rattle.tiql_query.specs.declared.view.QView.{QView}
use Rattle.tiql_query.specs.declared.query.Query.{Query}
use Rattle.world_def.specs.declared.fault.EvalFault.{EvalFault}
use Rattle.world_def.specs.declared.fault.EvalFault.TheVariants as fault
use Rattle.world_def.specs.declared.world.World.{World}
use Rattle.world_def.specs.Columns.{Tables}
use Rattle.world_eval.specs.Evaluating.{view_told, views_told}

module _ (query : Query) (tables : Tables) (world : World) (views : List QView) where
  -- behind this text the views from the one with this number on
  unfoldable pub views_left : ℕ → List ℕ → Result (List ℕ) EvalFault
  views_left i text = and_then (views_told query tables world i (drop i views)) (λ more. Ok (text ++ more))

  nothing_before : (asked : Result (List ℕ) EvalFault) → and_then asked (λ more. Ok ([] ++ more)) ≡ asked
  nothing_before (Ok more) = refl
  nothing_before (Err e) = refl

  pub left_init : (text : List ℕ) → text ≡ [] → views_left 0 text ≡ views_told query tables world 0 views
  unfolding views_left
  left_init text none = ap (λ (front : List ℕ). and_then (views_told query tables world 0 views) (λ more. Ok (front ++ more))) none ∙ nothing_before (views_told query tables world 0 views)

  joined : (before text : List ℕ) (asked : Result (List ℕ) EvalFault)
      → and_then (and_then asked (λ more. Ok (text ++ more))) (λ more. Ok (before ++ more)) ≡ and_then asked (λ more. Ok ((before ++ text) ++ more))
  joined before text (Ok more) = ap (λ (all : List ℕ). Ok all) (sym (append_assoc before text more))
  joined before text (Err e) = refl

  module _ (i : ℕ) (view : QView) (lt : i < length views) (is : view ≡ get_or views i view) (before : List ℕ) (r : Result (List ℕ) EvalFault) (h : views_left i before ≡ r) where
    pub left_step : (text after : List ℕ) → view_told query tables world i view ≡ Ok text → after ≡ before ++ text → views_left (i + 1) after ≡ r
    unfolding views_left views_told
    left_step text after e whole =
        ap (λ (front : List ℕ). and_then (views_told query tables world (i + 1) (drop (i + 1) views)) (λ more. Ok (front ++ more))) whole
        ∙ sym (joined before text (views_told query tables world (i + 1) (drop (i + 1) views)))
        ∙ sym (rw (drop_more views i view lt, ← is, e)) ∙ h

    pub left_err : (w : EvalFault) → (w ≢ fault.Memory → view_told query tables world i view ≡ Err w) → w ≢ fault.Memory → r ≡ Err w
    unfolding views_left views_told
    left_err w e ne = let told = e ne in sym h ∙ rw (drop_more views i view lt, ← is, told) refl

  pub left_end : (i : ℕ) (text : List ℕ) (r : Result (List ℕ) EvalFault) → length views ≤ i → views_left i text ≡ r → r ≡ Ok text
  unfolding views_left views_told
  left_end i text r le h = sym h ∙ rw (drop_all i views le) (ap (λ (all : List ℕ). Ok all) (append-nil text))
