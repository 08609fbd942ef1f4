-- views are made in declared order, each over those made before it
use Rattle.std.proofs.Common.{◌≡◌, ◌≢◌, ◌∙◌, sym, ap, refl, subst, ℕ, zero, suc, ◌+◌, ◌<◌, ◌≤◌, ◌⊎◌, inl, inr, Bool, true, false, ◌==◌, List, [], ◌∷◌, ◌++◌, length, map, get_or, set, drop, arith, if◌then◌else◌}
use Rattle.std.specs.Prelude.{option_map, unwrap_or, slice_get, Option, Some, None, Result, Ok, Err}
use Rattle.std.proofs.lemmas.Bool.{eqb-true, eqb-false, false≢true, cases_lt}
use Rattle.std.proofs.lemmas.List.{length-set, drop_more, drop_all}
use Rattle.std.proofs.lemmas.Option.{slice_get-map, slice_get_past, slice_get_within, none-some, same_Some}
use Rattle.base_kit.specs.Asking.{and_then}
use Rattle.tiql_query.specs.declared.relation.Source.{Source}
use Rattle.tiql_query.specs.declared.relation.Source.TheVariants as sources
use Rattle.tiql_query.specs.declared.view.QView.{QView}
use Rattle.tiql_query.specs.declared.query.Query.{Query}
use Rattle.tiql_query.specs.WellFormed.{IsWellFormed}
use Rattle.row_values.proofs.Agreed.{and_then-Ok}
use Rattle.view_select.specs.Asking.{over}
use Rattle.world_def.specs.declared.fault.EvalFault.{EvalFault}
use Rattle.world_def.specs.declared.fault.EvalFault.TheVariants as fault
use Rattle.world_def.specs.declared.world.World.{World}
use Rattle.world_def.specs.Columns.{Rows, Tables, rows_of}
use Rattle.world_def.specs.Views.{view_asked, rows_made, outcome_at, is_among, reads_at, wanted, views_asked, rows_asked}
use Rattle.world_def.specs.Made.{none_of, rows_made_of, AreMade}
use Rattle.world_def.specs.Making.{rows_there, is_missing, Puts}
use Rattle.world_def.proofs.Marking.{reads_there, reads_past}
use Rattle.world_def.proofs.Wanted.{views_earlier, wanted_self, wanted_reads}
use Rattle.world_def.proofs.Resting.{Has, wanted_rests, wanted_alone}
use Rattle.world_def.proofs.Outcomes.{rows_before, outcome_is, outcome_none, before_is}
use Rattle.world_def.proofs.Relations.{asked_same}

module _ {A : Type 0} where
  get_set_same : (xs : List A) (i : ℕ) (x : A) → i < length xs → slice_get (set xs i x) i ≡ Some x
  get_set_same [] i x lt = absurd (omega arith)
  get_set_same (y ∷ xs) zero x lt = refl
  get_set_same (y ∷ xs) (suc i) x lt = get_set_same xs i x (omega arith)

  get_set_other : (xs : List A) (i k : ℕ) (x : A) → (k ≡ i → ⊥) → slice_get (set xs i x) k ≡ slice_get xs k
  get_set_other [] i k x ne = refl
  get_set_other (y ∷ xs) zero zero x ne = absurd (ne refl)
  get_set_other (y ∷ xs) zero (suc k) x ne = refl
  get_set_other (y ∷ xs) (suc i) zero x ne = refl
  get_set_other (y ∷ xs) (suc i) (suc k) x ne = get_set_other xs i k x (λ e. ne (ap (λ n. suc n) e))

-- ---- items one after the other, up to the first fault

module _ {X S : Type 0} (f : X → S → Result S EvalFault) (xs : List X) (i : ℕ) (s : S) (r : Result S EvalFault) where
  pub over_step : (x : X) (next : S) → i < length xs → x ≡ get_or xs i x → f x s ≡ Ok next → over f (drop i xs) s ≡ r → over f (drop (i + 1) xs) next ≡ r
  unfolding over
  over_step x next lt is e h = sym (rw (drop_more xs i x lt, ← is, e)) ∙ h

  pub over_err : (x : X) (e : EvalFault) → i < length xs → x ≡ get_or xs i x → (e ≢ fault.Memory → f x s ≡ Err e) → over f (drop i xs) s ≡ r → e ≢ fault.Memory → r ≡ Err e
  unfolding over
  over_err x e lt is gives h ne = sym h ∙ rw (drop_more xs i x lt, ← is, gives ne)

  pub over_end : length xs ≤ i → over f (drop i xs) s ≡ r → r ≡ Ok s
  unfolding over
  over_end le h = sym h ∙ rw (drop_all i xs le)

-- ---- none is made

pub none_push : (n : ℕ) → none_of n ++ None ∷ [] ≡ none_of (n + 1)
unfolding none_of
none_push zero = refl
none_push (suc n) = ap (λ l. None ∷ l) (none_push n) ∙ ap none_of (let k : suc (n + 1) ≡ suc n + 1 = omega arith in k)

none_long : (n : ℕ) → length (none_of n) ≡ n
unfolding none_of
none_long zero = refl
none_long (suc n) = ap (λ m. suc m) (none_long n)

none_there : (n k : ℕ) (rows : Rows) → slice_get (none_of n) k ≡ Some (Some rows) → ⊥
unfolding none_of
none_there zero k rows e = none-some (Some rows) e
none_there (suc n) zero rows e = none-some rows (same_Some None (Some rows) e)
none_there (suc n) (suc k) rows e = none_there n k rows e

-- the view with this number is made
abbrev pub IsThere : List (Option Rows) → ℕ → Type 0
IsThere made n = (rows : Rows) × (slice_get made n ≡ Some (Some rows))

pub not_missing : (made : List (Option Rows)) (n : ℕ) → n < length made → is_missing made n ≡ false → IsThere made n
not_missing [] n lt e = absurd (omega arith)
not_missing (None ∷ made) zero lt e = absurd (false≢true (sym e))
not_missing (Some rows ∷ made) zero lt e = (rows, refl)
not_missing (one ∷ made) (suc n) lt e = not_missing made n (omega arith) e

pub missing_within : (made : List (Option Rows)) (n : ℕ) → is_missing made n ≡ true → n < length made
missing_within [] n e = absurd (false≢true e)
missing_within (one ∷ made) zero e = omega arith
missing_within (one ∷ made) (suc n) e = let k = missing_within made n e in omega (arith, k)

pub rows_at_view : (tables : Tables) (world : World) (made : List (Option Rows)) (n : ℕ) (rows : Rows) → slice_get made n ≡ Some (Some rows) → rows_made_of tables world made (sources.View n) ≡ rows
unfolding rows_made_of
rows_at_view tables world made n rows e = ap (λ found. unwrap_or (unwrap_or found None) []) e

rows_past : (tables : Tables) (world : World) (made : List (Option Rows)) (n : ℕ) → slice_get made n ≡ None → rows_made_of tables world made (sources.View n) ≡ []
unfolding rows_made_of
rows_past tables world made n e = ap (λ found. unwrap_or (unwrap_or found None) []) e

-- tables and hypothetical tables rest on no view
pub table_asked : (query : Query) (tables : Tables) (world : World) (views : List (Option Rows)) (source : Source) (n : ℕ) → source ≡ sources.Table n → rows_asked query tables world source ≡ Ok (rows_made_of tables world views source)
unfolding rows_asked rows_made_of
table_asked query tables world views source n is = rw is

pub hypo_asked : (query : Query) (tables : Tables) (world : World) (views : List (Option Rows)) (source : Source) (n : ℕ) → source ≡ sources.Hypo n → rows_asked query tables world source ≡ Ok (rows_made_of tables world views source)
unfolding rows_asked rows_made_of
hypo_asked query tables world views source n is = rw is

module _ (query : Query) (tables : Tables) (world : World) where
  -- the view with this number comes to rows
  abbrev IsRight : ℕ → Type 0
  IsRight k = (rows : Rows) × (outcome_at query tables world k ≡ Ok rows)

  -- ---- the views that are asked

  abbrev asked_from : List ℕ → ℕ → ℕ → Result Unit EvalFault
  asked_from these more at = views_asked query tables world these more at

  abbrev asked_if : Bool → Result Rows EvalFault → Result Unit EvalFault → Result Unit EvalFault
  asked_if b outcome rest = if b then and_then outcome (λ rows. rest) else rest

  -- a view that comes to rows, or is not wanted, is passed over
  asked_past : (outcome : Result Rows EvalFault) (rest answer : Result Unit EvalFault) (b : Bool) → (b ≡ true → (rows : Rows) × (outcome ≡ Ok rows)) → rest ≡ answer → asked_if b outcome rest ≡ answer
  asked_past outcome rest answer true right h = ap (λ o. and_then o (λ rows. rest)) (right refl).1 ∙ h
  asked_past outcome rest answer false right h = h

  asked_all : (these : List ℕ) (more at : ℕ) → ((k : ℕ) → at ≤ k → k < at + more → Has these k → IsRight k) → asked_from these more at ≡ Ok tt
  unfolding views_asked
  asked_all these zero at right = refl
  asked_all these (suc more) at right =
      asked_past (outcome_at query tables world at) (asked_from these more (at + 1)) (Ok tt) (is_among these at) (right at (omega arith) (omega arith))
      (asked_all these more (at + 1) (λ k le lt has. right k (omega arith) (omega arith) has))

  asked_err : (these : List ℕ) (more at i : ℕ) (e : EvalFault) → at ≤ i → i < at + more → Has these i → ((k : ℕ) → at ≤ k → k < i → Has these k → IsRight k)
      → outcome_at query tables world i ≡ Err e → asked_from these more at ≡ Err e
  unfolding views_asked
  asked_err these zero at i e le lt has right err = absurd (omega arith)
  asked_err these (suc more) at i e le lt has right err =
      here_or (λ less. asked_err these more (at + 1) i e (omega arith) (omega arith) has (λ k le lt h. right k (omega arith) lt h) err) (cases_lt at i)
    where
      here_or : (at < i → asked_from these more (at + 1) ≡ Err e) → (at < i) ⊎ (i ≤ at) → asked_if (is_among these at) (outcome_at query tables world at) (asked_from these more (at + 1)) ≡ Err e
      here_or more_of (inl less) =
          asked_past (outcome_at query tables world at) (asked_from these more (at + 1)) (Err e) (is_among these at) (right at (omega arith) less) (more_of less)
      here_or more_of (inr above) =
          let same : i ≡ at = omega arith in
          ap (λ b. asked_if b (outcome_at query tables world at) (asked_from these more (at + 1))) (subst (λ (j : ℕ). Has these j) same has)
          ∙ ap (λ o. and_then o (λ rows. asked_from these more (at + 1))) (ap (outcome_at query tables world) (sym same) ∙ err)

  rows_ok : (n : ℕ) (rows : Rows) → ((k : ℕ) → k ≤ n → Has (wanted query.views n) k → IsRight k) → outcome_at query tables world n ≡ Ok rows → rows_asked query tables world (sources.View n) ≡ Ok rows
  unfolding rows_asked
  rows_ok n rows right here =
      ap (λ r. and_then r (λ done. outcome_at query tables world n)) (asked_all (wanted query.views n) (suc n) 0 (λ k le lt has. right k (omega arith) has)) ∙ here

  rows_err : (n i : ℕ) (e : EvalFault) → i ≤ n → Has (wanted query.views n) i → ((k : ℕ) → k < i → Has (wanted query.views n) k → IsRight k) → outcome_at query tables world i ≡ Err e
      → rows_asked query tables world (sources.View n) ≡ Err e
  unfolding rows_asked
  rows_err n i e le has right err =
      ap (λ r. and_then r (λ done. outcome_at query tables world n)) (asked_err (wanted query.views n) (suc n) 0 i e (omega arith) (omega arith) has (λ k le lt h. right k lt h) err)

  -- ---- what is made

  abbrev Made : List (Option Rows) → Type 0
  Made made = AreMade query tables world made

  made_right : (made : List (Option Rows)) → Made made → (k : ℕ) (rows : Rows) → slice_get made k ≡ Some (Some rows) → outcome_at query tables world k ≡ Ok rows
  unfolding rows_asked
  made_right made are k rows e =
      let both = and_then-Ok (views_asked query tables world (wanted query.views k) (suc k) 0) (λ done. outcome_at query tables world k) rows (are.right k rows e) in both.2

  pub none_made : (made : List (Option Rows)) → made ≡ none_of (length query.views) → Made made
  none_made made e = subst (λ (l : List (Option Rows)). Made l) (sym e)
      (record { long = none_long (length query.views); right = λ n rows there. absurd (none_there (length query.views) n rows there) })

  -- the wanted views before this one are made
  pub record Upto (these : List ℕ) (i : ℕ) (views : List (Option Rows)) : Type 0 where
    pub made : AreMade query tables world views
    pub there : (k : ℕ) → k < i → Has these k → IsThere views k

  pub upto_first : (these : List ℕ) (views : List (Option Rows)) → Made views → Upto these 0 views
  upto_first these views are = record { made = are; there = λ k lt has. absurd (omega arith) }

  pub upto_more : (these : List ℕ) (i : ℕ) (views : List (Option Rows)) → Upto these i views → (Has these i → IsThere views i) → Upto these (i + 1) views
  upto_more these i views upto here = record { made = upto.made; there = λ k lt has. by_place k has (cases_lt k i) lt }
    where
      by_place : (k : ℕ) → Has these k → (k < i) ⊎ (i ≤ k) → k < i + 1 → IsThere views k
      by_place k has (inl less) lt = upto.there k less has
      by_place k has (inr above) lt = let same : i ≡ k = omega arith in subst (λ (j : ℕ). IsThere views j) same (here (subst (λ (j : ℕ). Has these j) (sym same) has))

  module _ (fit : IsWellFormed query) where
    -- what is not missing is made, or not there
    pub not_missing_rows : (views : List (Option Rows)) (n : ℕ) → Made views → is_missing views n ≡ false → rows_asked query tables world (sources.View n) ≡ Ok (rows_made_of tables world views (sources.View n))
    not_missing_rows views n are e = by_place (cases_lt n (length views))
      where
        by_place : (n < length views) ⊎ (length views ≤ n) → rows_asked query tables world (sources.View n) ≡ Ok (rows_made_of tables world views (sources.View n))
        by_place (inl less) =
            let it : IsThere views n = not_missing views n less e in
            are.right n it.0 it.1 ∙ ap (λ rows. Ok rows) (sym (rows_at_view tables world views n it.0 it.1))
        by_place (inr past) =
            let none : outcome_at query tables world n ≡ Ok [] = outcome_none query tables world n (slice_get_past query.views n (let long = are.long in omega (arith, long))) in
            let nothing : reads_at query.views n ≡ [] = reads_past query.views n (let long = are.long in omega (arith, long)) in
            rows_ok n [] (λ k le has. subst (λ (j : ℕ). IsRight j) (wanted_alone query.views n k nothing has) ([], none)) none
            ∙ ap (λ rows. Ok rows) (sym (rows_past tables world views n (slice_get_past views n past)))

    module _ (n : ℕ) where
      abbrev these : List ℕ
      these = wanted query.views n

      pub made_last : (views : List (Option Rows)) (i : ℕ) → n < i → Upto these i views → rows_asked query tables world (sources.View n) ≡ Ok (rows_made_of tables world views (sources.View n))
      made_last views i lt upto =
          let it : IsThere views n = upto.there n lt (wanted_self query.views n) in
          upto.made.right n it.0 it.1 ∙ ap (λ rows. Ok rows) (sym (rows_at_view tables world views n it.0 it.1))

      module _ (i : ℕ) (le : i ≤ n) (views : List (Option Rows)) (upto : Upto these i views) (has : Has these i) (view : QView) (place : slice_get query.views i ≡ Some view) where
        right_before : (k : ℕ) → k < i → Has these k → IsRight k
        right_before k lt h = let it : IsThere views k = upto.there k lt h in (it.0, made_right views upto.made k it.0 it.1)

        outcome_now : outcome_at query tables world i ≡ view_asked query tables world (map rows_there views) i view
        unfolding rows_of
        outcome_now = outcome_is query tables world i view place ∙ asked_same tables world (rows_before query tables world i) (map rows_there views) query i view (λ m read.
            let reads_it : Has (reads_at query.views i) m = ap (λ l. is_among l m) (reads_there query.views i view place) ∙ read in
            let less : m < i = views_earlier query fit i m reads_it in
            let it : IsThere views m = upto.there m less (wanted_reads query.views n i m (views_earlier query fit) has reads_it) in
            before_is query tables world i m less ∙ ap rows_made (made_right views upto.made m it.0 it.1)
            ∙ sym (ap (λ found. unwrap_or found []) (slice_get-map rows_there views m ∙ ap (option_map rows_there) it.1)))

        pub put_told : (after : List (Option Rows)) (e : EvalFault) → Puts query tables world i view views after (Err e) → e ≢ fault.Memory → rows_asked query tables world (sources.View n) ≡ Err e
        put_told after e put ne = rows_err n i e le has right_before (outcome_now ∙ put ne)

        module _ (rows : Rows) (asked : view_asked query tables world (map rows_there views) i view ≡ Ok rows) where
          here_right : outcome_at query tables world i ≡ Ok rows
          here_right = outcome_now ∙ asked

          here_asked : rows_asked query tables world (sources.View i) ≡ Ok rows
          here_asked = rows_ok i rows (λ k le_i wants. by_place k (wanted_rests query.views n i k (views_earlier query fit) has wants) le_i (cases_lt k i)) here_right
            where
              by_place : (k : ℕ) → Has these k → k ≤ i → (k < i) ⊎ (i ≤ k) → IsRight k
              by_place k h le_i (inl less) = right_before k less h
              by_place k h le_i (inr above) = let same : i ≡ k = omega arith in subst (λ (j : ℕ). IsRight j) same (rows, here_right)

          put_made : Made (set views i (Some rows))
          put_made = record {
            long = length-set views i (Some rows) ∙ upto.made.long;
            right = λ k other there. by_test k other there (k == i) refl;
          }
            where
              by_test : (k : ℕ) (other : Rows) → slice_get (set views i (Some rows)) k ≡ Some (Some other) → (b : Bool) → (k == i) ≡ b → rows_asked query tables world (sources.View k) ≡ Ok other
              by_test k other there true e =
                  let same : k ≡ i = eqb-true k i e in
                  let within : i < length views = let long = upto.made.long in let place_in = slice_get_within query.views i view place in omega (arith, long, place_in) in
                  let equal : rows ≡ other = same_Some rows other (same_Some (Some rows) (Some other) (sym (get_set_same views i (Some rows) within) ∙ subst (λ (j : ℕ). slice_get (set views i (Some rows)) j ≡ Some (Some other)) same there)) in
                  subst (λ (j : ℕ). rows_asked query tables world (sources.View j) ≡ Ok other) (sym same) (here_asked ∙ ap (λ r. Ok r) equal)
              by_test k other there false e = upto.made.right k other (sym (get_set_other views i k (Some rows) (eqb-false k i e)) ∙ there)

          pub put_upto : Upto these (i + 1) (set views i (Some rows))
          put_upto = record { made = put_made; there = λ k lt h. by_place k h lt (cases_lt k i) }
            where
              by_place : (k : ℕ) → Has these k → k < i + 1 → (k < i) ⊎ (i ≤ k) → IsThere (set views i (Some rows)) k
              by_place k h lt (inl less) =
                  let it : IsThere views k = upto.there k less h in
                  (it.0, get_set_other views i k (Some rows) (λ e. let same = e in omega (arith, same)) ∙ it.1)
              by_place k h lt (inr above) =
                  let same : i ≡ k = omega arith in
                  let within : i < length views = let long = upto.made.long in let place_in = slice_get_within query.views i view place in omega (arith, long, place_in) in
                  subst (λ (j : ℕ). IsThere (set views i (Some rows)) j) same (rows, get_set_same views i (Some rows) within)

        pub put_done : (after : List (Option Rows)) → Puts query tables world i view views after (Ok tt) → Upto these (i + 1) after
        put_done after put = subst (λ (l : List (Option Rows)). Upto these (i + 1) l) (sym put.2) (put_upto put.0 put.1)
