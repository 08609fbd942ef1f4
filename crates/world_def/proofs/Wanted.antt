-- the views on which a view rests: it is among them, and so is whatever one of them reads
use Rattle.std.proofs.Common.{◌≡◌, ◌<◌, ◌≤◌, ◌==◌, ◌⊎◌, ℕ, zero, suc, Bool, true, false, List, [], ◌∷◌, ◌++◌, refl, sym, ◌∙◌, subst, inl, inr, ⊎_elim, arith, if◌then◌else◌, Option, Some, None, unwrap_or}
use Rattle.std.specs.Prelude.{All, slice_get, flat_map, option_map}
use Rattle.std.proofs.lemmas.Bool.{cases_eq, false≢true, or_left, or_right, or_cases}
use Rattle.std.proofs.lemmas.Bool.Decides.{nat_tests}
use Rattle.std.proofs.lemmas.List.Elements.{All-head, All-tail}
use Rattle.std.proofs.lemmas.List.Folds.{list_any-append}
use Rattle.tiql_query.specs.declared.relation.Source.{Source}
use Rattle.tiql_query.specs.declared.relation.Source.TheVariants as sources
use Rattle.tiql_query.specs.declared.relation.Column.{Column}
use Rattle.tiql_query.specs.declared.view.Select.{Select}
use Rattle.tiql_query.specs.declared.view.QView.{QView}
use Rattle.tiql_query.specs.declared.query.Query.{Query}
use Rattle.tiql_query.specs.WellFormed.{IsEarlier, IsSelectFit, IsWellFormed}
use Rattle.world_def.specs.Views.{views_among, reads, reads_at, is_among, wanted_from, wanted}

-- ---- numbers among others

pub among_either : (one other : List ℕ) (n : ℕ) → is_among (one ++ other) n ≡ true → (is_among one n ≡ true) ⊎ (is_among other n ≡ true)
among_either one other n e = or_cases (is_among one n) (is_among other n) (sym (list_any-append (λ (k : ℕ). k == n) one other) ∙ e)

pub among_left : (one other : List ℕ) (n : ℕ) → is_among one n ≡ true → is_among (one ++ other) n ≡ true
among_left one other n e = list_any-append (λ (k : ℕ). k == n) one other ∙ or_left (is_among one n) (is_among other n) e

pub among_right : (one other : List ℕ) (n : ℕ) → is_among other n ≡ true → is_among (one ++ other) n ≡ true
among_right one other n e = list_any-append (λ (k : ℕ). k == n) one other ∙ or_right (is_among one n) (is_among other n) e

same_number : (m n : ℕ) → (m == n) ≡ true → m ≡ n
same_number m n e = grind (arith, nat_tests)

is_itself : (n : ℕ) → (n == n) ≡ true
is_itself n = grind (arith, nat_tests)

above : (k n : ℕ) → n ≤ k → (k ≡ n → ⊥) → suc n ≤ k
above k n le other = grind arith

-- the first of some is among them
pub among_first : (n : ℕ) (others : List ℕ) → is_among (n ∷ others) n ≡ true
among_first n others = or_left (n == n) (is_among others n) (is_itself n)

-- ---- a view reads only views before it

-- each view reads only views before it
abbrev pub AreEarlier : List QView → Type 0
AreEarlier views = (k j : ℕ) → is_among (reads_at views k) j ≡ true → j < k

module _ (query : Query) (before : ℕ) where
  sources_earlier : (found : List Source) → All (IsEarlier query before) found → (j : ℕ) → is_among (views_among found) j ≡ true → j < before
  unfolding views_among
  sources_earlier [] fit j e = absurd (false≢true e)
  sources_earlier (sources.Table n ∷ others) fit j e = sources_earlier others (All-tail (IsEarlier query before) (sources.Table n) others fit) j e
  sources_earlier (sources.Hypo n ∷ others) fit j e = sources_earlier others (All-tail (IsEarlier query before) (sources.Hypo n) others fit) j e
  sources_earlier (sources.View n ∷ others) fit j e =
      ⊎_elim
      (λ same. subst (λ (m : ℕ). m < before) (same_number n j same) (All-head (IsEarlier query before) (sources.View n) others fit))
      (λ later. sources_earlier others (All-tail (IsEarlier query before) (sources.View n) others fit) j later)
      (or_cases (n == j) (is_among (views_among others) j) e)

  arms_earlier : (columns : List Column) (arms : List Select) → All (IsSelectFit query before columns) arms
      → (j : ℕ) → is_among (flat_map (λ select. views_among select.sources) arms) j ≡ true → j < before
  arms_earlier columns [] fit j e = absurd (false≢true e)
  arms_earlier columns (arm ∷ arms) fit j e =
      ⊎_elim
      (λ here. sources_earlier arm.sources (All-head (IsSelectFit query before columns) arm arms fit).sources j here)
      (λ later. arms_earlier columns arms (All-tail (IsSelectFit query before columns) arm arms fit) j later)
      (among_either (views_among arm.sources) (flat_map (λ select. views_among select.sources) arms) j e)

-- so it is in a query that is well formed
pub views_earlier : (query : Query) → IsWellFormed query → AreEarlier query.views
unfolding reads_at
views_earlier query fit k j e = by_view (slice_get query.views k) refl e
  where
    by_view : (found : Option QView) → slice_get query.views k ≡ found → is_among (unwrap_or (option_map reads found) []) j ≡ true → j < k
    by_view None is e = absurd (false≢true e)
    by_view (Some view) is e = arms_earlier query k view.columns view.arms (fit.views k view is).arms j e

-- ---- what is wanted

module _ (views : List QView) where
  -- what is wanted stays so
  wanted_kept : (n : ℕ) (these : List ℕ) (k : ℕ) → is_among these k ≡ true → is_among (wanted_from views n these) k ≡ true
  unfolding wanted_from
  wanted_kept zero these k e = e
  wanted_kept (suc n) these k e = wanted_kept n (if is_among these n then these ++ reads_at views n else these) k (by_test (is_among these n))
    where
      by_test : (b : Bool) → is_among (if b then these ++ reads_at views n else these) k ≡ true
      by_test true = among_left these (reads_at views n) k e
      by_test false = e

  -- a view is among those on which it rests
  pub wanted_self : (n : ℕ) → is_among (wanted views n) n ≡ true
  wanted_self n = wanted_kept (suc n) (n ∷ []) n (among_first n [])

  -- of those from a number on, what they read is among these
  abbrev IsClosedFrom : ℕ → List ℕ → Type 0
  IsClosedFrom n these = (k j : ℕ) → n ≤ k → is_among these k ≡ true → is_among (reads_at views k) j ≡ true → is_among these j ≡ true

  closed_next : (n : ℕ) (these : List ℕ) → AreEarlier views → IsClosedFrom (suc n) these
      → (b : Bool) → is_among these n ≡ b → IsClosedFrom n (if b then these ++ reads_at views n else these)
  closed_next n these earlier closed true t k j le among read =
      ⊎_elim
      (λ old. elim (cases_eq k n) as (λ _. is_among (these ++ reads_at views n) j ≡ true) [
        | inl same ↦ among_right these (reads_at views n) j (subst (λ (m : ℕ). is_among (reads_at views m) j ≡ true) same read)
        | inr other ↦ among_left these (reads_at views n) j (closed k j (above k n le other) old read)
      ])
      (λ new. let less = earlier n k new in absurd (omega (arith, le, less)))
      (among_either these (reads_at views n) k among)
  closed_next n these earlier closed false t k j le among read =
      ⊎_elim
      (λ same. absurd (false≢true (sym t ∙ subst (λ (m : ℕ). is_among these m ≡ true) same among)))
      (λ other. closed k j (above k n le other) among read)
      (cases_eq k n)

  wanted_closed : (n : ℕ) (these : List ℕ) → AreEarlier views → IsClosedFrom n these → IsClosedFrom 0 (wanted_from views n these)
  unfolding wanted_from
  wanted_closed zero these earlier closed = closed
  wanted_closed (suc n) these earlier closed =
      wanted_closed n (if is_among these n then these ++ reads_at views n else these) earlier (closed_next n these earlier closed (is_among these n) refl)

  only_itself : (n : ℕ) → IsClosedFrom (suc n) (n ∷ [])
  only_itself n k j le among read =
      ⊎_elim (λ same. let is = same_number n k same in absurd (omega (arith, le, is))) (λ none. absurd (false≢true none)) (or_cases (n == k) false among)

  -- and so is what one of them reads
  pub wanted_reads : (n k j : ℕ) → AreEarlier views → is_among (wanted views n) k ≡ true → is_among (reads_at views k) j ≡ true → is_among (wanted views n) j ≡ true
  wanted_reads n k j earlier among read = wanted_closed (suc n) (n ∷ []) earlier (only_itself n) k j (omega arith) among read
