-- what asking for the rows of a relation gives is its plain meaning, and they are few
use Rattle.std.proofs.Common.{◌≡◌, ◌<◌, ◌≤◌, ◌+◌, ℕ, zero, suc, Bool, true, false, List, [], ◌∷◌, ◌++◌, length, map, take, refl, sym, ◌∙◌, ap, ap₂, subst, ⊎_elim, arith, append_assoc, append-nil, if◌then◌else◌, Option, Some, None, unwrap_or}
use Rattle.std.specs.Prelude.{Result, Ok, Err, All, nat_lt, slice_get, flat_map, option_map}
use Rattle.std.proofs.lemmas.Bool.{cases_eq, false≢true}
use Rattle.std.proofs.lemmas.Bool.Decides.{nat_tests}
use Rattle.std.proofs.lemmas.List.Elements.{All-map}
use Rattle.std.proofs.lemmas.Option.{get_or_from_slice_get, slice_get_within}
use Rattle.base_kit.specs.Asking.{and_then}
use Rattle.base_kit.proofs.Results.{same_Ok, Ok-Err}
use Rattle.tiql_query.specs.declared.relation.Source.{Source}
use Rattle.tiql_query.specs.declared.relation.Source.TheVariants as sources
use Rattle.tiql_query.specs.declared.view.Select.{Select}
use Rattle.tiql_query.specs.declared.view.QView.{QView}
use Rattle.tiql_query.specs.declared.query.Query.{Query}
use Rattle.tiql_query.specs.WellFormed.{IsWellFormed, scope_of}
use Rattle.row_values.proofs.Agreed.{and_then-Ok}
use Rattle.view_select.specs.declared.fault.ViewFault.{ViewFault}
use Rattle.view_select.specs.declared.fault.ViewFault.TheVariants as made
use Rattle.view_select.specs.Asking.{over, select_asked}
use Rattle.view_select.specs.Selects.{select_rows}
use Rattle.view_select.proofs.Meaning.{select_means}
use Rattle.world_def.specs.declared.fault.EvalFault.TheVariants as fault
use Rattle.world_def.specs.declared.world.World.{World}
use Rattle.world_def.specs.Columns.{Rows, Tables, rows_of}
use Rattle.world_def.specs.Judging.{IsSmallWorld}
use Rattle.world_def.specs.Relations.{rows_over, rows_of_view, rows_in}
use Rattle.world_def.specs.Views.{at_view, select_more, view_asked, rows_made, outcome_at, views_among, reads, reads_at, is_among, wanted, views_asked, rows_asked}
use Rattle.world_def.proofs.Wanted.{among_left, among_right, among_first, views_earlier, wanted_self, wanted_reads}
use Rattle.world_def.proofs.Outcomes.{rows_before, outcome_is, outcome_none, before_is, meant, meant_is, meant_none, meant_before}

at_view-Ok : {A : Type 0} (n : ℕ) (outcome : Result A ViewFault) (a : A) → at_view n outcome ≡ Ok a → outcome ≡ Ok a
at_view-Ok n (Ok b) a e = ap (λ c. Ok c) (same_Ok b a e)
at_view-Ok n (Err (made.Wide number)) a e = absurd (Ok-Err a (fault.Wide (sources.View n) number) (sym e))
at_view-Ok n (Err (made.TooManyRows limit)) a e = absurd (Ok-Err a (fault.TooManyRows n limit) (sym e))
at_view-Ok n (Err made.Memory) a e = absurd (Ok-Err a fault.Memory (sym e))

-- ---- a view that is asked without a fault

module _ (query : Query) (tables : Tables) (world : World) (views : List Rows) (n : ℕ) where
  -- the rows of one select more
  abbrev rows_here : Select → Rows
  rows_here select = select_rows select (map (rows_over tables world views) select.sources)

  select_told : (select : Select) (so_far more : Rows) → select_more query tables world views n select so_far ≡ Ok more → (more ≡ so_far ++ rows_here select) × (length more ≤ 200000)
  unfolding select_more
  select_told select so_far more e =
      let parts = and_then-Ok (at_view n (select_asked (scope_of query select) select (map (rows_over tables world views) select.sources)))
      (λ rows. if nat_lt 200000 (length (so_far ++ rows)) then Err (fault.TooManyRows n 200000) else Ok (so_far ++ rows)) more e in
      let asked = at_view-Ok n (select_asked (scope_of query select) select (map (rows_over tables world views) select.sources)) parts.0 parts.1 in
      by_test parts.0 (select_means (scope_of query select) select (map (rows_over tables world views) select.sources) parts.0 asked)
      (nat_lt 200000 (length (so_far ++ parts.0))) refl parts.2
    where
      by_test : (rows : Rows) → rows ≡ rows_here select → (b : Bool) → nat_lt 200000 (length (so_far ++ rows)) ≡ b
          → (if b then Err (fault.TooManyRows n 200000) else Ok (so_far ++ rows)) ≡ Ok more → (more ≡ so_far ++ rows_here select) × (length more ≤ 200000)
      by_test rows is true t e = absurd (Ok-Err more (fault.TooManyRows n 200000) (sym e))
      by_test rows is false t e =
          let same = same_Ok (so_far ++ rows) more e in
          let few : length (so_far ++ rows) ≤ 200000 = grind (arith, nat_tests) in
          (sym same ∙ ap (λ (found : Rows). so_far ++ found) is, subst (λ (found : Rows). length found ≤ 200000) same few)

  arms_told : (arms : List Select) (so_far rows : Rows) → over (select_more query tables world views n) arms so_far ≡ Ok rows → rows ≡ so_far ++ flat_map rows_here arms
  unfolding over
  arms_told [] so_far rows e = sym (same_Ok so_far rows e) ∙ sym (append-nil so_far)
  arms_told (arm ∷ arms) so_far rows e =
      let parts = and_then-Ok (select_more query tables world views n arm so_far) (λ more. over (select_more query tables world views n) arms more) rows e in
      arms_told arms parts.0 rows parts.2
      ∙ ap (λ (front : Rows). front ++ flat_map rows_here arms) (select_told arm so_far parts.0 parts.1).0
      ∙ append_assoc so_far (rows_here arm) (flat_map rows_here arms)

  arms_few : (arms : List Select) (so_far rows : Rows) → length so_far ≤ 200000 → over (select_more query tables world views n) arms so_far ≡ Ok rows → length rows ≤ 200000
  unfolding over
  arms_few [] so_far rows few e = subst (λ (found : Rows). length found ≤ 200000) (same_Ok so_far rows e) few
  arms_few (arm ∷ arms) so_far rows few e =
      let parts = and_then-Ok (select_more query tables world views n arm so_far) (λ more. over (select_more query tables world views n) arms more) rows e in
      arms_few arms parts.0 rows (select_told arm so_far parts.0 parts.1).1 parts.2

  -- it has the rows that it means over the same views
  pub view_told : (view : QView) (rows : Rows) → view_asked query tables world views n view ≡ Ok rows → rows ≡ rows_of_view tables world views view
  unfolding view_asked rows_of_view
  view_told view rows e = arms_told view.arms [] rows e

  -- and they are few
  pub view_few : (view : QView) (rows : Rows) → view_asked query tables world views n view ≡ Ok rows → length rows ≤ 200000
  unfolding view_asked
  view_few view rows e = arms_few view.arms [] rows (omega arith) e

-- ---- what a view means rests on the views that it reads

module _ (tables : Tables) (world : World) (one other : List Rows) where
  -- the rows of these views are the same
  abbrev pub Agree : List ℕ → Type 0
  Agree views = (j : ℕ) → is_among views j ≡ true → rows_of one j ≡ rows_of other j

  sources_same : (found : List Source) → Agree (views_among found) → map (rows_over tables world one) found ≡ map (rows_over tables world other) found
  unfolding views_among rows_over
  sources_same [] agree = refl
  sources_same (sources.Table n ∷ others) agree = ap (λ (more : List Rows). rows_of tables n ∷ more) (sources_same others agree)
  sources_same (sources.Hypo n ∷ others) agree = ap (λ (more : List Rows). rows_of (map (λ table. table.rows) world.tables) n ∷ more) (sources_same others agree)
  sources_same (sources.View n ∷ others) agree =
      ap₂ (λ (here : Rows) (more : List Rows). here ∷ more) (agree n (among_first n (views_among others)))
      (sources_same others (λ j among. agree j (among_right (n ∷ []) (views_among others) j among)))

  arms_same : (arms : List Select) → Agree (flat_map (λ select. views_among select.sources) arms)
      → flat_map (λ select. select_rows select (map (rows_over tables world one) select.sources)) arms ≡ flat_map (λ select. select_rows select (map (rows_over tables world other) select.sources)) arms
  arms_same [] agree = refl
  arms_same (arm ∷ arms) agree =
      ap₂ (λ (here : Rows) (more : Rows). here ++ more)
      (ap (select_rows arm) (sources_same arm.sources (λ j among. agree j (among_left (views_among arm.sources) (flat_map (λ select. views_among select.sources) arms) j among))))
      (arms_same arms (λ j among. agree j (among_right (views_among arm.sources) (flat_map (λ select. views_among select.sources) arms) j among)))

  -- so a view means the same
  pub view_same : (view : QView) → Agree (reads view) → rows_of_view tables world one view ≡ rows_of_view tables world other view
  unfolding rows_of_view
  view_same view agree = arms_same view.arms agree

  selects_same : (query : Query) (n : ℕ) (arms : List Select) (so_far : Rows) → Agree (flat_map (λ select. views_among select.sources) arms)
      → over (select_more query tables world one n) arms so_far ≡ over (select_more query tables world other n) arms so_far
  unfolding over select_more
  selects_same query n [] so_far agree = refl
  selects_same query n (arm ∷ arms) so_far agree =
      ap₂ and_then
      (ap (λ (found : List Rows). and_then (at_view n (select_asked (scope_of query arm) arm found)) (λ rows. if nat_lt 200000 (length (so_far ++ rows)) then Err (fault.TooManyRows n 200000) else Ok (so_far ++ rows)))
      (sources_same arm.sources (λ j among. agree j (among_left (views_among arm.sources) (flat_map (λ select. views_among select.sources) arms) j among))))
      (λ i more. selects_same query n arms more (λ j among. agree j (among_right (views_among arm.sources) (flat_map (λ select. views_among select.sources) arms) j among)) i)

  -- and it comes to the same
  pub asked_same : (query : Query) (n : ℕ) (view : QView) → Agree (reads view) → view_asked query tables world one n view ≡ view_asked query tables world other n view
  unfolding view_asked
  asked_same query n view agree = selects_same query n view.arms [] agree

-- ---- the views on which a relation rests

module _ (query : Query) (tables : Tables) (world : World) where
  -- each of so many views that is wanted, from a number on, came to rows
  abbrev pub HaveCome : List ℕ → ℕ → ℕ → Type 0
  HaveCome these more at = (k : ℕ) → at ≤ k → k < at + more → is_among these k ≡ true → (rows : Rows) × (outcome_at query tables world k ≡ Ok rows)

  come_before : (these : List ℕ) (more at : ℕ) → HaveCome these more (at + 1) → ((k : ℕ) → k ≡ at → is_among these k ≡ true → (rows : Rows) × (outcome_at query tables world k ≡ Ok rows)) → HaveCome these (suc more) at
  come_before these more at later here k from below among = ⊎_elim (λ same. here k same among) (λ other. later k (grind (arith, from, other)) (omega (arith, below)) among) (cases_eq k at)

  -- those that were asked without a fault have come
  pub views_asked-Ok : (these : List ℕ) (more at : ℕ) → views_asked query tables world these more at ≡ Ok tt → HaveCome these more at
  unfolding views_asked
  views_asked-Ok these zero at e = λ k from below among. absurd (omega (arith, from, below))
  views_asked-Ok these (suc more) at e = by_test (views_asked-Ok these more (at + 1)) (is_among these at) refl e
    where
      by_test : (views_asked query tables world these more (at + 1) ≡ Ok tt → HaveCome these more (at + 1)) → (b : Bool) → is_among these at ≡ b
          → (if b then and_then (outcome_at query tables world at) (λ rows. views_asked query tables world these more (at + 1)) else views_asked query tables world these more (at + 1)) ≡ Ok tt
          → HaveCome these (suc more) at
      by_test rest true t e =
          let parts = and_then-Ok (outcome_at query tables world at) (λ rows. views_asked query tables world these more (at + 1)) tt e in
          come_before these more at (rest parts.2) (λ k same among. (parts.0, ap (outcome_at query tables world) same ∙ parts.1))
      by_test rest false t e = come_before these more at (rest e) (λ k same among. absurd (false≢true (sym t ∙ subst (λ (m : ℕ). is_among these m ≡ true) same among)))

  module _ (fit : IsWellFormed query) (last : ℕ) (asked : views_asked query tables world (wanted query.views last) (suc last) 0 ≡ Ok tt) where
    -- up to a number, what a wanted view came to is what it means
    abbrev AreTold : ℕ → Type 0
    AreTold n = (k : ℕ) → k < n → k ≤ last → is_among (wanted query.views last) k ≡ true → (rows : Rows) → outcome_at query tables world k ≡ Ok rows → rows ≡ rows_of (meant query tables world) k

    agreed_before : (k : ℕ) → AreTold k → k ≤ last → is_among (wanted query.views last) k ≡ true
        → Agree tables world (rows_before query tables world k) (take k (meant query tables world)) (reads_at query.views k)
    agreed_before k told le among j read =
        let less = views_earlier query fit k j read in
        let wants = wanted_reads query.views last k j (views_earlier query fit) among read in
        let came = views_asked-Ok (wanted query.views last) (suc last) 0 asked j (omega arith) (omega (arith, less, le)) wants in
        before_is query tables world k j less ∙ ap rows_made came.1 ∙ told j less (omega (arith, less, le)) wants came.0 came.1 ∙ sym (meant_before query tables world k j less)

    told_at : (k : ℕ) → AreTold k → k ≤ last → is_among (wanted query.views last) k ≡ true → (rows : Rows) → outcome_at query tables world k ≡ Ok rows → rows ≡ rows_of (meant query tables world) k
    unfolding reads_at
    told_at k told le among rows e = by_view (slice_get query.views k) refl
      where
        by_view : (found : Option QView) → slice_get query.views k ≡ found → rows ≡ rows_of (meant query tables world) k
        by_view None is = sym (same_Ok [] rows (sym (outcome_none query tables world k is) ∙ e)) ∙ sym (meant_none query tables world k is)
        by_view (Some view) is =
            view_told query tables world (rows_before query tables world k) k view rows (sym (outcome_is query tables world k view is) ∙ e)
            ∙ view_same tables world (rows_before query tables world k) (take k (meant query tables world)) view
            (subst (λ found. Agree tables world (rows_before query tables world k) (take k (meant query tables world)) (unwrap_or (option_map reads found) [])) is (agreed_before k told le among))
            ∙ sym (meant_is query tables world k view is)

    told_upto : (n : ℕ) → AreTold n
    told_upto zero k lt le among rows e = absurd (omega (arith, lt))
    told_upto (suc n) k lt le among rows e = told_at k (λ j less. told_upto n j (omega (arith, lt, less))) le among rows e

-- what asking for the rows of a relation gives is its plain meaning
pub rows_told : (query : Query) (tables : Tables) (world : World) (source : Source) (rows : Rows) → IsWellFormed query → rows_asked query tables world source ≡ Ok rows → rows ≡ rows_in query tables world source
unfolding rows_asked rows_in rows_over
rows_told query tables world (sources.Table n) rows fit e = sym (same_Ok (rows_of tables n) rows e)
rows_told query tables world (sources.Hypo n) rows fit e = sym (same_Ok (rows_of (map (λ table. table.rows) world.tables) n) rows e)
rows_told query tables world (sources.View n) rows fit e =
    let parts = and_then-Ok (views_asked query tables world (wanted query.views n) (suc n) 0) (λ done. outcome_at query tables world n) rows e in
    told_upto query tables world fit n parts.1 (suc n) n (omega arith) (omega arith) (wanted_self query.views n) rows parts.2

few_of : (tables : Tables) (n : ℕ) → All (λ rows. length rows ≤ 200000) tables → length (rows_of tables n) ≤ 200000
unfolding rows_of
few_of tables n few = by_rows (slice_get tables n) refl
  where
    by_rows : (found : Option Rows) → slice_get tables n ≡ found → length (unwrap_or found []) ≤ 200000
    by_rows None is = omega arith
    by_rows (Some rows) is = subst (λ (found : Rows). length found ≤ 200000) (get_or_from_slice_get tables n rows rows is) (few n rows (slice_get_within tables n rows is))

-- and they are few
pub rows_few : (query : Query) (tables : Tables) (world : World) (source : Source) (rows : Rows) → IsSmallWorld tables world → rows_asked query tables world source ≡ Ok rows → length rows ≤ 200000
unfolding rows_asked
rows_few query tables world (sources.Table n) rows small e = subst (λ (found : Rows). length found ≤ 200000) (same_Ok (rows_of tables n) rows e) (few_of tables n small.tables_rows)
rows_few query tables world (sources.Hypo n) rows small e =
    subst (λ (found : Rows). length found ≤ 200000) (same_Ok (rows_of (map (λ table. table.rows) world.tables) n) rows e)
    (few_of (map (λ table. table.rows) world.tables) n (All-map (λ rows. length rows ≤ 200000) (λ table. table.rows) world.tables small.world_rows))
rows_few query tables world (sources.View n) rows small e =
    let parts = and_then-Ok (views_asked query tables world (wanted query.views n) (suc n) 0) (λ done. outcome_at query tables world n) rows e in
    by_view (slice_get query.views n) refl parts.2
  where
    by_view : (found : Option QView) → slice_get query.views n ≡ found → outcome_at query tables world n ≡ Ok rows → length rows ≤ 200000
    by_view None is e = subst (λ (found : Rows). length found ≤ 200000) (same_Ok [] rows (sym (outcome_none query tables world n is) ∙ e)) (omega arith)
    by_view (Some view) is e = view_few query tables world (rows_before query tables world n) n view rows (sym (outcome_is query tables world n view is) ∙ e)
