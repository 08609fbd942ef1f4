-- Rows through a sieve, one after another.
use Rattle.std.proofs.Common.{◌≡◌, ◌≢◌, ◌↔◌, inl, inr, ◌+◌, ◌<◌, ◌≤◌, ℕ, ℤ, pos, ◌≤ℤ◌, ◌<ℤ◌, Bool, true, false, Option, None, Some, List, [], ◌∷◌, ◌++◌, length, get_or, map, refl, sym, ap, ◌∙◌, subst, arith}
use Rattle.std.specs.List.{All, Contains}
use Rattle.std.specs.List.Sorted.{IsStrictlyIncreasing}
use Rattle.std.specs.Option.{MatchOption, option_or}
use Rattle.std.proofs.lemmas.Bool.{cases_eq, cases_lt}
use Rattle.std.proofs.lemmas.Int.{ints, by_lt_z}
use Rattle.std.proofs.lemmas.List.{get_or_append_left, get_or_push, length_push, length-map, get_or-map, get_or_default, map_push}
use Rattle.std.proofs.lemmas.List.Elements.{All-push, All-weaker, Contains-push, Contains-push_cases, Contains-append_left}
use Rattle.ip_rows.specs.declared.Bounds.{Bounds}
use Rattle.ip_rows.specs.declared.rows.Coef.{Coef}
use Rattle.ip_rows.specs.declared.rows.IpRow.{IpRow}
use Rattle.ip_rows.specs.Programs.{row_at, IsBetween, Holds, sum_at}
use Rattle.ip_reduce.specs.declared.sieve.Sieve.{Sieve}
use Rattle.ip_reduce.specs.Rows.{least_sum, IsLight}
use Rattle.ip_reduce.specs.Reductions.{row_in, Asks, IsFalse, IsKept}
use Rattle.ip_reduce.specs.Sieves.{IsDropped, Takes, IsSieved}
use Rattle.ip_reduce.proofs.SumLemmas.{light_open}
use Rattle.ip_reduce.proofs.PointLemmas.{least_below, holds_in, holds_out}

-- a greater number behind rising ones
rises_push : (xs : List ℕ) (n : ℕ) → IsStrictlyIncreasing xs → All (λ x. x < n) xs → IsStrictlyIncreasing (xs ++ n ∷ [])
rises_push xs n rising below k lt =
    let size = length_push xs n in
    elim (cases_lt (k + 1) (length xs)) [
      | inl early ↦
          let one = get_or_append_left xs (n ∷ []) 0 k (omega arith) in
          let two = get_or_append_left xs (n ∷ []) 0 (k + 1) early in
          let less = rising k early in
          omega (arith, one, two, less)
      | inr late ↦
          let one = get_or_append_left xs (n ∷ []) 0 k (omega arith) in
          let two = get_or_push xs n 0 (k + 1) (omega arith) in
          let less = below k 0 (omega arith) in
          omega (arith, one, two, less)
    ]

-- no row yet
pub sieve_begins : (sides : List Bounds) (rows kept : List IpRow) (full : List ℕ) (found : Option ℕ) → kept ≡ [] → full ≡ [] → found ≡ None → IsSieved sides rows 0 kept full found
sieve_begins sides rows kept full found no_rows no_numbers none =
    subst (λ (ks : List IpRow). IsSieved sides rows 0 ks full found) (sym no_rows)
    (subst (λ (fs : List ℕ). IsSieved sides rows 0 [] fs found) (sym no_numbers)
    (subst (λ (o : Option ℕ). IsSieved sides rows 0 [] [] o) (sym none) (record {
      full_rises = λ k lt. absurd (omega arith);
      full_below = λ k d lt. absurd (omega arith);
      numbers = λ number lt. absurd (omega arith);
      rows_are = refl;
      covers = λ number lt some asks. absurd (omega arith);
      first_false = λ number lt. absurd (omega arith);
    })))

module _ (sides : List Bounds) (rows kept : List IpRow) (full : List ℕ) (found : Option ℕ) (n : ℕ) (there : n < length rows) (state : IsSieved sides rows n kept full found) where
  abbrev next : IpRow
  next = row_in sides rows n

  -- a kept row that equals this one is an earlier row
  earlier_kept : Contains kept next → (number : ℕ) × (number < n) × (row_in sides rows number ≡ next) × IsKept sides rows number
  earlier_kept h =
      let among : Contains (map (row_in sides rows) full) next = subst (λ (ks : List IpRow). Contains ks next) state.rows_are h in
      let within : among.0 < length full = let size = length-map full (row_in sides rows) in let lt = among.1 in omega arith in
      let number = get_or full among.0 0 in
      let below : number < n = state.full_below among.0 0 within in
      let same : row_in sides rows number ≡ next = sym (get_or-map (row_in sides rows) full among.0 0 next within) ∙ among.2 in
      let inside : Contains full number = (among.0, within, get_or_default full among.0 number 0 within) in
      (number, below, same, (state.numbers number below).0 inside)

  -- the next row is neither kept nor false, or it is the first false one
  module _ (found' : Option ℕ) (not_kept : IsKept sides rows n → ⊥) (covered : next.terms ≢ [] → Asks sides next → Contains kept next)
      (first : MatchOption found' ((number : ℕ) → number < n + 1 → IsFalse sides rows number → ⊥) (λ f. (f < n + 1) × IsFalse sides rows f × ((earlier : ℕ) → earlier < f → IsFalse sides rows earlier → ⊥))) where
    pub sieve_skips : IsSieved sides rows (n + 1) kept full found'
    sieve_skips = record {
      full_rises = state.full_rises;
      full_below = λ k d lt. let below = state.full_below k d lt in omega arith;
      numbers = λ number lt. elim (cases_eq number n) [
        | inl e ↦ (
          (λ h. let below = state.full_below h.0 number h.1 in let same = h.2 in absurd (omega arith)),
          (λ k. absurd (not_kept (subst (λ m. IsKept sides rows m) e k))),
        )
        | inr ne ↦ state.numbers number (omega arith)
      ];
      rows_are = state.rows_are;
      covers = λ number lt some asks. elim (cases_eq number n) [
        | inl e ↦ subst (λ m. Contains kept (row_in sides rows m)) (sym e) (covered (subst (λ m. (row_in sides rows m).terms ≢ []) e some) (subst (λ m. Asks sides (row_in sides rows m)) e asks))
        | inr ne ↦ state.covers number (omega arith) some asks
      ];
      first_false = first;
    }

  -- the first false row stays, where the next row is not false
  still_first : (o : Option ℕ) → (IsFalse sides rows n → ⊥) → MatchOption o ((number : ℕ) → number < n → IsFalse sides rows number → ⊥) (λ f. (f < n) × IsFalse sides rows f × ((earlier : ℕ) → earlier < f → IsFalse sides rows earlier → ⊥))
      → MatchOption o ((number : ℕ) → number < n + 1 → IsFalse sides rows number → ⊥) (λ f. (f < n + 1) × IsFalse sides rows f × ((earlier : ℕ) → earlier < f → IsFalse sides rows earlier → ⊥))
  still_first None right none = λ number lt wrong. elim (cases_eq number n) [
    | inl e ↦ right (subst (λ m. IsFalse sides rows m) e wrong)
    | inr ne ↦ none number (omega arith) wrong
  ]
  still_first (Some f) right some = let lt = some.0 in (omega arith, some.1, some.2)

  -- the first false row where the next one is false
  now_first : (o : Option ℕ) → IsFalse sides rows n → MatchOption o ((number : ℕ) → number < n → IsFalse sides rows number → ⊥) (λ f. (f < n) × IsFalse sides rows f × ((earlier : ℕ) → earlier < f → IsFalse sides rows earlier → ⊥))
      → MatchOption (option_or o (Some n)) ((number : ℕ) → number < n + 1 → IsFalse sides rows number → ⊥) (λ f. (f < n + 1) × IsFalse sides rows f × ((earlier : ℕ) → earlier < f → IsFalse sides rows earlier → ⊥))
  now_first None wrong none = (omega arith, wrong, none)
  now_first (Some f) wrong some = let lt = some.0 in (omega arith, some.1, some.2)

  -- a false row asks for something
  false_asks : IsFalse sides rows n → Asks sides next
  false_asks wrong = subst (λ (ts : List Coef). least_sum sides ts <ℤ next.least) (sym wrong.none) wrong.fails

  pub sieve_passes_idle : (Asks sides next → ⊥) → IsSieved sides rows (n + 1) kept full found
  sieve_passes_idle idle = sieve_skips found (λ k. idle k.asks) (λ some asks. absurd (idle asks)) (still_first found (λ wrong. idle (false_asks wrong)) state.first_false)

  pub sieve_passes_false : next.terms ≡ [] → Asks sides next → IsSieved sides rows (n + 1) kept full (option_or found (Some n))
  sieve_passes_false none asks =
      let wrong : IsFalse sides rows n = record { there = there; none = none; fails = subst (λ (ts : List Coef). least_sum sides ts <ℤ next.least) none asks } in
      sieve_skips (option_or found (Some n)) (λ k. k.some none) (λ some asks. absurd (some none)) (now_first found wrong state.first_false)

  pub sieve_passes_equal : Contains kept next → IsSieved sides rows (n + 1) kept full found
  sieve_passes_equal h =
      let one = earlier_kept h in
      sieve_skips found (λ k. k.first one.0 one.1 one.2) (λ some asks. h)
      (still_first found (λ wrong. one.3.some (ap (λ (r : IpRow). r.terms) one.2 ∙ wrong.none)) state.first_false)

  pub sieve_takes : Asks sides next → next.terms ≢ [] → (Contains kept next → ⊥) → IsSieved sides rows (n + 1) (kept ++ next ∷ []) (full ++ n ∷ []) found
  sieve_takes asks some new =
      let kept_now : IsKept sides rows n = record {
        there = there;
        some = some;
        asks = asks;
        first = λ earlier lt same. new (subst (λ (r : IpRow). Contains kept r) same (state.covers earlier lt
            (λ none. some (ap (λ (r : IpRow). r.terms) (sym same) ∙ none))
            (subst (λ (r : IpRow). Asks sides r) (sym same) asks)));
      } in
      record {
        full_rises = rises_push full n state.full_rises state.full_below;
        full_below = All-push (λ x. x < n + 1) full n (All-weaker (λ x. x < n) (λ x. x < n + 1) (λ x lt. omega arith) full state.full_below) (omega arith);
        numbers = λ number lt. elim (cases_eq number n) [
          | inl e ↦ (
            (λ h. subst (λ m. IsKept sides rows m) (sym e) kept_now),
            (λ k. subst (λ m. Contains (full ++ n ∷ []) m) (sym e) (Contains-push full n)),
          )
          | inr ne ↦ (
            (λ h. elim (Contains-push_cases full n number h) [
              | inl inside ↦ (state.numbers number (omega arith)).0 inside
              | inr same ↦ absurd (ne (sym same))
            ]),
            (λ k. Contains-append_left full (n ∷ []) number ((state.numbers number (omega arith)).1 k)),
          )
        ];
        rows_are = ap (λ (ks : List IpRow). ks ++ next ∷ []) state.rows_are ∙ sym (map_push (row_in sides rows) full n);
        covers = λ number lt some asks. elim (cases_eq number n) [
          | inl e ↦ subst (λ m. Contains (kept ++ next ∷ []) (row_in sides rows m)) (sym e) (Contains-push kept next)
          | inr ne ↦ Contains-append_left kept (next ∷ []) (row_in sides rows number) (state.covers number (omega arith) some asks)
        ];
        first_false = still_first found (λ wrong. some wrong.none) state.first_false;
      }

-- one row more, as the code takes it
pub sieve_goes_on : (sides : List Bounds) (rows : List IpRow) (n : ℕ) (row : IpRow) (before after : Sieve) (kept : Bool) → n < length rows → row ≡ row_in sides rows n
    → IsSieved sides rows n before.rows.items before.full.items before.false_row → Takes sides n row before after kept → IsSieved sides rows (n + 1) after.rows.items after.full.items after.false_row
sieve_goes_on sides rows n row before after kept there is state takes = by_answer kept (subst (λ (r : IpRow). Takes sides n r before after kept) is takes)
  where
    moved : (ks : List IpRow) (fs : List ℕ) (o : Option ℕ) → after.rows.items ≡ ks → after.full.items ≡ fs → after.false_row ≡ o → IsSieved sides rows (n + 1) ks fs o → IsSieved sides rows (n + 1) after.rows.items after.full.items after.false_row
    moved ks fs o ke fe oe s =
        subst (λ (x : List IpRow). IsSieved sides rows (n + 1) x after.full.items after.false_row) (sym ke)
        (subst (λ (x : List ℕ). IsSieved sides rows (n + 1) ks x after.false_row) (sym fe)
        (subst (λ (x : Option ℕ). IsSieved sides rows (n + 1) ks fs x) (sym oe) s))

    dropped : after.rows.items ≡ before.rows.items → after.full.items ≡ before.full.items → IsDropped sides n (row_in sides rows n) before.rows.items before.false_row after.false_row → IsSieved sides rows (n + 1) after.rows.items after.full.items after.false_row
    dropped ke fe why = elim why [
      | inl idle ↦ moved before.rows.items before.full.items before.false_row ke fe idle.1 (sieve_passes_idle sides rows before.rows.items before.full.items before.false_row n there state idle.0)
      | inr other ↦ elim other [
        | inl wrong ↦ moved before.rows.items before.full.items (option_or before.false_row (Some n)) ke fe wrong.2 (sieve_passes_false sides rows before.rows.items before.full.items before.false_row n there state wrong.0 wrong.1)
        | inr equal ↦ moved before.rows.items before.full.items before.false_row ke fe equal.1 (sieve_passes_equal sides rows before.rows.items before.full.items before.false_row n there state equal.0)
      ]
    ]

    by_answer : (b : Bool) → Takes sides n (row_in sides rows n) before after b → IsSieved sides rows (n + 1) after.rows.items after.full.items after.false_row
    by_answer true t = moved (before.rows.items ++ row_in sides rows n ∷ []) (before.full.items ++ n ∷ []) before.false_row t.3 t.4 t.5 (sieve_takes sides rows before.rows.items before.full.items before.false_row n there state t.0 t.1 t.2)
    by_answer false t = dropped t.0 t.1 t.2

-- no more rows are kept than went through
pub sieve_few : (sides : List Bounds) (n : ℕ) (row : IpRow) (before after : Sieve) (kept : Bool) → Takes sides n row before after kept → length before.rows.items ≤ n → length after.rows.items ≤ n + 1
sieve_few sides n row before after true takes few =
    let longer = ap (λ (rs : List IpRow). length rs) takes.3 in
    let size = length_push before.rows.items row in
    omega arith
sieve_few sides n row before after false takes few = let same = ap (λ (rs : List IpRow). length rs) takes.0 in omega arith

-- the points that meet all rows
module _ (sides : List Bounds) (rows kept : List IpRow) (full : List ℕ) (found : Option ℕ) (state : IsSieved sides rows (length rows) kept full found)
    (light : All (λ (row : IpRow). IsLight sides row.terms) rows) (point : List ℤ) (between : IsBetween sides point) where
  abbrev no_row : IpRow
  no_row = record { terms = []; least = pos 0 }

  down : All (Holds point) rows → All (Holds point) kept
  down all = subst (λ (ks : List IpRow). All (Holds point) ks) (sym state.rows_are) (λ k d lt.
      let within : k < length full = let size = length-map full (row_in sides rows) in omega arith in
      let number = get_or full k 0 in
      let below : number < length rows = state.full_below k 0 within in
      subst (λ (r : IpRow). Holds point r) (sym (get_or-map (row_in sides rows) full k 0 d within)) (holds_in sides point between (row_at rows number) (light number no_row below).there (all number no_row below)))

  no_false : (o : Option ℕ) → MatchOption o ((number : ℕ) → number < length rows → IsFalse sides rows number → ⊥) (λ f. (f < length rows) × IsFalse sides rows f × ((earlier : ℕ) → earlier < f → IsFalse sides rows earlier → ⊥)) → All (Holds point) rows → o ≡ None
  no_false None none all = refl
  no_false (Some f) some all =
      let holds : Holds point (row_in sides rows f) = holds_in sides point between (row_at rows f) (light f no_row some.0).there (all f no_row some.0) in
      let empty : (row_in sides rows f).least ≤ℤ pos 0 = subst (λ (ts : List Coef). (row_in sides rows f).least ≤ℤ sum_at point ts) some.1.none holds in
      let above = some.1.fails in
      absurd (omega (arith, ints, empty, above))

  none_false : (o : Option ℕ) → o ≡ None → MatchOption o ((number : ℕ) → number < length rows → IsFalse sides rows number → ⊥) (λ f. (f < length rows) × IsFalse sides rows f × ((earlier : ℕ) → earlier < f → IsFalse sides rows earlier → ⊥)) → (number : ℕ) → number < length rows → IsFalse sides rows number → ⊥
  none_false None e none = none
  none_false (Some f) e some = cc

  asked_holds : (number : ℕ) → number < length rows → found ≡ None → All (Holds point) kept → Asks sides (row_in sides rows number) → (ts : List Coef) → (row_in sides rows number).terms ≡ ts → Holds point (row_in sides rows number)
  asked_holds number lt none all asks [] is =
      absurd (none_false found none state.first_false number lt (record { there = lt; none = is; fails = subst (λ (xs : List Coef). least_sum sides xs <ℤ (row_in sides rows number).least) is asks }))
  asked_holds number lt none all asks (t ∷ ts) is =
      let h = state.covers number lt (λ empty. let no : t ∷ ts ≡ [] = sym is ∙ empty in cc) asks in
      subst (λ (r : IpRow). Holds point r) h.2 (all h.0 (row_in sides rows number) h.1)

  up : found ≡ None → All (Holds point) kept → All (Holds point) rows
  up none all = λ k d lt.
      let same : row_at rows k ≡ get_or rows k d = get_or_default rows k no_row d lt in
      let light_row = light k no_row lt in
      let short = light_open sides (row_at rows k).terms light_row in
      let inside : Holds point (row_in sides rows k) = by_lt_z (least_sum sides (row_in sides rows k).terms) (row_in sides rows k).least
      (λ asks. asked_holds k lt none all asks (row_in sides rows k).terms refl)
      (λ idle. let least = least_below sides point between (row_in sides rows k).terms short.there in omega (arith, ints, idle, least)) in
      subst (λ (r : IpRow). Holds point r) same (holds_out sides point between (row_at rows k) light_row.there inside)

  pub sieve_points : All (Holds point) rows ↔ (All (Holds point) kept × (found ≡ None))
  sieve_points = ((λ all. (down all, no_false found state.first_false all)), (λ both. up both.1 both.0))
