-- Spreading a part over the columns of one row.
use Rattle.std.proofs.Common.{◌≡◌, ◌≢◌, ◌⊎◌, inl, inr, ◌+◌, ◌<◌, ◌≤◌, ℕ, Bool, true, false, List, [], ◌∷◌, ◌++◌, length, get_or, set, eqb, cond, refl, sym, ap, ◌∙◌, subst, arith}
use Rattle.std.specs.List.{Contains}
use Rattle.std.proofs.lemmas.Bool.{cases_eq, cases_lt, false≢true, ne_eqb}
use Rattle.std.proofs.lemmas.List.{get_or-set_same, get_or-set_other, get_or_append_left, get_or_push, length_push, length-set, get_or_past}
use Rattle.std.proofs.lemmas.List.Sums.{sum_by-set}
use Rattle.cross_links.specs.Layout.{Layout, live_columns}
use Rattle.ip_partition.specs.Linked.{IsLive, IsLinked}
use Rattle.ip_partition.specs.Spreading.{part_of, is_seen, unlabelled, IsListed, IsSpread, Extends, SpreadsRow}
use Rattle.ip_partition.proofs.Among.{none_in, at_head, behind, head_or_behind, in_row, from_row}
use Rattle.ip_partition.proofs.Chains.{linked_row, linked_trans, linked_sym}

-- one more place of a list that grew at its end
pub pushed_before : (reached : List ℕ) (c k : ℕ) → k < length reached → get_or (reached ++ c ∷ []) k 0 ≡ get_or reached k 0
pushed_before reached c k lt = get_or_append_left reached (c ∷ []) 0 k lt

pub pushed_last : (reached : List ℕ) (c k : ℕ) → length reached ≡ k → get_or (reached ++ c ∷ []) k 0 ≡ c
pushed_last reached c k e = get_or_push reached c 0 k e

pub extends_self : (reached : List ℕ) → Extends reached reached
extends_self reached = record { longer = omega arith; same = λ k lt. refl }

pub extends_push : (reached : List ℕ) (c : ℕ) → Extends reached (reached ++ c ∷ [])
extends_push reached c = record { longer = omega (arith, length_push reached c); same = λ k lt. pushed_before reached c k lt }

pub extends_trans : (a b c : List ℕ) → Extends a b → Extends b c → Extends a c
extends_trans a b c x y = record { longer = let p = x.longer in let q = y.longer in omega arith; same = λ k lt. let p = x.longer in y.same k (omega arith) ∙ x.same k lt }

-- a place within the list stays listed
pub listed_on : (before after : List ℕ) (c : ℕ) → Extends before after → IsListed before c → IsListed after c
listed_on before after c e l = let lt = l.1 in let more = e.longer in (l.0, omega arith, e.same l.0 l.1 ∙ l.2)

-- a label below the end of the labels
pub labelled_within : (labels : List ℕ) (c : ℕ) → 0 < part_of labels c → c < length labels
labelled_within labels c some = elim (cases_lt c (length labels)) [
  | inl lt ↦ lt
  | inr ge ↦ let none : part_of labels c ≡ 0 = get_or_past labels c 0 ge in absurd (omega (arith, none))
]

-- a column that has no label gets one
pub unlabelled_set : (labels : List ℕ) (c part : ℕ) → c < length labels → part_of labels c ≡ 0 → 0 < part → unlabelled (set labels c part) + 1 ≡ unlabelled labels
unlabelled_set labels c part lt none some =
    let all : unlabelled (set labels c part) + cond (eqb (get_or labels c 0) 0) 1 0 ≡ unlabelled labels + cond (eqb part 0) 1 0 = sum_by-set (λ (l : ℕ). cond (eqb l 0) 1 0) labels c part 0 lt in
    let old : ◌≡◌ {A = ℕ} (cond (eqb (get_or labels c 0) 0) 1 0) 1 = ap (λ (l : ℕ). cond (eqb l 0) 1 0) none in
    let new : ◌≡◌ {A = ℕ} (cond (eqb part 0) 1 0) 0 = ap (λ (b : Bool). cond b 1 0) (ne_eqb part 0 (λ e. omega arith)) in
    omega (arith, all, old, new)

-- the first number of a walk along a row
pub first_is_live : (grid : Layout) (row column : ℕ) (walk rest : List ℕ) → walk ≡ live_columns grid row → walk ≡ column ∷ rest → IsLive grid row column
first_is_live grid row column walk rest numbers is = from_row grid row column (subst (λ (xs : List ℕ). Contains xs column) (sym is ∙ numbers) (at_head column rest))

-- before any column of the row
pub row_begins : (grid : Layout) (row part : ℕ) (labels reached rest : List ℕ) → rest ≡ live_columns grid row → SpreadsRow grid row part labels reached labels reached rest
row_begins grid row part labels reached rest is = record {
  size = refl;
  kept = λ c some. refl;
  fresh = λ c none some. absurd (omega (arith, none));
  covers = λ c live. inr (subst (λ (xs : List ℕ). Contains xs c) (sym is) (in_row grid row c live));
  within = λ c h. from_row grid row c (subst (λ (xs : List ℕ). Contains xs c) is h);
  extends = extends_self reached;
  pushed = λ k ge lt. absurd (omega arith);
  count = refl;
}

module _ (grid : Layout) (row part : ℕ) (labels reached labels' reached' before rest : List ℕ) (c : ℕ) (is : before ≡ c ∷ rest) (state : SpreadsRow grid row part labels reached labels' reached' before) where
  covered : (x : ℕ) → IsLive grid row x → (0 < part_of labels' x) ⊎ ((c ≡ x) ⊎ Contains rest x)
  covered x live = elim (state.covers x live) [
    | inl some ↦ inl some
    | inr h ↦ inr (head_or_behind c rest x (subst (λ (xs : List ℕ). Contains xs x) is h))
  ]

  left : (x : ℕ) → Contains rest x → IsLive grid row x
  left x h = state.within x (subst (λ (xs : List ℕ). Contains xs x) (sym is) (behind c rest x h))

  pub next_is_live : IsLive grid row c
  next_is_live = state.within c (subst (λ (xs : List ℕ). Contains xs c) (sym is) (at_head c rest))

  -- the next column has a label already
  pub row_skips : (part_of labels' c ≡ 0 → ⊥) → SpreadsRow grid row part labels reached labels' reached' rest
  row_skips some = record {
    size = state.size;
    kept = state.kept;
    fresh = state.fresh;
    covers = λ x live. elim (covered x live) [
      | inl above ↦ inl above
      | inr (inl e) ↦ let same : part_of labels' c ≡ part_of labels' x = ap (part_of labels') e in let apart : part_of labels' c ≢ 0 = some in inl (omega arith)
      | inr (inr h) ↦ inr h
    ];
    within = left;
    extends = state.extends;
    pushed = state.pushed;
    count = state.count;
  }

  -- the next column gets the part's label
  module _ (none : part_of labels' c ≡ 0) (lt : c < length labels') (some : 0 < part) where
    abbrev now : List ℕ
    now = set labels' c part

    abbrev more : List ℕ
    more = reached' ++ c ∷ []

    here : part_of now c ≡ part
    here = get_or-set_same labels' c part 0 lt

    other : (x : ℕ) → x ≢ c → part_of now x ≡ part_of labels' x
    other x ne = get_or-set_other labels' c x part 0 ne

    stays : (x : ℕ) → 0 < part_of labels' x → part_of now x ≡ part_of labels' x
    stays x above = other x (λ e. let same : part_of labels' x ≡ part_of labels' c = ap (part_of labels') e in omega arith)

    newer : (x : ℕ) → part_of labels x ≡ 0 → 0 < part_of now x → (part_of now x ≡ part) × IsLive grid row x × IsListed more x
    newer x old above = elim (cases_eq x c) [
      | inl e ↦ subst (λ y. (part_of now y ≡ part) × IsLive grid row y × IsListed more y) (sym e) (here, next_is_live, (length reached', omega (arith, length_push reached' c), pushed_last reached' c (length reached') refl))
      | inr ne ↦
          let same : part_of now x ≡ part_of labels' x = other x ne in
          let was = state.fresh x old (omega (arith, same, above)) in
          (same ∙ was.0, was.1, listed_on reached' more x (extends_push reached' c) was.2)
    ]

    last : (k : ℕ) → length reached ≤ k → k < length more → part_of now (get_or more k 0) ≡ part
    last k ge below = elim (cases_lt k (length reached')) [
      | inl early ↦
          let place : get_or more k 0 ≡ get_or reached' k 0 = pushed_before reached' c k early in
          let was : part_of labels' (get_or reached' k 0) ≡ part = state.pushed k ge early in
          subst (λ x. part_of now x ≡ part) (sym place) (stays (get_or reached' k 0) (omega (arith, was)) ∙ was)
      | inr late ↦
          let end : length reached' ≡ k = let size = length_push reached' c in omega arith in
          subst (λ x. part_of now x ≡ part) (sym (pushed_last reached' c k end)) here
    ]

    pub row_gains : SpreadsRow grid row part labels reached now more rest
    row_gains = record {
      size = length-set labels' c part ∙ state.size;
      kept = λ x above. let was = state.kept x above in stays x (omega (arith, was)) ∙ was;
      fresh = newer;
      covers = λ x live. elim (covered x live) [
        | inl above ↦ let same = stays x above in inl (omega (arith, same))
        | inr (inl e) ↦ let same : part_of now c ≡ part_of now x = ap (part_of now) e in inl (omega (arith, here, same))
        | inr (inr h) ↦ inr h
      ];
      within = left;
      extends = extends_trans reached reached' more state.extends (extends_push reached' c);
      pushed = last;
      count = let was = state.count in let one = unlabelled_set labels' c part lt none some in let size = length_push reached' c in omega arith;
    }

    pub row_gains_by : (after : List ℕ) → after ≡ more → SpreadsRow grid row part labels reached now after rest
    row_gains_by after same = subst (λ (xs : List ℕ). SpreadsRow grid row part labels reached now xs rest) (sym same) row_gains

-- after all columns of the row
pub row_ends : (grid : Layout) (row part : ℕ) (labels reached labels' reached' rest : List ℕ) → rest ≡ [] → SpreadsRow grid row part labels reached labels' reached' rest → SpreadsRow grid row part labels reached labels' reached' []
row_ends grid row part labels reached labels' reached' rest none state = subst (λ (xs : List ℕ). SpreadsRow grid row part labels reached labels' reached' xs) none state

-- a row whose columns are labelled is seen
module _ (grid : Layout) (part at row : ℕ) (labels : List ℕ) (seen : List Bool) (reached labels' reached' : List ℕ)
    (state : IsSpread grid part at labels seen reached) (went : SpreadsRow grid row part labels reached labels' reached' [])
    (unseen : is_seen seen row ≡ false) (lt : row < length seen) (some : 0 < part) (within : at < length reached) (touches : IsLive grid row (get_or reached at 0)) where
  abbrev all_seen : List Bool
  all_seen = set seen row true

  abbrev start : ℕ
  start = get_or reached at 0

  start_part : part_of labels start ≡ part
  start_part = state.current at (omega arith) within

  seen_on : (r : ℕ) → is_seen seen r ≡ true → is_seen all_seen r ≡ true
  seen_on r h = elim (cases_eq r row) [
    | inl e ↦ subst (λ x. is_seen all_seen x ≡ true) (sym e) (get_or-set_same seen row true false lt)
    | inr ne ↦ get_or-set_other seen row r true false ne ∙ h
  ]

  -- a label is an old one, or it is the part's and the column is in the row
  old_or_new : (x : ℕ) → 0 < part_of labels' x → ((0 < part_of labels x) × (part_of labels' x ≡ part_of labels x)) ⊎ ((part_of labels' x ≡ part) × IsLive grid row x × IsListed reached' x)
  old_or_new x above = elim (cases_lt 0 (part_of labels x)) [
    | inl old ↦ inl (old, went.kept x old)
    | inr none ↦ inr (went.fresh x (omega arith) above)
  ]

  whole : (x : ℕ) → IsLive grid row x → part_of labels' x ≡ part
  whole x live = elim (went.covers x live) [
    | inl above ↦ elim (old_or_new x above) [
      | inl old ↦
          let l = state.listed x old.0 in
          elim (cases_lt l.0 at) [
            | inl early ↦ absurd (false≢true (sym unseen ∙ state.done l.0 row early l.1 (subst (λ c. IsLive grid row c) (sym l.2) live)))
            | inr late ↦ old.1 ∙ subst (λ c. part_of labels c ≡ part) l.2 (state.current l.0 late l.1)
          ]
      | inr new ↦ new.0
    ]
    | inr h ↦ absurd (none_in x h)
  ]

  to_start : (x : ℕ) → 0 < part_of labels' x → part_of labels' x ≡ part → IsLinked grid start x
  to_start x above is = elim (old_or_new x above) [
    | inl old ↦ let was = old.1 in let begun = start_part in state.linked start x (omega arith) (omega arith)
    | inr new ↦ linked_row grid start x (row, touches, new.1)
  ]

  links : (a b : ℕ) → 0 < part_of labels' a → part_of labels' a ≡ part_of labels' b → IsLinked grid a b
  links a b above same = elim (cases_eq (part_of labels' a) part) [
    | inl is ↦ linked_trans grid a start b (linked_sym grid start a (to_start a above is)) (to_start b (omega arith) (omega arith))
    | inr ne ↦ elim (old_or_new a above) [
      | inl one ↦ elim (old_or_new b (omega arith)) [
        | inl two ↦ let p = one.1 in let q = two.1 in state.linked a b one.0 (omega arith)
        | inr new ↦ let q = new.0 in absurd (omega arith)
      ]
      | inr new ↦ absurd (ne new.0)
    ]
  ]

  seen_rows : (r a b : ℕ) → is_seen all_seen r ≡ true → IsLive grid r a → IsLive grid r b → (0 < part_of labels' a) × (part_of labels' b ≡ part_of labels' a)
  seen_rows r a b h la lb = elim (cases_eq r row) [
    | inl e ↦
        let pa = whole a (subst (λ x. IsLive grid x a) e la) in
        let pb = whole b (subst (λ x. IsLive grid x b) e lb) in
        (omega (arith, pa), pb ∙ sym pa)
    | inr ne ↦
        let was = state.rows r a b (sym (get_or-set_other seen row r true false ne) ∙ h) la lb in
        let same = was.1 in
        let above = was.0 in
        let ka = went.kept a was.0 in
        let kb = went.kept b (omega (arith, same, above)) in
        (omega (arith, ka, above), kb ∙ was.1 ∙ sym ka)
  ]

  pub row_seen : IsSpread grid part at labels' all_seen reached'
  row_seen = record {
    bound = λ c. elim (cases_lt 0 (part_of labels' c)) [
      | inl above ↦ elim (old_or_new c above) [
        | inl old ↦ let same = old.1 in let was = state.bound c in omega arith
        | inr new ↦ let same = new.0 in omega arith
      ]
      | inr none ↦ omega arith
    ];
    linked = links;
    rows = seen_rows;
    listed = λ c above. elim (old_or_new c above) [
      | inl old ↦ listed_on reached reached' c went.extends (state.listed c old.0)
      | inr new ↦ new.2
    ];
    done = λ k r early below live.
        let reach : k < length reached = omega arith in
        seen_on r (state.done k r early reach (subst (λ c. IsLive grid r c) (went.extends.same k reach) live));
    current = λ k ge below. elim (cases_lt k (length reached)) [
      | inl early ↦
          let was = state.current k ge early in
          subst (λ c. part_of labels' c ≡ part) (sym (went.extends.same k early)) (went.kept (get_or reached k 0) (omega (arith, was)) ∙ was)
      | inr late ↦ went.pushed k late below
    ];
    count = let one = went.count in let two = state.count in let size = went.size in omega arith;
  }
