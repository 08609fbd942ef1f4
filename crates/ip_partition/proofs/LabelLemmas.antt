-- Labelling the columns, one part after another.
use Rattle.std.proofs.Common.{◌≡◌, ◌≢◌, inl, inr, ◌+◌, ◌-◌, ◌<◌, ◌≤◌, ℕ, zero, suc, Bool, false, cond, eqb, List, [], ◌∷◌, ◌++◌, length, get_or, set, take, drop, replicate, refl, sym, ap, ◌∙◌, subst, arith}
use Rattle.std.specs.List.{All}
use Rattle.std.proofs.lemmas.Bool.{cases_eq, cases_lt, false≢true}
use Rattle.std.proofs.lemmas.List.{get_or-set_same, get_or-set_other, length_push, length-set, length-replicate, get_or-replicate, get_or_past, take_at}
use Rattle.std.proofs.lemmas.List.Sums.{sum_by-cons}
use Rattle.cross_links.specs.Layout.{Layout}
use Rattle.ip_partition.specs.Linked.{IsLive, IsLinked}
use Rattle.ip_partition.specs.Spreading.{part_of, is_seen, unlabelled, IsSpread, Keeps, SpreadsOn, IsLabelled, AreLabels}
use Rattle.ip_partition.proofs.Chains.{linked_same}
use Rattle.ip_partition.proofs.RowLemmas.{pushed_before, pushed_last, extends_push, listed_on, unlabelled_set}
use Rattle.ip_partition.proofs.ColumnLemmas.{Keeps-trans}

none_labelled : (n c : ℕ) → part_of (replicate n 0) c ≡ 0
none_labelled n c = elim (cases_lt c n) [
  | inl lt ↦ get_or-replicate n c 0 0 lt
  | inr ge ↦ get_or_past (replicate n 0) c 0 (let size : length (replicate {A = ℕ} n 0) ≡ n = length-replicate n 0 in omega arith)
]

none_seen : (n row : ℕ) → is_seen (replicate n false) row ≡ false
none_seen n row = elim (cases_lt row n) [
  | inl lt ↦ get_or-replicate n row false false lt
  | inr ge ↦ get_or_past (replicate n false) row false (let size : length (replicate n false) ≡ n = length-replicate n false in omega arith)
]

all_unlabelled : (n : ℕ) → unlabelled (replicate n 0) ≡ n
all_unlabelled zero = refl
all_unlabelled (suc n) = let step = sum_by-cons (λ (l : ℕ). cond (eqb l 0) 1 0) 0 (replicate n 0) in let rest = all_unlabelled n in omega arith

-- before any column
pub labels_begin : (grid : Layout) (columns labels : List ℕ) (seen : List Bool) (reached : List ℕ) → labels ≡ replicate (length labels) 0 → seen ≡ replicate (length seen) false → reached ≡ []
    → IsLabelled grid columns 0 0 labels seen reached
labels_begin grid columns labels seen reached none unseen empty =
    subst (λ (r : List ℕ). IsLabelled grid columns 0 0 labels seen r) (sym empty) (record {
      spread = record {
        bound = λ c. let z = zero_at c in omega arith;
        linked = λ a b above same. let z = zero_at a in absurd (omega arith);
        rows = λ row a b done la lb. absurd (false≢true (sym (unseen_at row) ∙ done));
        listed = λ c above. let z = zero_at c in absurd (omega arith);
        done = λ k row early below live. absurd (omega arith);
        current = λ k ge below. absurd (omega arith);
        count = let all = ap unlabelled none ∙ all_unlabelled (length labels) in omega arith;
      };
      labelled = λ j lt. absurd (omega arith);
      before = λ j m lt some less. absurd (omega arith);
      each = λ m some few. absurd (omega arith);
      few = omega arith;
    })
  where
    zero_at : (c : ℕ) → part_of labels c ≡ 0
    zero_at c = ap (λ (ls : List ℕ). part_of ls c) none ∙ none_labelled (length labels) c

    unseen_at : (row : ℕ) → is_seen seen row ≡ false
    unseen_at row = ap (λ (bs : List Bool). is_seen bs row) unseen ∙ none_seen (length seen) row

-- a column without a label begins a part
module _ (grid : Layout) (count c : ℕ) (labels : List ℕ) (seen : List Bool) (reached : List ℕ) (state : IsSpread grid count (length reached) labels seen reached)
    (none : part_of labels c ≡ 0) (lt : c < length labels) where
  abbrev now : List ℕ
  now = set labels c (count + 1)

  abbrev more : List ℕ
  more = reached ++ c ∷ []

  pub part_here : part_of now c ≡ count + 1
  part_here = get_or-set_same labels c (count + 1) 0 lt

  other : (x : ℕ) → x ≢ c → part_of now x ≡ part_of labels x
  other x ne = get_or-set_other labels c x (count + 1) 0 ne

  pub part_stays : Keeps labels now
  part_stays x above = other x (λ e. let same : part_of labels x ≡ part_of labels c = ap (part_of labels) e in omega arith)

  links : (a b : ℕ) → 0 < part_of now a → part_of now a ≡ part_of now b → IsLinked grid a b
  links a b above same = elim (cases_eq a c) [
    | inl one ↦ elim (cases_eq b c) [
      | inl two ↦ linked_same grid a b (one ∙ sym two)
      | inr ne ↦ let here : part_of now a ≡ part_of now c = ap (part_of now) one in let there = other b ne in let most = state.bound b in let p = part_here in absurd (omega arith)
    ]
    | inr apart ↦ elim (cases_eq b c) [
      | inl two ↦ let here : part_of now b ≡ part_of now c = ap (part_of now) two in let there = other a apart in let most = state.bound a in let p = part_here in absurd (omega arith)
      | inr ne ↦ let p = other a apart in let q = other b ne in state.linked a b (omega arith) (omega arith)
    ]
  ]

  part_begins : IsSpread grid (count + 1) (length reached) now seen more
  part_begins = record {
    bound = λ x. elim (cases_eq x c) [
      | inl e ↦ let same : part_of now x ≡ part_of now c = ap (part_of now) e in let p = part_here in omega arith
      | inr ne ↦ let same = other x ne in let most = state.bound x in omega arith
    ];
    linked = links;
    rows = λ row a b done la lb.
        let was = state.rows row a b done la lb in
        let above = was.0 in
        let same = was.1 in
        let ka = part_stays a was.0 in
        let kb = part_stays b (omega arith) in
        (omega arith, kb ∙ was.1 ∙ sym ka);
    listed = λ x above. elim (cases_eq x c) [
      | inl e ↦ (length reached, let size = length_push reached c in omega arith, pushed_last reached c (length reached) refl ∙ sym e)
      | inr ne ↦ let same = other x ne in listed_on reached more x (extends_push reached c) (state.listed x (omega arith))
    ];
    done = λ k row early below live. state.done k row early early (subst (λ x. IsLive grid row x) (pushed_before reached c k early) live);
    current = λ k ge below.
        let end : length reached ≡ k = let size = length_push reached c in omega arith in
        subst (λ x. part_of now x ≡ count + 1) (sym (pushed_last reached c k end)) part_here;
    count = let was = state.count in let one = unlabelled_set labels c (count + 1) lt none (omega arith) in let size = length_push reached c in let same = length-set labels c (count + 1) in omega arith;
  }

module _ (grid : Layout) (part c : ℕ) (labels : List ℕ) (seen : List Bool) (reached : List ℕ) (some : 0 < part) (state : IsSpread grid (part - 1) (length reached) labels seen reached)
    (none : part_of labels c ≡ 0) (lt : c < length labels) where
  pub part_begins_by : (from : ℕ) (after : List ℕ) → from ≡ length reached → after ≡ reached ++ c ∷ [] → IsSpread grid part from (set labels c part) seen after
  part_begins_by from after place pushed =
      let same : part - 1 + 1 ≡ part = omega arith in
      subst (λ (xs : List ℕ). IsSpread grid part from (set labels c part) seen xs) (sym pushed)
      (subst (λ n. IsSpread grid part n (set labels c part) seen (reached ++ c ∷ [])) (sym place)
      (subst (λ p. IsSpread grid p (length reached) (set labels c p) seen (reached ++ c ∷ [])) same (part_begins grid (part - 1) c labels seen reached state none lt)))

module _ (grid : Layout) (columns : List ℕ) (i count : ℕ) (labels : List ℕ) (seen : List Bool) (reached : List ℕ) (state : IsLabelled grid columns i count labels seen reached) where
  -- the next column has a label already
  pub labels_skip : (part_of labels (get_or columns i 0) ≡ 0 → ⊥) → IsLabelled grid columns (i + 1) count labels seen reached
  labels_skip some = record {
    spread = state.spread;
    labelled = λ j lt. elim (cases_lt j i) [
      | inl early ↦ state.labelled j early
      | inr late ↦
          let same : part_of labels (get_or columns j 0) ≡ part_of labels (get_or columns i 0) = ap (λ k. part_of labels (get_or columns k 0)) (omega arith) in
          let apart : part_of labels (get_or columns i 0) ≢ 0 = some in
          omega arith
    ];
    before = λ j m lt above less. elim (cases_lt j i) [
      | inl early ↦ state.before j m early above less
      | inr late ↦
          let most = state.spread.bound (get_or columns j 0) in
          let found = state.each m above (omega arith) in
          let place = found.1 in
          (found.0, omega arith, found.2)
    ];
    each = λ m above few. let found = state.each m above few in let place = found.1 in (found.0, omega arith, found.2);
    few = let most = state.few in omega arith;
  }

  -- the next column begins a part, which then spreads
  module _ (labels' : List ℕ) (seen' : List Bool) (reached' : List ℕ) (c : ℕ) (is : c ≡ get_or columns i 0) (none : part_of labels c ≡ 0) (lt : c < length labels)
      (went : SpreadsOn grid (count + 1) (length reached') (set labels c (count + 1)) labels' seen' reached') where
    keeps : Keeps labels labels'
    keeps = Keeps-trans labels (set labels c (count + 1)) labels' (part_stays grid count c labels seen reached state.spread none lt) went.kept

    new_part : part_of labels' (get_or columns i 0) ≡ count + 1
    new_part =
        let here = part_here grid count c labels seen reached state.spread none lt in
        subst (λ x. part_of labels' x ≡ count + 1) is (went.kept c (omega (arith, here)) ∙ here)

    moved : (k m : ℕ) → 0 < m → part_of labels (get_or columns k 0) ≡ m → part_of labels' (get_or columns k 0) ≡ m
    moved k m some e = keeps (get_or columns k 0) (omega (arith, e)) ∙ e

    pub labels_gain : IsLabelled grid columns (i + 1) (count + 1) labels' seen' reached'
    labels_gain = record {
      spread = went.spread;
      labelled = λ j lt. elim (cases_lt j i) [
        | inl early ↦ let was = state.labelled j early in let same = keeps (get_or columns j 0) was in omega arith
        | inr late ↦
            let same : part_of labels' (get_or columns j 0) ≡ part_of labels' (get_or columns i 0) = ap (λ k. part_of labels' (get_or columns k 0)) (omega arith) in
            let p = new_part in
            omega arith
      ];
      before = λ j m lt above less. elim (cases_lt j i) [
        | inl early ↦
            let same = keeps (get_or columns j 0) (state.labelled j early) in
            let found = state.before j m early above (omega arith) in
            (found.0, found.1, moved found.0 m above found.2)
        | inr late ↦
            let same : part_of labels' (get_or columns j 0) ≡ part_of labels' (get_or columns i 0) = ap (λ k. part_of labels' (get_or columns k 0)) (omega arith) in
            let p = new_part in
            let found = state.each m above (omega arith) in
            let place = found.1 in
            (found.0, omega arith, moved found.0 m above found.2)
      ];
      each = λ m above few. elim (cases_lt m (count + 1)) [
        | inl small ↦ let found = state.each m above (omega arith) in let place = found.1 in (found.0, omega arith, moved found.0 m above found.2)
        | inr big ↦ (i, omega arith, new_part ∙ omega arith)
      ];
      few = let most = state.few in omega arith;
    }

pub labelled_same : (grid : Layout) (columns : List ℕ) (i count count' : ℕ) (labels labels' : List ℕ) (seen seen' : List Bool) (reached reached' : List ℕ) → count' ≡ count → labels' ≡ labels → seen' ≡ seen → reached' ≡ reached
    → IsLabelled grid columns i count labels seen reached → IsLabelled grid columns i count' labels' seen' reached'
labelled_same grid columns i count count' labels labels' seen seen' reached reached' counts same_labels same_seen same_reached state = rw (counts, same_labels, same_seen, same_reached) state

-- after all columns
pub labels_end : (grid : Layout) (columns : List ℕ) (i count : ℕ) (labels : List ℕ) (seen : List Bool) (reached : List ℕ) → length columns ≤ i → i ≤ length columns → IsLabelled grid columns i count labels seen reached → AreLabels grid columns count labels
labels_end grid columns i count labels seen reached over within state = record {
  bound = state.spread.bound;
  linked = state.spread.linked;
  closed = λ a b share above.
      let l = state.spread.listed a above in
      let done = state.spread.done l.0 share.0 l.1 l.1 (subst (λ c. IsLive grid share.0 c) (sym l.2) share.1) in
      (state.spread.rows share.0 a b done share.1 share.2).1;
  labelled = λ j lt. state.labelled j (omega arith);
  before = λ j m lt above less. state.before j m (omega arith) above less;
  each = λ m above few. let found = state.each m above few in let place = found.1 in (found.0, omega arith, found.2);
}

-- equal items, as many as there are
module _ {X : Type 0} (xs : List X) (x : X) (n : ℕ) (is : xs ≡ replicate n x) where
  pub equal_length : length xs ≡ n
  equal_length = ap (λ (ys : List X). length ys) is ∙ length-replicate n x

  pub all_equal : xs ≡ replicate (length xs) x
  all_equal = is ∙ ap (λ m. replicate m x) (sym equal_length)

  pub all_within : (columns : List ℕ) → All (λ column. column < n) columns → All (λ column. column < length xs) columns
  all_within columns below = subst (λ m. All (λ column. column < m) columns) (sym equal_length) below

-- what a list holds after a slice of it was written whole
pub written_back : {X : Type 0} (n : ℕ) (written before : List X) → length written ≡ n → take n (written ++ drop (length written) before) ≡ written
written_back n written before is = take_at written (drop (length written) before) n is
