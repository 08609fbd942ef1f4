-- Labelled columns, gathered by their labels with their rows, are the parts.
use Rattle.std.proofs.Common.{◌≡◌, inl, inr, ◌+◌, ◌-◌, ◌<◌, ◌≤◌, ℕ, eqb, List, [], ◌∷◌, ◌++◌, length, get_or, replicate, refl, sym, ap, ◌∙◌, subst, arith}
use Rattle.std.specs.List.{All, Contains, filter, range_with_len}
use Rattle.std.specs.List.Sorted.{IsStrictlyIncreasing}
use Rattle.std.proofs.lemmas.Bool.{cases_lt, eq-eqb, eqb-true}
use Rattle.std.proofs.lemmas.List.{get_or_default, get_or-replicate, length-replicate}
use Rattle.std.proofs.lemmas.List.FromFn.{get_or-range_with_len, length-range_with_len}
use Rattle.std.proofs.lemmas.List.Kept.{IsStrictlyIncreasing-filter, AllPairs-from_increasing}
use Rattle.cross_links.specs.Layout.{Layout, live_columns}
use Rattle.ip_partition.specs.declared.part.PartCols.{PartCols}
use Rattle.ip_partition.specs.Linked.{IsLive}
use Rattle.ip_partition.specs.Parts.{least_of, part_at, IsPart, AreParts}
use Rattle.ip_partition.specs.Spreading.{part_of, HasRoom, AreLabels, first_part, row_part}
use Rattle.ip_partition.specs.Filling.{no_part, ColumnsAdded, RowsAdded}
use Rattle.ip_partition.proofs.Among.{none_in, at_head, at_place, in_filter, from_filter, in_row, from_row}
use Rattle.ip_partition.proofs.Chains.{linked_label}
use Rattle.ip_partition.proofs.RowLemmas.{labelled_within}

some_in : (xs : List ℕ) (x : ℕ) → Contains xs x → 0 < length xs
some_in xs x h = let lt = h.1 in omega arith

-- the first of rising numbers is the least
pub first_least : (xs : List ℕ) (x : ℕ) → IsStrictlyIncreasing xs → Contains xs x → get_or xs 0 0 ≤ x
first_least xs x rising h =
    let here : get_or xs h.0 0 ≡ x = get_or_default xs h.0 0 x h.1 ∙ h.2 in
    elim (cases_lt 0 h.0) [
      | inl above ↦ let less : get_or xs 0 0 < get_or xs h.0 0 = AllPairs-from_increasing xs rising 0 h.0 0 above h.1 in omega arith
      | inr none ↦ let same : get_or xs h.0 0 ≡ get_or xs 0 0 = ap (λ k. get_or xs k 0) (omega arith) in omega arith
    ]

range_rises : (end : ℕ) → IsStrictlyIncreasing (range_with_len 0 end)
range_rises end k lt =
    let size = length-range_with_len 0 end in
    let one = get_or-range_with_len 0 end k 0 (omega arith) in
    let two = get_or-range_with_len 0 end (k + 1) 0 (omega arith) in
    omega arith

in_range : (end row : ℕ) → row < end → Contains (range_with_len 0 end) row
in_range end row lt = (row, let size = length-range_with_len 0 end in omega arith, omega (arith, get_or-range_with_len 0 end row row lt))

module _ (grid : Layout) (columns labels : List ℕ) (count end : ℕ) (state : AreLabels grid columns count labels) (rising : IsStrictlyIncreasing columns)
    (live : (row column : ℕ) → IsLive grid row column → Contains columns column)
    (beyond : (row column : ℕ) → Contains columns column → IsLive grid row column → row < end) where
  abbrev of_label : ℕ → List ℕ
  of_label k = filter (λ c. eqb (part_of labels c) (k + 1)) columns

  abbrev rows_of_label : ℕ → List ℕ
  rows_of_label k = filter (λ r. eqb (row_part grid labels r) (k + 1)) (range_with_len 0 end)

  abbrev class : ℕ → PartCols
  class k = record { columns = of_label k; rows = rows_of_label k }

  in_class : (k c : ℕ) → Contains columns c → part_of labels c ≡ k + 1 → Contains (of_label k) c
  in_class k c h e = in_filter (λ c. eqb (part_of labels c) (k + 1)) columns c h (eq-eqb (part_of labels c) (k + 1) e)

  of_class : (k c : ℕ) → Contains (of_label k) c → Contains columns c × (part_of labels c ≡ k + 1)
  of_class k c h = let f = from_filter (λ c. eqb (part_of labels c) (k + 1)) columns c h in (f.0, eqb-true (part_of labels c) (k + 1) f.1)

  class_some : (k : ℕ) → k < count → 0 < length (of_label k)
  class_some k lt = let found = state.each (k + 1) (omega arith) (omega arith) in some_in (of_label k) (get_or columns found.0 0) (in_class k (get_or columns found.0 0) (at_place columns found.0 0 found.1) found.2)

  class_rises : (k : ℕ) → IsStrictlyIncreasing (of_label k)
  class_rises k = IsStrictlyIncreasing-filter (λ c. eqb (part_of labels c) (k + 1)) columns rising

  least_in : (k : ℕ) → k < count → Contains columns (least_of (class k)) × (part_of labels (least_of (class k)) ≡ k + 1)
  least_in k lt = of_class k (get_or (of_label k) 0 0) (at_place (of_label k) 0 0 (class_some k lt))

  -- the first of a row's live columns
  first_live : (k row : ℕ) (cs : List ℕ) → live_columns grid row ≡ cs → first_part labels cs ≡ k + 1 → (c : ℕ) × IsLive grid row c × (part_of labels c ≡ k + 1)
  first_live k row [] is e = absurd (omega (arith, e))
  first_live k row (c ∷ cs) is e = (c, from_row grid row c (subst (λ (xs : List ℕ). Contains xs c) (sym is) (at_head c cs)), e)

  first_same : (k row c : ℕ) (cs : List ℕ) → live_columns grid row ≡ cs → IsLive grid row c → part_of labels c ≡ k + 1 → first_part labels cs ≡ k + 1
  first_same k row c [] is h e = absurd (none_in c (subst (λ (xs : List ℕ). Contains xs c) is (in_row grid row c h)))
  first_same k row c (f ∷ cs) is h e =
      let first : IsLive grid row f = from_row grid row f (subst (λ (xs : List ℕ). Contains xs f) (sym is) (at_head f cs)) in
      state.closed c f (row, h, first) (omega (arith, e)) ∙ e

  class_is_part : (k : ℕ) → k < count → IsPart grid columns (class k)
  class_is_part k lt = record {
    some = class_some k lt;
    columns_rise = class_rises k;
    linked = λ c. (
      (λ h. let m = of_class k c h in let l = least_in k lt in let one = l.1 in let two = m.1 in (m.0, state.linked (least_of (class k)) c (omega arith) (omega arith))),
      (λ h. let l = least_in k lt in let one = l.1 in in_class k c h.0 (linked_label grid (part_of labels) state.closed (least_of (class k)) c h.1 (omega arith) ∙ l.1)),
    );
    rows_rise = IsStrictlyIncreasing-filter (λ r. eqb (row_part grid labels r) (k + 1)) (range_with_len 0 end) (range_rises end);
    rows = λ r. (
      (λ h.
          let f = from_filter (λ r. eqb (row_part grid labels r) (k + 1)) (range_with_len 0 end) r h in
          let first = first_live k r (live_columns grid r) refl (eqb-true (row_part grid labels r) (k + 1) f.1) in
          (first.0, in_class k first.0 (live r first.0 first.1) first.2, first.1)),
      (λ h.
          let m = of_class k h.0 h.1 in
          in_filter (λ r. eqb (row_part grid labels r) (k + 1)) (range_with_len 0 end) r (in_range end r (beyond r h.0 m.0 h.2))
          (eq-eqb (row_part grid labels r) (k + 1) (first_same k r h.0 (live_columns grid r) refl h.2 m.1))),
    );
  }

  -- a column's label names its class
  has_class : (c : ℕ) → Contains columns c → (k : ℕ) × (k < count) × Contains (of_label k) c
  has_class c h =
      let here : get_or columns h.0 0 ≡ c = get_or_default columns h.0 0 c h.1 ∙ h.2 in
      let some : 0 < part_of labels c = subst (λ x. 0 < part_of labels x) here (state.labelled h.0 h.1) in
      let most = state.bound c in
      (part_of labels c - 1, omega arith, in_class (part_of labels c - 1) c h (omega arith))

  classes_rise : (one other : ℕ) → one < other → other < count → least_of (class one) < least_of (class other)
  classes_rise one other lt below =
      let x = least_of (class other) in
      let l = least_in other below in
      let at = l.0 in
      let here : get_or columns at.0 0 ≡ x = get_or_default columns at.0 0 x at.1 ∙ at.2 in
      let label : part_of labels (get_or columns at.0 0) ≡ other + 1 = ap (part_of labels) here ∙ l.1 in
      let found = state.before at.0 (one + 1) at.1 (omega arith) (omega arith) in
      let place : found.0 < length columns = let p = found.1 in let q = at.1 in omega arith in
      let less : get_or columns found.0 0 < get_or columns at.0 0 = AllPairs-from_increasing columns rising found.0 at.0 0 found.1 at.1 in
      let least : least_of (class one) ≤ get_or columns found.0 0 = first_least (of_label one) (get_or columns found.0 0) (class_rises one) (in_class one (get_or columns found.0 0) (at_place columns found.0 0 place) found.2) in
      omega arith

  module _ (parts filled finished : List PartCols) (empty : parts ≡ replicate count no_part) (added : ColumnsAdded (part_of labels) columns parts filled) (rows_added : RowsAdded (row_part grid labels) end filled finished) where
    size : length finished ≡ count
    size = rows_added.size ∙ added.size ∙ ap length empty ∙ length-replicate count no_part

    is_class : (k : ℕ) → k < count → part_at finished k ≡ class k
    is_class k lt =
        let none : part_at parts k ≡ no_part = ap (λ (ps : List PartCols). part_at ps k) empty ∙ get_or-replicate count k no_part (record { columns = []; rows = [] }) lt in
        let begun : length parts ≡ count = ap length empty ∙ length-replicate count no_part in
        let one = added.each k (omega arith) ∙ ap (λ (p : PartCols). record p { columns = p.columns ++ of_label k }) none in
        let more = added.size in
        rows_added.each k (omega arith) ∙ ap (λ (p : PartCols). record p { rows = p.rows ++ rows_of_label k }) one

    pub are_parts : AreParts grid columns finished
    are_parts = record {
      each = λ k lt. let s = size in let below : k < count = omega arith in subst (λ (p : PartCols). IsPart grid columns p) (sym (is_class k below)) (class_is_part k below);
      all = λ c h. let found = has_class c h in let s = size in let p = found.1 in (found.0, omega arith, subst (λ (p : PartCols). Contains p.columns c) (sym (is_class found.0 found.1)) found.2);
      ordered = λ one other lt below.
          let s = size in
          let there : other < count = omega arith in
          let here : one < count = omega arith in
          subst (λ (p : PartCols). least_of p < least_of (part_at finished other)) (sym (is_class one here))
          (subst (λ (p : PartCols). least_of (class one) < least_of p) (sym (is_class other there)) (classes_rise one other lt there));
    }

-- labels of columns are below the end of the labels
pub labels_within : (grid : Layout) (columns labels : List ℕ) (count : ℕ) → AreLabels grid columns count labels → (parts : List PartCols) → parts ≡ replicate count no_part → (j : ℕ) (d : ℕ) → j < length columns → (0 < part_of labels (get_or columns j d)) × (part_of labels (get_or columns j d) ≤ length parts)
labels_within grid columns labels count state parts empty j d lt =
    let same : get_or columns j 0 ≡ get_or columns j d = get_or_default columns j 0 d lt in
    let some : 0 < part_of labels (get_or columns j d) = subst (λ x. 0 < part_of labels x) same (state.labelled j lt) in
    let most = state.bound (get_or columns j d) in
    let begun : length parts ≡ count = ap length empty ∙ length-replicate count no_part in
    (some, omega arith)

-- a row's label is no greater than those of columns
pub first_few : (labels : List ℕ) (n : ℕ) → ((column : ℕ) → part_of labels column ≤ n) → (columns : List ℕ) → first_part labels columns ≤ n
first_few labels n few [] = omega arith
first_few labels n few (column ∷ columns) = few column

-- what is read and written at the ends
module _ (grid : Layout) (given columns : List ℕ) (is : columns ≡ given) (live : (row column : ℕ) → IsLive grid row column → Contains given column) where
  here : (row column : ℕ) → IsLive grid row column → Contains columns column
  here row column h = subst (λ (xs : List ℕ). Contains xs column) (sym is) (live row column h)

  pub ends_have_room : (columns_end rows_end : ℕ) → All (λ column. column < grid.columns) given → ((column : ℕ) → Contains columns column → column < columns_end) → ((end : ℕ) → All (λ column. column < end) columns → columns_end ≤ end)
      → ((row column : ℕ) → Contains columns column → IsLive grid row column → row < rows_end) → rows_end ≤ grid.rows → HasRoom grid columns_end rows_end
  ends_have_room columns_end rows_end within beyond least rows_beyond rows_in = record {
    columns_in = least grid.columns (subst (λ (xs : List ℕ). All (λ column. column < grid.columns) xs) (sym is) within);
    rows_in = rows_in;
    live = λ row column h. (rows_beyond row column (here row column h) h, beyond column (here row column h));
  }

  module _ (count : ℕ) (made labels : List ℕ) (same : labels ≡ made) (state : AreLabels grid columns count made) where
    pub labels_are : AreLabels grid columns count labels
    labels_are = subst (λ (ls : List ℕ). AreLabels grid columns count ls) (sym same) state

    pub columns_labelled : All (λ column. column < length labels) columns
    columns_labelled k d lt =
        let read : get_or columns k 0 ≡ get_or columns k d = get_or_default columns k 0 d lt in
        labelled_within labels (get_or columns k d) (subst (λ x. 0 < part_of labels x) read (labels_are.labelled k lt))

    pub live_labelled : (row column : ℕ) → IsLive grid row column → column < length labels
    live_labelled row column h =
        let place = here row column h in
        let read : get_or columns place.0 0 ≡ column = get_or_default columns place.0 0 column place.1 ∙ place.2 in
        labelled_within labels column (subst (λ x. 0 < part_of labels x) read (labels_are.labelled place.0 place.1))

-- the whole split
pub parts_are : (grid : Layout) (given columns made labels labels' : List ℕ) (count end : ℕ) (lent filled lent' finished parts : List PartCols) → columns ≡ given → IsStrictlyIncreasing given
    → ((row column : ℕ) → IsLive grid row column → Contains given column) → ((row column : ℕ) → Contains columns column → IsLive grid row column → row < end)
    → AreLabels grid columns count made → labels ≡ made → labels' ≡ made → lent ≡ replicate count no_part → ColumnsAdded (part_of labels) columns lent filled
    → lent' ≡ filled → RowsAdded (row_part grid labels') end lent' finished → parts ≡ finished → AreParts grid given parts
parts_are grid given columns made labels labels' count end lent filled lent' finished parts is rising live beyond state same same' none added lent_is rows_added parts_is =
    let added : ColumnsAdded (part_of made) columns lent filled = subst (λ (ls : List ℕ). ColumnsAdded (part_of ls) columns lent filled) same added in
    let rows_added : RowsAdded (row_part grid made) end lent' finished = subst (λ (ls : List ℕ). RowsAdded (row_part grid ls) end lent' finished) same' rows_added in
    let rows_added : RowsAdded (row_part grid made) end filled finished = subst (λ (ps : List PartCols). RowsAdded (row_part grid made) end ps finished) lent_is rows_added in
    subst (λ (ps : List PartCols). AreParts grid given ps) (sym parts_is)
    (subst (λ (cs : List ℕ). AreParts grid cs finished) is
    (are_parts grid columns made count end state (subst (λ (cs : List ℕ). IsStrictlyIncreasing cs) (sym is) rising) (here grid given columns is live) beyond lent filled finished none added rows_added))
