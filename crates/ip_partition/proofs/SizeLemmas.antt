-- The ends of columns and rows.
use Rattle.std.proofs.Common.{◌≡◌, ◌⊎◌, inl, inr, ◌+◌, ◌-◌, ◌<◌, ◌≤◌, ◌^◌, ℕ, None, Some, List, [], ◌∷◌, length, get_or, max, sym, ap, ◌∙◌, subst, arith}
use Rattle.std.specs.List.{All, Contains, slice_get}
use Rattle.std.specs.List.Sorted.{IsStrictlyIncreasing}
use Rattle.std.specs.Ordering.{ord_max, nat_cmp}
use Rattle.std.proofs.lemmas.Bool.{cases_lt}
use Rattle.std.proofs.lemmas.List.{get_or_default}
use Rattle.std.proofs.lemmas.List.Elements.{All-head, All-tail}
use Rattle.std.proofs.lemmas.List.Kept.{AllPairs-from_increasing}
use Rattle.std.proofs.lemmas.Option.{get_or_from_slice_get, slice_get-get_or, slice_get_past}
use Rattle.cross_links.specs.Layout.{Layout, live_rows}
use Rattle.ip_partition.specs.Linked.{IsLive}
use Rattle.ip_partition.proofs.Among.{head_or_behind, in_column, none_in}

-- the last of rising numbers is the greatest
pub last_greatest : (xs : List ℕ) (last x : ℕ) → IsStrictlyIncreasing xs → Some last ≡ slice_get xs (length xs - 1) → Contains xs x → x < last + 1
last_greatest xs last x rising is h =
    let here : get_or xs h.0 0 ≡ x = get_or_default xs h.0 0 x h.1 ∙ h.2 in
    let end : get_or xs (length xs - 1) 0 ≡ last = get_or_from_slice_get xs (length xs - 1) last 0 (sym is) in
    let below = h.1 in
    elim (cases_lt h.0 (length xs - 1)) [
      | inl before ↦ let less : get_or xs h.0 0 < get_or xs (length xs - 1) 0 = AllPairs-from_increasing xs rising h.0 (length xs - 1) 0 before (omega arith) in omega arith
      | inr late ↦ let same : get_or xs h.0 0 ≡ get_or xs (length xs - 1) 0 = ap (λ k. get_or xs k 0) (omega arith) in omega arith
    ]

pub last_within : (xs : List ℕ) (last end : ℕ) → Some last ≡ slice_get xs (length xs - 1) → All (λ x. x < end) xs → last + 1 ≤ end
last_within xs last end is below =
    elim (cases_lt 0 (length xs)) [
      | inl some ↦
          let here : get_or xs (length xs - 1) 0 ≡ last = get_or_from_slice_get xs (length xs - 1) last 0 (sym is) in
          let lt : get_or xs (length xs - 1) 0 < end = below (length xs - 1) 0 (omega arith) in
          omega arith
      | inr none ↦ let past : slice_get xs (length xs - 1) ≡ None = slice_get_past xs (length xs - 1) (omega arith) in cc
    ]

pub last_none : (xs : List ℕ) (x : ℕ) → None ≡ slice_get xs (length xs - 1) → Contains xs x → x < 0
last_none xs x is h =
    let below = h.1 in
    let some : slice_get xs (length xs - 1) ≡ Some (get_or xs (length xs - 1) 0) = slice_get-get_or xs (length xs - 1) 0 (omega arith) in
    cc

pub greater_is : (a b : ℕ) → ord_max nat_cmp a b ≡ max a b
greater_is a b = grind arith

-- the rows of a column are below the end, but for a rest
pub record IsBeyond (grid : Layout) (column end : ℕ) (rest : List ℕ) : Type 0 where
  pub beyond : (row : ℕ) → IsLive grid row column → (row < end) ⊎ Contains rest row
  pub within : end ≤ grid.rows
  pub small : end ≤ 2 ^ 32
  pub left : All (λ row. row < grid.rows) rest

pub beyond_begins : (grid : Layout) (column : ℕ) (rest : List ℕ) → rest ≡ live_rows grid column → All (λ row. row < grid.rows) rest → IsBeyond grid column 0 rest
beyond_begins grid column rest is left = record {
  beyond = λ row live. inr (subst (λ (xs : List ℕ). Contains xs row) (sym is) (in_column grid row column live));
  within = omega arith;
  small = omega arith;
  left = left;
}

pub beyond_more : (grid : Layout) (column end row : ℕ) (before rest : List ℕ) → before ≡ row ∷ rest → row < 2 ^ 32 → IsBeyond grid column end before → IsBeyond grid column (max end (row + 1)) rest
beyond_more grid column end row before rest is fits state =
    let left = subst (λ (xs : List ℕ). All (λ row. row < grid.rows) xs) is state.left in
    let here : row < grid.rows = All-head (λ row. row < grid.rows) row rest left in
    let most = state.within in
    let few = state.small in
    record {
      beyond = λ other live. elim (state.beyond other live) [
        | inl lt ↦ inl (omega arith)
        | inr h ↦ elim (head_or_behind row rest other (subst (λ (xs : List ℕ). Contains xs other) is h)) [
          | inl same ↦ inl (omega arith)
          | inr behind ↦ inr behind
        ]
      ];
      within = omega arith;
      small = omega arith;
      left = All-tail (λ row. row < grid.rows) row rest left;
    }

pub beyond_all : (grid : Layout) (column end : ℕ) (rest : List ℕ) → rest ≡ [] → IsBeyond grid column end rest → (row : ℕ) → IsLive grid row column → row < end
beyond_all grid column end rest none state row live = elim (state.beyond row live) [
  | inl lt ↦ lt
  | inr h ↦ absurd (none_in row (subst (λ (xs : List ℕ). Contains xs row) none h))
]

-- the rows of the first columns are below the end
abbrev pub AreBeyond : Layout → List ℕ → ℕ → ℕ → Type 0
AreBeyond grid columns i end = (k row : ℕ) → k < i → IsLive grid row (get_or columns k 0) → row < end

pub ends_more : (grid : Layout) (columns : List ℕ) (i end new : ℕ) → AreBeyond grid columns i end → ((row : ℕ) → IsLive grid row (get_or columns i 0) → row < new) → AreBeyond grid columns (i + 1) (max end new)
ends_more grid columns i end new before here k row lt live = elim (cases_lt k i) [
  | inl early ↦ let less = before k row early live in omega arith
  | inr late ↦
      let same : k ≡ i = omega arith in
      let less = here row (subst (λ j. IsLive grid row (get_or columns j 0)) same live) in
      omega arith
]

pub ends_all : (grid : Layout) (columns : List ℕ) (i end : ℕ) → length columns ≤ i → AreBeyond grid columns i end → (row column : ℕ) → Contains columns column → IsLive grid row column → row < end
ends_all grid columns i end over before row column h live =
    let below = h.1 in
    let here : get_or columns h.0 0 ≡ column = get_or_default columns h.0 0 column h.1 ∙ h.2 in
    before h.0 row (omega arith) (subst (λ x. IsLive grid row x) (sym here) live)
