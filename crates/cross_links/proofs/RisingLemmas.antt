-- Numbers along a row or a column rise.
use Rattle.std.proofs.Common.{◌≡◌, ℕ, ◌+◌, ◌-◌, ◌<◌, zero, suc, List, length, filter, Bool, not, eqb, true, get_or, arith, subst, All, inl, inr}
use Rattle.std.specs.List.{AllPairs, list_any}
use Rattle.std.specs.List.Sorted.{IsStrictlyIncreasing}
use Rattle.std.proofs.lemmas.Bool.{eqb-true}
use Rattle.std.proofs.lemmas.List.{get_or-map, length-map}
use Rattle.std.proofs.lemmas.List.Elements.{All-filter, All-map, All-weaker, filter_passes}
use Rattle.std.proofs.lemmas.List.Kept.{AllPairs-filter}
use Rattle.cross_links.specs.declared.entry.Entry.{Entry}
use Rattle.cross_links.specs.Entries.{IsBefore, AreRising, columns_in, rows_in}
use Rattle.cross_links.specs.Layout.{linked_among}

IsBefore-trans : (a b c : Entry) → IsBefore a b → IsBefore b c → IsBefore a c
IsBefore-trans a b c (inl ab) (inl bc) = inl (omega arith)
IsBefore-trans a b c (inl ab) (inr bc) = inl (omega arith)
IsBefore-trans a b c (inr ab) (inl bc) = inl (omega arith)
IsBefore-trans a b c (inr ab) (inr bc) = inr (omega arith, omega arith)

-- each entry is before all later ones
before_later : (entries : List Entry) (d : Entry) (i n : ℕ) → AreRising entries → i + n + 1 < length entries → IsBefore (get_or entries i d) (get_or entries (i + n + 1) d)
before_later entries d i zero rising lt = let same : i + 0 + 1 ≡ i + 1 = omega arith in rw same (rising i d (omega arith))
before_later entries d i (suc n) rising lt =
    let shift : i + suc n + 1 ≡ i + n + 1 + 1 = omega arith in
    rw shift (IsBefore-trans _ (get_or entries (i + n + 1) d) _ (before_later entries d i n rising (omega arith)) (rising (i + n + 1) d (omega arith)))

pub AllPairs-rising : (entries : List Entry) → AreRising entries → AllPairs IsBefore entries
AllPairs-rising entries rising i j d lt within =
    let sum : i + (j - i - 1) + 1 ≡ j = omega arith in
    subst (λ k. IsBefore (get_or entries i d) (get_or entries k d)) sum (before_later entries d i (j - i - 1) rising (omega arith))

-- the columns of a row rise
pub columns_rise : (unlinked : List ℕ) (entries : List Entry) (row : ℕ) → AreRising entries → IsStrictlyIncreasing (columns_in (linked_among unlinked entries) row)
columns_rise unlinked entries row rising k lt =
    let none : Entry = record { row = 0; column = 0 } in
    let within : k + 1 < length kept = omega (arith, length-map kept (λ (e : Entry). e.column)) in
    rw (get_or-map (λ (e : Entry). e.column) kept k none 0 (omega arith), get_or-map (λ (e : Entry). e.column) kept (k + 1) none 0 within)
    (elim (pairs k (k + 1) none (omega arith) within) [
      | inl above ↦ absurd (omega (arith, eqb-true _ row (passes k none (omega arith)), eqb-true _ row (passes (k + 1) none within)))
      | inr right ↦ right.1
    ])
  where
    kept : List Entry
    kept = filter (λ e. eqb e.row row) (linked_among unlinked entries)

    pairs : AllPairs IsBefore kept
    pairs = AllPairs-filter IsBefore (λ (e : Entry). eqb e.row row) (linked_among unlinked entries) (AllPairs-filter IsBefore (λ e. not (list_any (λ r. eqb r e.row) unlinked)) entries (AllPairs-rising entries rising))

    passes : All (λ (e : Entry). eqb e.row row ≡ true) kept
    passes = filter_passes (λ (e : Entry). eqb e.row row) (linked_among unlinked entries)

-- the rows of a column rise
pub rows_rise : (unlinked : List ℕ) (entries : List Entry) (column : ℕ) → AreRising entries → IsStrictlyIncreasing (rows_in (linked_among unlinked entries) column)
rows_rise unlinked entries column rising k lt =
    let none : Entry = record { row = 0; column = 0 } in
    let within : k + 1 < length kept = omega (arith, length-map kept (λ (e : Entry). e.row)) in
    rw (get_or-map (λ (e : Entry). e.row) kept k none 0 (omega arith), get_or-map (λ (e : Entry). e.row) kept (k + 1) none 0 within)
    (elim (pairs k (k + 1) none (omega arith) within) [
      | inl above ↦ above
      | inr right ↦ absurd (omega (arith, eqb-true _ column (passes k none (omega arith)), eqb-true _ column (passes (k + 1) none within)))
    ])
  where
    kept : List Entry
    kept = filter (λ e. eqb e.column column) (linked_among unlinked entries)

    pairs : AllPairs IsBefore kept
    pairs = AllPairs-filter IsBefore (λ (e : Entry). eqb e.column column) (linked_among unlinked entries) (AllPairs-filter IsBefore (λ e. not (list_any (λ r. eqb r e.row) unlinked)) entries (AllPairs-rising entries rising))

    passes : All (λ (e : Entry). eqb e.column column ≡ true) kept
    passes = filter_passes (λ (e : Entry). eqb e.column column) (linked_among unlinked entries)

-- the columns of a row and the rows of a column are columns and rows of the grid
module _ (unlinked : List ℕ) (entries : List Entry) (rows columns : ℕ) (within : All (λ (e : Entry). (e.row < rows) × (e.column < columns)) entries) where
  Within : Entry → Type 0
  Within e = (e.row < rows) × (e.column < columns)

  some_within : (p : Entry → Bool) → All Within (filter p (linked_among unlinked entries))
  unfolding Within
  some_within p = All-filter p Within (linked_among unlinked entries) (All-filter (λ e. not (list_any (λ r. eqb r e.row) unlinked)) Within entries within)

  pub columns_within : (row : ℕ) → All (λ c. c < columns) (columns_in (linked_among unlinked entries) row)
  unfolding Within
  columns_within row =
      All-map (λ c. c < columns) (λ (e : Entry). e.column) (filter (λ e. eqb e.row row) (linked_among unlinked entries))
      (All-weaker Within (λ e. e.column < columns) (λ e both. both.1) (filter (λ e. eqb e.row row) (linked_among unlinked entries)) (some_within (λ e. eqb e.row row)))

  pub rows_within : (column : ℕ) → All (λ r. r < rows) (rows_in (linked_among unlinked entries) column)
  unfolding Within
  rows_within column =
      All-map (λ r. r < rows) (λ (e : Entry). e.row) (filter (λ e. eqb e.column column) (linked_among unlinked entries))
      (All-weaker Within (λ e. e.row < rows) (λ e both. both.0) (filter (λ e. eqb e.column column) (linked_among unlinked entries)) (some_within (λ e. eqb e.column column)))
