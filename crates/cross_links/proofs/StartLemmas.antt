-- Where the entries of each row begin.
use Rattle.std.proofs.Common.{◌≡◌, ℕ, ◌+◌, ◌-◌, ◌<◌, ◌≤◌, zero, suc, List, length, slice_index, arith, subst, inl, inr}
use Rattle.std.proofs.lemmas.Bool.{cases_lt}
use Rattle.cross_links.specs.declared.entry.Entry.{Entry}
use Rattle.cross_links.specs.Entries.{AreRising}
use Rattle.cross_links.specs.Linkage.{entry_at, IsStart, AreStarts}

-- rows never fall along the entries
pub rows_climb : (entries : List Entry) (i n : ℕ) → AreRising entries → i + n < length entries → (entry_at entries i).row ≤ (entry_at entries (i + n)).row
rows_climb entries i zero rising lt = let same : i + 0 ≡ i = omega arith in rw same (omega arith)
rows_climb entries i (suc n) rising lt =
    let before = rows_climb entries i n rising (omega arith) in
    let next : i + suc n ≡ i + n + 1 = omega arith in
    rw next (elim (rising (i + n) (record { row = 0; column = 0 }) (omega arith)) [ inl down ↦ omega arith | inr right ↦ omega arith ])

pub row_below : (entries : List Entry) (i j : ℕ) → AreRising entries → i ≤ j → j < length entries → (entry_at entries i).row ≤ (entry_at entries j).row
row_below entries i j rising le lt =
    let sum : i + (j - i) ≡ j = omega arith in
    subst (λ k. (entry_at entries i).row ≤ (entry_at entries k).row) sum (rows_climb entries i (j - i) rising (omega arith))

-- the next row begins where the entries are of this row no more
pub next_start : (entries : List Entry) (row start end : ℕ) → AreRising entries → IsStart entries row start → start ≤ end → end ≤ length entries
    → ((i : ℕ) → start ≤ i → i < end → (entry_at entries i).row ≡ row)
    → ((end < length entries → (entry_at entries end).row ≡ row → ⊥)) → IsStart entries (row + 1) end
next_start entries row start end rising begins le within here stops = record {
  within = within;
  below = λ i lt. elim (cases_lt i start) [
    | inl low ↦ omega (arith, begins.below i low)
    | inr high ↦ omega (arith, here i high lt)
  ];
  beyond = λ i high lt.
      let first = begins.beyond end le (omega arith) in
      let up = row_below entries end i rising high lt in
      elim (cases_lt row (entry_at entries end).row) [
        | inl more ↦ omega arith
        | inr same ↦ absurd (stops (omega arith) (omega arith))
      ];
}

-- an entry stands between its row's start and the next row's
pub start_before : (rows : ℕ) (entries : List Entry) (starts : List ℕ) (row i : ℕ) → AreStarts rows entries starts → row ≤ rows → i < length entries
    → row ≤ (entry_at entries i).row → slice_index starts row ≤ i
start_before rows entries starts row i begins le lt at_least = elim (cases_lt i (slice_index starts row)) [
  | inl low ↦ absurd (omega (arith, (begins.each row le).below i low))
  | inr high ↦ high
]

pub start_after : (rows : ℕ) (entries : List Entry) (starts : List ℕ) (row i : ℕ) → AreStarts rows entries starts → row ≤ rows → i < length entries
    → (entry_at entries i).row < row → i < slice_index starts row
start_after rows entries starts row i begins le lt below = elim (cases_lt i (slice_index starts row)) [
  | inl low ↦ low
  | inr high ↦ absurd (omega (arith, (begins.each row le).beyond i high lt))
]

-- the entries between a row's start and the next row's are the row's
pub row_between : (rows : ℕ) (entries : List Entry) (starts : List ℕ) (row i : ℕ) → AreStarts rows entries starts → row < rows
    → slice_index starts row ≤ i → i < slice_index starts (row + 1) → (i < length entries) × ((entry_at entries i).row ≡ row)
row_between rows entries starts row i begins lt from to =
    let next = begins.each (row + 1) (omega arith) in
    let here : i < length entries = omega (arith, next.within) in
    (here, omega (arith, next.below i to, (begins.each row (omega arith)).beyond i from here))

-- starts never fall
pub starts_rise : (rows : ℕ) (entries : List Entry) (starts : List ℕ) (row : ℕ) → AreStarts rows entries starts → row < rows
    → slice_index starts row ≤ slice_index starts (row + 1)
starts_rise rows entries starts row begins lt =
    let here = begins.each row (omega arith) in
    let next = begins.each (row + 1) (omega arith) in
    elim (cases_lt (slice_index starts (row + 1)) (slice_index starts row)) [
      | inl less ↦ absurd (omega (arith, here.below (slice_index starts (row + 1)) less, next.beyond (slice_index starts (row + 1)) (omega arith) (omega (arith, here.within))))
      | inr more ↦ more
    ]
