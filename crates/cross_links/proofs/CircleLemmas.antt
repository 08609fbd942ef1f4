-- What unlinking a row and linking it again leave of the circles.
use Rattle.std.proofs.Common.{◌≡◌, ℕ, ◌+◌, ◌-◌, ◌<◌, ◌≤◌, List, [], ◌∷◌, ◌++◌, length, slice_index, slice_index_or, take, drop, arith, sym, ◌∙◌, ap, subst, inl, inr}
use Rattle.std.proofs.lemmas.Bool.{cases_lt}
use Rattle.std.proofs.lemmas.List.{take_at, get_or_read}
use Rattle.cross_links.specs.declared.entry.Entry.{Entry}
use Rattle.cross_links.specs.Rings.{Stays, Undoable, Closed, AreInner, TakesOut, PutsBack}
use Rattle.cross_links.specs.Linkage.{entry_at, AreStarts, AreRows, AreCircles, places_off}
use Rattle.cross_links.proofs.LinkageLemmas.{Heads}
use Rattle.cross_links.proofs.RunLemmas.{Stays-falling, Stays-falling_out}
use Rattle.cross_links.proofs.StartLemmas.{start_before, start_after, row_between, starts_rise}

-- an entry stays where its row is none of the unlinked ones
pub Stays-places_off : (rows first : ℕ) (entries : List Entry) (starts unlinked : List ℕ) (i : ℕ) → AreStarts rows entries starts → AreRows rows unlinked
    → i < length entries → Stays unlinked (entry_at entries i).row → Stays (places_off first starts unlinked) (first + i)
Stays-places_off rows first entries starts [] i begins are lt stays = tt
Stays-places_off rows first entries starts (row ∷ unlinked) i begins are lt stays =
    let rest = Stays-places_off rows first entries starts unlinked i begins are.2 lt stays.1 in
    let from = slice_index starts row in
    let rise : slice_index starts row ≤ slice_index starts (row + 1) = starts_rise rows entries starts row begins are.0 in
    Stays-falling (first + from) (slice_index starts (row + 1) - from) (places_off first starts unlinked) (first + i)
    (elim (cases_lt row (entry_at entries i).row) [
      | inl above ↦ let high : slice_index starts (row + 1) ≤ i = start_before rows entries starts (row + 1) i begins (omega (arith, are.0)) lt (omega arith) in inr (omega arith)
      | inr below ↦ elim (cases_lt i from) [
        | inl low ↦ inl (omega arith)
        | inr high ↦ elim (cases_lt i (slice_index starts (row + 1))) [
          | inl inside ↦ absurd (stays.0 (sym (row_between rows entries starts row i begins are.0 high inside).1))
          | inr beyond ↦ inr (omega arith)
        ]
      ]
    ]) rest

-- and only there
pub Stays-unlinked : (rows first : ℕ) (entries : List Entry) (starts unlinked : List ℕ) (i : ℕ) → AreStarts rows entries starts → AreRows rows unlinked
    → i < length entries → Stays (places_off first starts unlinked) (first + i) → Stays unlinked (entry_at entries i).row
Stays-unlinked rows first entries starts [] i begins are lt stays = tt
Stays-unlinked rows first entries starts (row ∷ unlinked) i begins are lt stays =
    let rise = starts_rise rows entries starts row begins are.0 in
    let parts = Stays-falling_out (first + slice_index starts row) (slice_index starts (row + 1) - slice_index starts row) (places_off first starts unlinked) (first + i) stays in (
      (λ e.
          let after : slice_index starts row ≤ i = start_before rows entries starts row i begins (omega (arith, are.0)) lt (omega arith) in
          let before : i < slice_index starts (row + 1) = start_after rows entries starts (row + 1) i begins (omega (arith, are.0)) lt (omega arith) in
          elim parts.0 [ inl low ↦ absurd (omega arith) | inr high ↦ absurd (omega arith) ]),
      Stays-unlinked rows first entries starts unlinked i begins are.2 lt parts.1,
    )

-- the entries of a linked row are there, and are no heads
pub row_inner : (rows first : ℕ) (head : ℕ → ℕ) (entries : List Entry) (starts unlinked : List ℕ) (row : ℕ) → AreStarts rows entries starts → AreRows rows unlinked
    → Heads first (length entries) head → row < rows → Stays unlinked row
    → AreInner (first + length entries) head (places_off first starts unlinked) (first + slice_index starts row) (first + slice_index starts (row + 1))
row_inner rows first head entries starts unlinked row begins are heads lt stays x from to =
    let here = row_between rows entries starts row (x - first) begins lt (omega arith) (omega arith) in
    let place : first + (x - first) ≡ x = omega arith in (
      (
        omega (arith, here.0),
        subst (Stays (places_off first starts unlinked)) place
            (Stays-places_off rows first entries starts unlinked (x - first) begins are here.0 (subst (Stays unlinked) (sym here.1) stays)),
      ),
      (λ e. absurd (omega (arith, heads.entry (x - first) here.0, ap head place))),
    )

-- a row was unlinked
circles_less : (first count : ℕ) (head : ℕ → ℕ) (starts unlinked next back next' back' : List ℕ) (row from to : ℕ)
    → from ≡ first + slice_index starts row → to ≡ first + slice_index starts (row + 1)
    → AreInner (first + count) head (places_off first starts unlinked) (first + slice_index starts row) (first + slice_index starts (row + 1))
    → AreCircles (first + count) head (places_off first starts unlinked) next back → length next' ≡ length next → Closed next' back' → TakesOut from to next back next' back'
    → AreCircles (first + count) head (places_off first starts (row ∷ unlinked)) next' back'
unfolding TakesOut
circles_less first count head starts unlinked next back next' back' row from to from_is to_is inner circles same closed taken =
    let run : to - from ≡ slice_index starts (row + 1) - slice_index starts row = omega arith in
    record {
      count = same ∙ circles.count;
      closed = closed;
      undoable = rw (← run, ← from_is, ← circles.count) (taken head (places_off first starts unlinked) (rw (circles.count, from_is, to_is) inner) (rw circles.count circles.undoable));
    }

-- a row was linked again
circles_more : (places first : ℕ) (head : ℕ → ℕ) (starts unlinked next back next' back' : List ℕ) (row from to : ℕ)
    → from ≡ first + slice_index starts row → to ≡ first + slice_index starts (row + 1)
    → AreCircles places head (places_off first starts (row ∷ unlinked)) next back → length next' ≡ length next → Closed next' back' → PutsBack from to next back next' back'
    → AreCircles places head (places_off first starts unlinked) next' back'
unfolding PutsBack
circles_more places first head starts unlinked next back next' back' row from to from_is to_is circles same closed put =
    let run : to - from ≡ slice_index starts (row + 1) - slice_index starts row = omega arith in
    record {
      count = same ∙ circles.count;
      closed = closed;
      undoable = rw (← circles.count) (put head (places_off first starts unlinked) (rw (run, from_is, circles.count) circles.undoable));
    }

-- the same of what lists hold before and after the writes
pub circles_unlinked : (first count : ℕ) (head : ℕ → ℕ) (starts unlinked unlinked' next back lent lent_back written written_back next' back' : List ℕ) (row from to : ℕ)
    → unlinked' ≡ row ∷ unlinked → from ≡ first + slice_index starts row → to ≡ first + slice_index starts (row + 1)
    → AreInner (first + count) head (places_off first starts unlinked) (first + slice_index starts row) (first + slice_index starts (row + 1))
    → AreCircles (first + count) head (places_off first starts unlinked) next back
    → lent ≡ next → lent_back ≡ back → length written ≡ length lent → Closed written written_back → TakesOut from to lent lent_back written written_back
    → next' ≡ written → back' ≡ written_back
    → AreCircles (first + count) head (places_off first starts unlinked') next' back'
circles_unlinked first count head starts unlinked unlinked' next back lent lent_back written written_back next' back' row from to
    now from_is to_is inner circles nexts backs same closed taken stored stored_back =
    rw (now, stored, stored_back)
    (circles_less first count head starts unlinked next back written written_back row from to from_is to_is inner circles (same ∙ ap length nexts) closed
    (rw (← nexts, ← backs) taken))

pub circles_linked : (places first : ℕ) (head : ℕ → ℕ) (starts unlinked unlinked' next back lent lent_back written written_back next' back' : List ℕ) (row from to : ℕ)
    → unlinked ≡ row ∷ unlinked' → from ≡ first + slice_index starts row → to ≡ first + slice_index starts (row + 1)
    → AreCircles places head (places_off first starts unlinked) next back
    → lent ≡ next → lent_back ≡ back → length written ≡ length lent → Closed written written_back → PutsBack from to lent lent_back written written_back
    → next' ≡ written → back' ≡ written_back
    → AreCircles places head (places_off first starts unlinked') next' back'
circles_linked places first head starts unlinked unlinked' next back lent lent_back written written_back next' back' row from to
    before from_is to_is circles nexts backs same closed put stored stored_back =
    rw (stored, stored_back)
    (circles_more places first head starts unlinked' next back written written_back row from to from_is to_is (subst (λ rows. AreCircles places head (places_off first starts rows) next back) before circles) (same ∙ ap length nexts) closed
    (rw (← nexts, ← backs) put))

-- what a list holds after a slice of it was written whole
pub stored : (n : ℕ) (written before : List ℕ) → length written ≡ n → take n (written ++ drop (length written) before) ≡ written
stored n written before is = take_at written (drop (length written) before) n is

-- a row's entries are those from its start up to the next row's, which were read
pub record IsRun (entries : List Entry) (starts : List ℕ) (row from to : ℕ) : Type 0 where
  pub from_is : from ≡ slice_index starts row
  pub to_is : to ≡ slice_index starts (row + 1)
  pub order : from ≤ to
  pub within : to ≤ length entries

pub run_read : (rows : ℕ) (entries : List Entry) (starts : List ℕ) (row from to : ℕ) → AreStarts rows entries starts → row < rows
    → from ≡ slice_index_or starts row from → to ≡ slice_index_or starts (row + 1) to → IsRun entries starts row from to
run_read rows entries starts row from to begins lt from_read to_read =
    let from_at : from ≡ slice_index starts row = get_or_read starts row from (omega (arith, begins.count)) from_read 0 in
    let to_at : to ≡ slice_index starts (row + 1) = get_or_read starts (row + 1) to (omega (arith, begins.count)) to_read 0 in
    record {
      from_is = from_at;
      to_is = to_at;
      order = omega (arith, starts_rise rows entries starts row begins lt);
      within = omega (arith, (begins.each (row + 1) (omega arith)).within);
    }

-- all entries were linked
pub circles_built : (places : ℕ) (head : ℕ → ℕ) (lent written written_back next' back' : List ℕ) → length lent ≡ places → length written ≡ length lent
    → Closed written written_back → Undoable places head [] written written_back → next' ≡ written → back' ≡ written_back → AreCircles places head [] next' back'
circles_built places head lent written written_back next' back' count same closed undoable stored stored_back =
    rw (stored, stored_back) (record { count = same ∙ count; closed = closed; undoable = undoable })
