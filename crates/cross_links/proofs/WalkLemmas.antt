-- What a step along a circle gives.
use Rattle.std.proofs.Common.{◌≡◌, ℕ, ◌+◌, ◌-◌, ◌<◌, ◌≤◌, zero, suc, List, [], ◌∷◌, length, slice_index, slice_index_or, map, filter, drop, Bool, true, false, not, eqb, cond, arith, refl, sym, ◌∙◌, ap, ap₂, subst, inl, inr}
use Rattle.std.specs.List.{list_any}
use Rattle.std.proofs.lemmas.Bool.{cases_lt, lt-ltb, le-ltb, eqb-true, eq-eqb, or_parts, true≢false}
use Rattle.std.proofs.lemmas.List.{drop_more, drop_all, get_or_read}
use Rattle.cross_links.specs.declared.entry.Entry.{Entry}
use Rattle.cross_links.specs.declared.line.Line.{Line}
use Rattle.cross_links.specs.declared.line.Line.TheVariants.{Row, Column}
use Rattle.cross_links.specs.Layout.{Layout, linked_among}
use Rattle.cross_links.specs.Rings.{Stays, There, Rings}
use Rattle.cross_links.specs.Linkage.{entry_at, row_head, column_head, AreStarts, AreRows, AreFitting, AreCircles, places_off}
use Rattle.cross_links.specs.Walks.{HasLine, head_of, is_on, number_on, numbers, first_place, rest_from, rest_behind, IsOnLine}
use Rattle.cross_links.proofs.LayoutLemmas.{none_is}
use Rattle.cross_links.proofs.LinkageLemmas.{Heads, row_head-entry, column_head-entry, fitting_rows, fitting_columns}
use Rattle.cross_links.proofs.RunLemmas.{Stays-falling, Undoable-rings}
use Rattle.cross_links.proofs.CircleLemmas.{Stays-places_off, Stays-unlinked}

-- a row that no unlinked row equals stays
stays_is : (unlinked : List ℕ) (row : ℕ) → list_any (λ r. eqb r row) unlinked ≡ false → Stays unlinked row
stays_is [] row none = tt
stays_is (r ∷ unlinked) row none =
    let parts = or_parts (eqb r row) (list_any (λ q. eqb q row) unlinked) none in
    ((λ e. true≢false (sym (eq-eqb r row e) ∙ parts.0)), stays_is unlinked row parts.1)

-- an entry that is not live, or elsewhere, gives no number
numbers-other : (grid : Layout) (line : Line) (entry : Entry) (entries : List Entry) → (is_on line entry ≡ true → Stays grid.unlinked entry.row → ⊥)
    → numbers grid line (entry ∷ entries) ≡ numbers grid line entries
numbers-other grid line entry entries out = by_tests (list_any (λ r. eqb r entry.row) grid.unlinked) (is_on line entry) refl refl
  where
    rest : List Entry
    rest = linked_among grid.unlinked entries

    by_tests : (gone on : Bool) → list_any (λ r. eqb r entry.row) grid.unlinked ≡ gone → is_on line entry ≡ on
        → map (number_on line) (filter (is_on line) (cond (not gone) (entry ∷ rest) rest)) ≡ map (number_on line) (filter (is_on line) rest)
    by_tests true on e f = refl
    by_tests false false e f = rw f refl
    by_tests false true e f = absurd (out f (stays_is grid.unlinked entry.row e))

-- a live entry in the row or column gives its number
numbers-live : (grid : Layout) (line : Line) (entry : Entry) (entries : List Entry) → is_on line entry ≡ true → Stays grid.unlinked entry.row
    → numbers grid line (entry ∷ entries) ≡ number_on line entry ∷ numbers grid line entries
numbers-live grid line entry entries on stays = rw (none_is grid.unlinked entry.row stays, on) refl

-- entries that give no number are passed over
numbers-skip : (grid : Layout) (line : Line) (a n : ℕ)
    → ((i : ℕ) → a ≤ i → i < a + n → i < length grid.entries → is_on line (entry_at grid.entries i) ≡ true → Stays grid.unlinked (entry_at grid.entries i).row → ⊥)
    → numbers grid line (drop a grid.entries) ≡ numbers grid line (drop (a + n) grid.entries)
numbers-skip grid line a zero out = ap (λ k. numbers grid line (drop k grid.entries)) (omega arith)
numbers-skip grid line a (suc n) out =
    let rest = numbers-skip grid line (a + 1) n (λ i from to. out i (omega arith) (omega arith)) in
    let shift : a + 1 + n ≡ a + suc n = omega arith in
    one ∙ rest ∙ ap (λ k. numbers grid line (drop k grid.entries)) shift
  where
    one : numbers grid line (drop a grid.entries) ≡ numbers grid line (drop (a + 1) grid.entries)
    one = elim (cases_lt a (length grid.entries)) [
      | inl lt ↦ rw (drop_more grid.entries a (record { row = 0; column = 0 }) lt)
          (numbers-other grid line (entry_at grid.entries a) (drop (a + 1) grid.entries) (out a (omega arith) (omega arith) lt))
      | inr ge ↦ rw (drop_all a grid.entries ge, drop_all (a + 1) grid.entries (omega arith)) refl
    ]

-- no head was ever taken out
heads_stay : (first : ℕ) (starts unlinked : List ℕ) (y : ℕ) → y < first → Stays (places_off first starts unlinked) y
heads_stay first starts [] y lt = tt
heads_stay first starts (row ∷ unlinked) y lt = Stays-falling _ _ (places_off first starts unlinked) y (inl (omega arith)) (heads_stay first starts unlinked y lt)

-- the number of a place in the walk, and what is left from it on
pub rest_from-live : (grid : Layout) (line : Line) (place : ℕ) → IsOnLine grid line place → first_place grid ≤ place
    → rest_from grid line place ≡ number_on line (entry_at grid.entries (place - first_place grid)) ∷ rest_behind grid line place
rest_from-live grid line place on le =
    let first = first_place grid in
    let entries = grid.entries in
    let behind : place - first_place grid + 1 ≡ place + 1 - first_place grid = omega arith in
    let lt : place - first_place grid < length grid.entries = omega (arith, on.within) in
    ap (λ b. cond b [] (numbers grid line (drop (place - first) entries))) (le-ltb place first le)
    ∙ ap (numbers grid line) (drop_more entries (place - first) (record { row = 0; column = 0 }) lt)
    ∙ numbers-live grid line (entry_at entries (place - first)) (drop (place - first + 1) entries) (on.on le) (on.live le)
    ∙ ap (λ k. number_on line (entry_at entries (place - first)) ∷ numbers grid line (drop k entries)) behind

pub rest_from-head : (grid : Layout) (line : Line) (place : ℕ) → place < first_place grid → rest_from grid line place ≡ []
rest_from-head grid line place lt = ap (λ b. cond b [] (numbers grid line (drop (place - first_place grid) grid.entries))) (lt-ltb place (first_place grid) lt)

-- a grid's row or column has its head below all entries
head_below : (grid : Layout) (line : Line) → HasLine grid line → head_of grid line < first_place grid
head_below grid (Row row) has = omega arith
head_below grid (Column column) has = omega arith

-- One step along the circle of a row or a column.
module _ (grid : Layout) (line : Line) (head : ℕ → ℕ) (starts : List ℕ) (next back : ℕ → ℕ)
    (rings : Rings (first_place grid + length grid.entries) head (places_off (first_place grid) starts grid.unlinked) next back)
    (begins : AreStarts grid.rows grid.entries starts) (are : AreRows grid.rows grid.unlinked) (heads : Heads (first_place grid) (length grid.entries) head)
    (on_head : (i : ℕ) → is_on line (entry_at grid.entries i) ≡ true → head (first_place grid + i) ≡ head_of grid line)
    (head_on : (i : ℕ) → head (first_place grid + i) ≡ head_of grid line → is_on line (entry_at grid.entries i) ≡ true)
    (place : ℕ) (here : IsOnLine grid line place) where
  IsThere : ℕ → Type 0
  IsThere y = There (first_place grid + length grid.entries) (places_off (first_place grid) starts grid.unlinked) y

  -- a live entry is there
  live_there : (i : ℕ) → i < length grid.entries → Stays grid.unlinked (entry_at grid.entries i).row → IsThere (first_place grid + i)
  unfolding IsThere
  live_there i lt stays = (omega arith, Stays-places_off grid.rows (first_place grid) grid.entries starts grid.unlinked i begins are lt stays)

  index : first_place grid ≤ place → first_place grid + (place - first_place grid) ≡ place
  index le = omega arith

  there : IsThere place
  unfolding IsThere
  there = elim (cases_lt place (first_place grid)) [
    | inl low ↦ (here.within, heads_stay (first_place grid) starts grid.unlinked place low)
    | inr high ↦ subst IsThere (index high) (live_there (place - first_place grid) (omega (arith, here.within)) (here.live high))
  ]

  its_head : head place ≡ head_of grid line
  its_head = elim (cases_lt place (first_place grid)) [
    | inl low ↦ heads.own place low ∙ here.at_head low
    | inr high ↦ ap head (sym (index high)) ∙ on_head (place - first_place grid) (here.on high)
  ]

  low_head : head_of grid line < first_place grid
  low_head = head_below grid line here.has_line

  next_head : head (next place) ≡ head_of grid line
  unfolding IsThere
  next_head = rings.same_head place there ∙ its_head

  -- the next place is the head again, or a live entry further on
  further : first_place grid ≤ next place → place < next place
  unfolding IsThere
  further le = elim (cases_lt place (next place)) [
    | inl lt ↦ lt
    | inr ge ↦ absurd (omega (arith, rings.wraps place there ge, its_head, low_head))
  ]

  -- the next place is no further on than any live entry of the circle that comes behind
  passed : (i : ℕ) → place + 1 - first_place grid ≤ i → i < length grid.entries → is_on line (entry_at grid.entries i) ≡ true → Stays grid.unlinked (entry_at grid.entries i).row
      → (place < next place) × (next place ≤ first_place grid + i)
  unfolding IsThere
  passed i from lt on stays = rings.first place (first_place grid + i) there (live_there i lt stays) (on_head i on ∙ sym its_head) (omega arith)

  pub after_on : IsOnLine grid line (next place)
  unfolding IsThere
  after_on = record {
    has_line = here.has_line;
    at_head = λ low. sym (heads.own (next place) low) ∙ next_head;
    within = (rings.next_there place there).0;
    live = λ high. Stays-unlinked grid.rows (first_place grid) grid.entries starts grid.unlinked (next place - first_place grid) begins are
        (omega (arith, (rings.next_there place there).0))
        (let same : next place ≡ first_place grid + (next place - first_place grid) = omega arith in subst (Stays (places_off (first_place grid) starts grid.unlinked)) same (rings.next_there place there).1);
    on = λ high. let same : first_place grid + (next place - first_place grid) ≡ next place = omega arith in head_on (next place - first_place grid) (ap head same ∙ next_head);
  }

  -- back at the head nothing is left
  rest_at_end : next place < first_place grid → rest_behind grid line place ≡ []
  rest_at_end low =
      numbers-skip grid line (place + 1 - first_place grid) (length grid.entries)
      (λ i from to lt on stays.
      let step = passed i from lt on stays in
      let back_at : next place ≡ head_of grid line = sym (heads.own (next place) low) ∙ next_head in
      absurd (omega (arith, step.0, back_at, here.at_head (omega (arith, step.0)))))
      ∙ ap (numbers grid line) (drop_all (place + 1 - first_place grid + length grid.entries) grid.entries (omega arith))

  -- before it the entries in between give no number
  rest_at_next : first_place grid ≤ next place → rest_behind grid line place ≡ numbers grid line (drop (next place - first_place grid) grid.entries)
  rest_at_next high =
      let on = further high in
      let to : place + 1 - first_place grid + (next place - first_place grid - (place + 1 - first_place grid)) ≡ next place - first_place grid = omega arith in
      numbers-skip grid line (place + 1 - first_place grid) (next place - first_place grid - (place + 1 - first_place grid))
      (λ i from to lt on stays. absurd (omega (arith, (passed i from lt on stays).1)))
      ∙ ap (λ k. numbers grid line (drop k grid.entries)) to

  pub after_rest : rest_from grid line (next place) ≡ rest_behind grid line place
  after_rest = elim (cases_lt (next place) (first_place grid)) [
    | inl low ↦ rest_from-head grid line (next place) low ∙ sym (rest_at_end low)
    | inr high ↦
        ap (λ b. cond b [] (numbers grid line (drop (next place - first_place grid) grid.entries))) (le-ltb (next place) (first_place grid) high) ∙ sym (rest_at_next high)
  ]

-- what a call of `next` gives, and what is left after it
pub walk_step : (grid : Layout) (line : Line) (place next number : ℕ) (entry : Entry) → IsOnLine grid line place → first_place grid ≤ place
    → entry ≡ entry_at grid.entries (place - first_place grid) → number ≡ number_on line entry → rest_from grid line next ≡ rest_behind grid line place
    → rest_from grid line place ≡ number ∷ rest_from grid line next
walk_step grid line place next number entry on le read gives rest =
    rest_from-live grid line place on le ∙ ap₂ (λ n ns. n ∷ ns) (sym (gives ∙ ap (number_on line) read)) (sym rest)

-- the heads of the circles of rows, or of those of columns
abbrev circle_head : Layout → Line → ℕ → ℕ
circle_head grid (Row row) = row_head (first_place grid) grid.entries
circle_head grid (Column column) = column_head grid.rows (first_place grid) grid.entries

circle_heads : (grid : Layout) (line : Line) → AreFitting grid.rows grid.columns grid.entries → Heads (first_place grid) (length grid.entries) (circle_head grid line)
circle_heads grid (Row row) fitting = fitting_rows grid.rows grid.columns grid.entries fitting
circle_heads grid (Column column) fitting = fitting_columns grid.rows grid.columns grid.entries fitting

-- an entry is in a row or a column where its head is
head_of-on : (grid : Layout) (line : Line) (i : ℕ) → is_on line (entry_at grid.entries i) ≡ true → circle_head grid line (first_place grid + i) ≡ head_of grid line
head_of-on grid (Row row) i on = row_head-entry (first_place grid) grid.entries i ∙ eqb-true _ row on
head_of-on grid (Column column) i on = column_head-entry grid.rows (first_place grid) grid.entries i ∙ ap (λ c. grid.rows + c) (eqb-true _ column on)

on_head_of : (grid : Layout) (line : Line) (i : ℕ) → circle_head grid line (first_place grid + i) ≡ head_of grid line → is_on line (entry_at grid.entries i) ≡ true
on_head_of grid (Row row) i same = eq-eqb _ row (sym (row_head-entry (first_place grid) grid.entries i) ∙ same)
on_head_of grid (Column column) i same = eq-eqb _ column (omega (arith, column_head-entry grid.rows (first_place grid) grid.entries i, same))

-- what a read of the link at a place gives
after_read : (grid : Layout) (line : Line) (starts next back : List ℕ) (place after : ℕ) → AreFitting grid.rows grid.columns grid.entries → AreStarts grid.rows grid.entries starts → AreRows grid.rows grid.unlinked
    → AreCircles (first_place grid + length grid.entries) (circle_head grid line) (places_off (first_place grid) starts grid.unlinked) next back
    → after ≡ slice_index_or next place after → IsOnLine grid line place → IsOnLine grid line after × (rest_from grid line after ≡ rest_behind grid line place)
after_read grid line starts next back place after fitting begins are circles read here =
    rw read_is (
      after_on grid line (circle_head grid line) starts (slice_index next) (slice_index back) rings begins are heads (head_of-on grid line) (on_head_of grid line) place here,
      after_rest grid line (circle_head grid line) starts (slice_index next) (slice_index back) rings begins are heads (head_of-on grid line) (on_head_of grid line) place here,
    )
  where
    rings : Rings (first_place grid + length grid.entries) (circle_head grid line) (places_off (first_place grid) starts grid.unlinked) (slice_index next) (slice_index back)
    rings = Undoable-rings (first_place grid + length grid.entries) (circle_head grid line) (places_off (first_place grid) starts grid.unlinked) next back circles.undoable

    heads : Heads (first_place grid) (length grid.entries) (circle_head grid line)
    heads = circle_heads grid line fitting

    read_is : after ≡ slice_index next place
    read_is = get_or_read next place after (omega (arith, here.within, circles.count)) read 0

-- the same of what a row's or a column's number and the fields of a grid say
pub after_row : (grid now : Layout) (line : Line) (row : ℕ) (starts next back : List ℕ) (place after : ℕ) → grid ≡ now → line ≡ Row row
    → AreFitting grid.rows grid.columns grid.entries → AreStarts grid.rows grid.entries starts → AreRows grid.rows grid.unlinked
    → AreCircles (first_place grid + length grid.entries) (row_head (first_place grid) grid.entries) (places_off (first_place grid) starts grid.unlinked) next back
    → after ≡ slice_index_or next place after → IsOnLine now line place → IsOnLine now line after × (rest_from now line after ≡ rest_behind now line place)
after_row grid now line row starts next back place after view_is line_is fitting begins are circles read =
    subst (λ (l : Line). IsOnLine now l place → IsOnLine now l after × (rest_from now l after ≡ rest_behind now l place)) (sym line_is)
    (subst (λ (g : Layout). IsOnLine g (Row row) place → IsOnLine g (Row row) after × (rest_from g (Row row) after ≡ rest_behind g (Row row) place)) view_is
    (after_read grid (Row row) starts next back place after fitting begins are circles read))

pub after_column : (grid now : Layout) (line : Line) (column : ℕ) (starts next back : List ℕ) (place after : ℕ) → grid ≡ now → line ≡ Column column
    → AreFitting grid.rows grid.columns grid.entries → AreStarts grid.rows grid.entries starts → AreRows grid.rows grid.unlinked
    → AreCircles (first_place grid + length grid.entries) (column_head grid.rows (first_place grid) grid.entries) (places_off (first_place grid) starts grid.unlinked) next back
    → after ≡ slice_index_or next place after → IsOnLine now line place → IsOnLine now line after × (rest_from now line after ≡ rest_behind now line place)
after_column grid now line column starts next back place after view_is line_is fitting begins are circles read =
    subst (λ (l : Line). IsOnLine now l place → IsOnLine now l after × (rest_from now l after ≡ rest_behind now l place)) (sym line_is)
    (subst (λ (g : Layout). IsOnLine g (Column column) place → IsOnLine g (Column column) after × (rest_from g (Column column) after ≡ rest_behind g (Column column) place)) view_is
    (after_read grid (Column column) starts next back place after fitting begins are circles read))
