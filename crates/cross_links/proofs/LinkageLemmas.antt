-- How entries are linked behind the heads of their rows and columns.
use Rattle.std.proofs.Common.{◌≡◌, ℕ, ◌+◌, ◌-◌, ◌<◌, ◌≤◌, List, [], length, All, slice_index, slice_set, arith, sym, ◌∙◌, ap, subst, inl, inr, cond}
use Rattle.std.specs.List.{range_with_len}
use Rattle.std.proofs.lemmas.Bool.{cases_lt, lt-ltb, le-ltb}
use Rattle.std.proofs.lemmas.List.{get_or-set_same, get_or-set_other, length-set}
use Rattle.std.proofs.lemmas.List.Elements.{All-get_or, All-from_get_or, All-weaker}
use Rattle.std.proofs.lemmas.List.FromFn.{length-range_with_len, get_or-range_with_len}
use Rattle.cross_links.specs.declared.entry.Entry.{Entry}
use Rattle.cross_links.specs.Rings.{Rings, Undoable, Closed}
use Rattle.cross_links.specs.Linkage.{entry_at, row_head, column_head, AreFitting}
use Rattle.cross_links.proofs.RingLemmas.{rings_more, rings_alone}
use Rattle.cross_links.proofs.RunLemmas.{Closed-set}

-- the heads of heads and of entries
pub row_head-below : (first : ℕ) (entries : List Entry) (y : ℕ) → y < first → row_head first entries y ≡ y
row_head-below first entries y lt = ap (λ b. cond b y (entry_at entries (y - first)).row) (lt-ltb y first lt)

pub row_head-entry : (first : ℕ) (entries : List Entry) (i : ℕ) → row_head first entries (first + i) ≡ (entry_at entries i).row
row_head-entry first entries i =
    let index : first + i - first ≡ i = omega arith in
    ap (λ b. cond b (first + i) (entry_at entries (first + i - first)).row) (le-ltb (first + i) first (omega arith)) ∙ ap (λ k. (entry_at entries k).row) index

pub column_head-below : (rows first : ℕ) (entries : List Entry) (y : ℕ) → y < first → column_head rows first entries y ≡ y
column_head-below rows first entries y lt = ap (λ b. cond b y (rows + (entry_at entries (y - first)).column)) (lt-ltb y first lt)

pub column_head-entry : (rows first : ℕ) (entries : List Entry) (i : ℕ) → column_head rows first entries (first + i) ≡ rows + (entry_at entries i).column
column_head-entry rows first entries i =
    let index : first + i - first ≡ i = omega arith in
    ap (λ b. cond b (first + i) (rows + (entry_at entries (first + i - first)).column)) (le-ltb (first + i) first (omega arith))
    ∙ ap (λ k. rows + (entry_at entries k).column) index

-- the first places are heads, and each of so many entries behind them has one
pub record Heads (first count : ℕ) (head : ℕ → ℕ) : Type 0 where
  pub own : (y : ℕ) → y < first → head y ≡ y
  pub entry : (i : ℕ) → i < count → head (first + i) < first

pub row_heads : (first : ℕ) (entries : List Entry) → All (λ e. e.row < first) entries → Heads first (length entries) (row_head first entries)
row_heads first entries within = record {
  own = row_head-below first entries;
  entry = λ i lt. omega (arith, row_head-entry first entries i, All-get_or (λ (e : Entry). e.row < first) entries i (record { row = 0; column = 0 }) lt within);
}

pub column_heads : (rows first : ℕ) (entries : List Entry) → All (λ e. rows + e.column < first) entries → Heads first (length entries) (column_head rows first entries)
column_heads rows first entries within = record {
  own = column_head-below rows first entries;
  entry = λ i lt. omega (arith, column_head-entry rows first entries i, All-get_or (λ (e : Entry). rows + e.column < first) entries i (record { row = 0; column = 0 }) lt within);
}

-- the heads of entries that stand in the rows and columns
pub fitting_rows : (rows columns : ℕ) (entries : List Entry) → AreFitting rows columns entries → Heads (rows + columns) (length entries) (row_head (rows + columns) entries)
fitting_rows rows columns entries fitting = row_heads (rows + columns) entries (All-weaker (λ (e : Entry). (e.row < rows) × (e.column < columns)) (λ e. e.row < rows + columns) (λ e within. omega (arith, within.0)) entries fitting.within)

pub fitting_columns : (rows columns : ℕ) (entries : List Entry) → AreFitting rows columns entries → Heads (rows + columns) (length entries) (column_head rows (rows + columns) entries)
fitting_columns rows columns entries fitting = column_heads rows (rows + columns) entries (All-weaker (λ (e : Entry). (e.row < rows) × (e.column < columns)) (λ e. rows + e.column < rows + columns) (λ e within. omega (arith, within.1)) entries fitting.within)

-- no head is above its place
pub head_first : (first count : ℕ) (head : ℕ → ℕ) → Heads first count head → (y : ℕ) → y < first + count → head y ≤ y
head_first first count head heads y lt = elim (cases_lt y first) [
  | inl low ↦ omega (arith, heads.own y low)
  | inr high ↦
      let place : first + (y - first) ≡ y = omega arith in
      let above : head (first + (y - first)) < first = heads.entry (y - first) (omega arith) in
      omega (arith, subst (λ z. head z < first) place above)
]

-- the links stay closed, and one place more stands in its circle
link_more : (head : ℕ → ℕ) (next back next' back' : List ℕ) (h x : ℕ) → x < length next → head x ≡ h → h < x → head h ≡ h → ((y : ℕ) → y < x → head y ≤ y)
    → Closed next back × Rings x head [] (slice_index next) (slice_index back)
    → next' ≡ slice_set (slice_set next (slice_index back h) x) x h → back' ≡ slice_set (slice_set back h x) x (slice_index back h)
    → Closed next' back' × Rings (x + 1) head [] (slice_index next') (slice_index back')
link_more head next back next' back' h x lt its below top first (closed, rings) nexts backs = rw (nexts, backs) (still_closed, more)
  where
    last : ℕ
    last = slice_index back h

    last_below : last < x
    last_below = (rings.back_there h (below, tt)).0

    still_closed : Closed (slice_set (slice_set next last x) x h) (slice_set (slice_set back h x) x last)
    still_closed =
        let once = Closed-set next back last h x x closed lt lt in
        let same = length-set next last x in
        Closed-set (slice_set next last x) (slice_set back h x) x x h last once (omega (arith, below, same)) (omega (arith, last_below, same))

    more : Rings (x + 1) head [] (slice_index (slice_set (slice_set next last x) x h)) (slice_index (slice_set (slice_set back h x) x last))
    more = rings_more x head (slice_index next) (slice_index back) _ _ rings h its below top first
        (get_or-set_other (slice_set next last x) x last h 0 (omega (arith, last_below)) ∙ get_or-set_same next last x 0 (omega (arith, last_below)))
        (get_or-set_same (slice_set next last x) x h 0 (omega (arith, length-set next last x)))
        (λ y apart other. get_or-set_other (slice_set next last x) x y h 0 other ∙ get_or-set_other next last y x 0 apart)
        (get_or-set_other (slice_set back h x) x h last 0 (omega arith) ∙ get_or-set_same back h x 0 (omega (arith, closed.same)))
        (get_or-set_same (slice_set back h x) x last 0 (omega (arith, length-set back h x, closed.same)))
        (λ y apart other. get_or-set_other (slice_set back h x) x y last 0 other ∙ get_or-set_other back h y x 0 apart)

-- a loop's step: the links stay closed, and one entry more stands in its circle
pub link_step : (first count i h : ℕ) (head : ℕ → ℕ) (next back next' back' : List ℕ) → Heads first count head → i < count → length next ≡ first + count → head (first + i) ≡ h
    → Closed next back × Rings (first + i) head [] (slice_index next) (slice_index back)
    → next' ≡ slice_set (slice_set next (slice_index back h) (first + i)) (first + i) h → back' ≡ slice_set (slice_set back h (first + i)) (first + i) (slice_index back h)
    → Closed next' back' × Rings (first + (i + 1)) head [] (slice_index next') (slice_index back')
link_step first count i h head next back next' back' heads lt same its links nexts backs =
    let below : h < first = subst (λ z. z < first) its (heads.entry i lt) in
    let more : first + (i + 1) ≡ first + i + 1 = omega arith in
    rw more
    (link_more head next back next' back' h (first + i) (omega arith) its (omega arith) (heads.own h below)
    (λ y below_x. head_first first count head heads y (omega arith)) links nexts backs)

-- links of places that stand alone
pub alone_is : (n y : ℕ) (links : List ℕ) → links ≡ range_with_len 0 n → y < n → slice_index links y ≡ y
alone_is n y links is lt = ap (λ xs. slice_index xs y) is ∙ get_or-range_with_len 0 n y 0 lt ∙ (omega arith)

pub alone_length : (n : ℕ) (links : List ℕ) → links ≡ range_with_len 0 n → length links ≡ n
alone_length n links is = ap length is ∙ length-range_with_len 0 n

-- no entry is linked yet
pub link_none : (first count : ℕ) (head : ℕ → ℕ) (next back : List ℕ) → Heads first count head → next ≡ range_with_len 0 (first + count) → back ≡ range_with_len 0 (first + count)
    → Closed next back × Rings (first + 0) head [] (slice_index next) (slice_index back)
link_none first count head next back heads nexts backs = (
  record {
    same = alone_length (first + count) back backs ∙ sym (alone_length (first + count) next nexts);
    nexts = All-from_get_or (λ y. y < length next) next 0 (λ i lt. omega (arith, alone_is (first + count) i next nexts (omega (arith, alone_length (first + count) next nexts))));
    backs = All-from_get_or (λ y. y < length next) back 0
        (λ i lt. omega (arith, alone_length (first + count) next nexts, alone_length (first + count) back backs, alone_is (first + count) i back backs (omega (arith, alone_length (first + count) back backs))));
  },
  rings_alone (first + 0) head (slice_index next) (slice_index back) (λ y lt. heads.own y (omega arith))
      (λ y lt. alone_is (first + count) y next nexts (omega arith)) (λ y lt. alone_is (first + count) y back backs (omega arith)),
)

-- all entries are linked
pub link_all : (first count i : ℕ) (head : ℕ → ℕ) (next back : List ℕ) → i ≡ count → Rings (first + i) head [] (slice_index next) (slice_index back)
    → Undoable (first + count) head [] next back
unfolding Undoable
link_all first count i head next back all rings = subst (λ k. Rings (first + k) head [] (slice_index next) (slice_index back)) all rings
