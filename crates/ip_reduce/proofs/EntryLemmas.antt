-- The entries of rows at unfixed columns: they stand in the grid, rise, are few, and those of kept rows are live.
use Rattle.std.proofs.Common.{◌≡◌, inl, inr, ◌+◌, ◌-◌, ◌<◌, ◌≤◌, ℕ, zero, suc, pos, Bool, true, false, cond, eqb, List, [], ◌∷◌, ◌++◌, length, get_or, map, filter, take, drop, refl, sym, ap, ◌∙◌, subst, arith}
use Rattle.std.specs.List.{All, AllPairs, flat_map, list_any, range_with_len}
use Rattle.std.specs.Prelude.{not}
use Rattle.std.proofs.lemmas.Bool.{cases_lt}
use Rattle.std.proofs.lemmas.List.{append_assoc, append-nil, get_or_append_left, get_or-append_right, length-append, length-map, get_or-map, map-id, take_more, take_all, drop_more, get_or_read}
use Rattle.std.proofs.lemmas.List.Concat.{flat_map-append}
use Rattle.std.proofs.lemmas.List.Elements.{All-append, All-nil, All-filter, All-map, All-weaker, filter-append}
use Rattle.std.proofs.lemmas.List.FromFn.{map-range_with_len_more}
use Rattle.std.proofs.lemmas.List.Kept.{AllPairs-filter, AllPairs-from_increasing}
use Rattle.std.proofs.lemmas.List.Sums.{sum_by-append, sum_by-cons}
use Rattle.cross_links.specs.declared.entry.Entry.{Entry}
use Rattle.cross_links.specs.Entries.{IsBefore, AreRising}
use Rattle.ip_rows.specs.declared.Bounds.{Bounds}
use Rattle.ip_rows.specs.declared.rows.Coef.{Coef}
use Rattle.ip_rows.specs.declared.rows.IpRow.{IpRow}
use Rattle.ip_rows.specs.declared.program.IpColumn.{IpColumn}
use Rattle.ip_rows.specs.Programs.{sides_of, row_at, is_fixed}
use Rattle.ip_reduce.specs.Rows.{open_terms}
use Rattle.ip_reduce.specs.Reductions.{entries_at, entries_of}
use Rattle.ip_reduce.specs.Entries.{AreEntered, entries_in, count_of}

-- the numbers below one more
pub range_push : (n : ℕ) → range_with_len 0 (n + 1) ≡ range_with_len 0 n ++ n ∷ []
range_push n = sym (map-id (range_with_len 0 (n + 1))) ∙ map-range_with_len_more (λ x. x) 0 n n (omega arith) ∙ ap (λ (xs : List ℕ). xs ++ n ∷ []) (map-id (range_with_len 0 n))

-- the entries of one more row
pub entries_more : (sides : List Bounds) (rows : List IpRow) (n : ℕ) → entries_in sides rows (n + 1) ≡ entries_in sides rows n ++ entries_of sides rows n
entries_more sides rows n =
    ap (flat_map (entries_of sides rows)) (range_push n) ∙ flat_map-append (entries_of sides rows) (range_with_len 0 n) (n ∷ [])
    ∙ ap (λ (es : List Entry). entries_in sides rows n ++ es) (append-nil (entries_of sides rows n))

-- the entries of a row that was read
pub entries_step : (sides : List Bounds) (rows : List IpRow) (n : ℕ) (before after : List Entry) (row : IpRow) (terms : List Coef) → n < length rows → row ≡ get_or rows n row → terms ≡ row.terms
    → before ≡ entries_in sides rows n → after ≡ before ++ entries_at n (open_terms sides terms) → after ≡ entries_in sides rows (n + 1)
entries_step sides rows n before after row terms lt read terms_are so_far is =
    let here : row ≡ row_at rows n = get_or_read rows n row lt read (record { terms = []; least = pos 0 }) in
    is ∙ ap (λ (es : List Entry). es ++ entries_at n (open_terms sides terms)) so_far
    ∙ ap (λ (ts : List Coef). entries_in sides rows n ++ entries_at n (open_terms sides ts)) (terms_are ∙ ap (λ (r : IpRow). r.terms) here) ∙ sym (entries_more sides rows n)

abbrev pub entry : ℕ → Coef → Entry
entry row term = record { row = row; column = term.column }

-- rising lists, each entry of the first before each of the second
rising_append : (xs ys : List Entry) → AreRising xs → AreRising ys → ((i j : ℕ) (d : Entry) → i < length xs → j < length ys → IsBefore (get_or xs i d) (get_or ys j d)) → AreRising (xs ++ ys)
rising_append xs ys one two across k d lt =
    let size = length-append xs ys in
    elim (cases_lt (k + 1) (length xs)) [
      | inl early ↦
          subst (λ (e : Entry). IsBefore e (get_or (xs ++ ys) (k + 1) d)) (sym (get_or_append_left xs ys d k (omega arith)))
          (subst (λ (e : Entry). IsBefore (get_or xs k d) e) (sym (get_or_append_left xs ys d (k + 1) early)) (one k d early))
      | inr late ↦ elim (cases_lt k (length xs)) [
        | inl last ↦
            subst (λ (e : Entry). IsBefore e (get_or (xs ++ ys) (k + 1) d)) (sym (get_or_append_left xs ys d k last))
            (subst (λ (e : Entry). IsBefore (get_or xs k d) e) (sym (get_or-append_right xs ys (length xs) (k + 1) d refl late)) (across k (k + 1 - length xs) d last (omega arith)))
        | inr past ↦
            let shift : k + 1 - length xs ≡ k - length xs + 1 = omega arith in
            subst (λ (e : Entry). IsBefore e (get_or (xs ++ ys) (k + 1) d)) (sym (get_or-append_right xs ys (length xs) k d refl past))
            (subst (λ (e : Entry). IsBefore (get_or ys (k - length xs) d) e) (sym (get_or-append_right xs ys (length xs) (k + 1) d refl late ∙ ap (λ i. get_or ys i d) shift)) (two (k - length xs) d (omega arith)))
      ]
    ]

module _ (sides : List Bounds) (rows : List IpRow) (entered : AreEntered sides rows) where
  abbrev no_row : IpRow
  no_row = record { terms = []; least = pos 0 }

  -- the open terms of a row rise
  terms_rise : (n : ℕ) → n < length rows → AllPairs (λ (t u : Coef). t.column < u.column) (open_terms sides (row_at rows n).terms)
  terms_rise n lt =
      AllPairs-filter (λ (t u : Coef). t.column < u.column) (λ (t : Coef). not (is_fixed sides t.column)) (row_at rows n).terms (λ i j d less within.
      let ts = (row_at rows n).terms in
      let size = length-map ts (λ (t : Coef). t.column) in
      let pairs = AllPairs-from_increasing (map (λ (t : Coef). t.column) ts) (entered.formed n no_row lt).rising i j 0 less (omega arith) in
      let one = get_or-map (λ (t : Coef). t.column) ts i d 0 (omega arith) in
      let two = get_or-map (λ (t : Coef). t.column) ts j d 0 within in
      omega arith)

  row_rises : (n : ℕ) → n < length rows → AreRising (entries_of sides rows n)
  row_rises n lt k d within =
      let ts = open_terms sides (row_at rows n).terms in
      let none : Coef = record { factor = pos 0; column = 0 } in
      let size = length-map ts (entry n) in
      let one : get_or (map (entry n) ts) k d ≡ entry n (get_or ts k none) = get_or-map (entry n) ts k none d (omega arith) in
      let two : get_or (map (entry n) ts) (k + 1) d ≡ entry n (get_or ts (k + 1) none) = get_or-map (entry n) ts (k + 1) none d (omega arith) in
      let less : (get_or ts k none).column < (get_or ts (k + 1) none).column = terms_rise n lt k (k + 1) none (omega arith) (omega arith) in
      subst (λ (e : Entry). IsBefore e (get_or (map (entry n) ts) (k + 1) d)) (sym one) (subst (λ (e : Entry). IsBefore (entry n (get_or ts k none)) e) (sym two) (inr (refl, less)))

  row_within : (n : ℕ) → n < length rows → All (λ (e : Entry). (e.row ≡ n) × (e.column < length sides)) (entries_of sides rows n)
  row_within n lt = All-map (λ (e : Entry). (e.row ≡ n) × (e.column < length sides)) (entry n) (open_terms sides (row_at rows n).terms)
      (All-weaker (λ (t : Coef). t.column < length sides) (λ (t : Coef). (n ≡ n) × (t.column < length sides)) (λ t there. (refl, there)) (open_terms sides (row_at rows n).terms)
      (All-filter (λ (t : Coef). not (is_fixed sides t.column)) (λ (t : Coef). t.column < length sides) (row_at rows n).terms (entered.formed n no_row lt).there))

  entries_within : (n : ℕ) → n ≤ length rows → All (λ (e : Entry). (e.row < n) × (e.column < length sides)) (entries_in sides rows n)
  entries_within zero le = All-nil (λ (e : Entry). (e.row < 0) × (e.column < length sides))
  entries_within (suc n) le =
      let more : entries_in sides rows (n + 1) ≡ entries_in sides rows n ++ entries_of sides rows n = entries_more sides rows n in
      let here : n + 1 ≡ suc n = omega arith in
      subst (λ m. All (λ (e : Entry). (e.row < m) × (e.column < length sides)) (entries_in sides rows m)) here
      (subst (λ (es : List Entry). All (λ (e : Entry). (e.row < n + 1) × (e.column < length sides)) es) (sym more)
      (All-append (λ (e : Entry). (e.row < n + 1) × (e.column < length sides)) (entries_in sides rows n) (entries_of sides rows n)
      (All-weaker (λ (e : Entry). (e.row < n) × (e.column < length sides)) (λ (e : Entry). (e.row < n + 1) × (e.column < length sides)) (λ e both. let lt = both.0 in (omega arith, both.1)) (entries_in sides rows n) (entries_within n (omega arith)))
      (All-weaker (λ (e : Entry). (e.row ≡ n) × (e.column < length sides)) (λ (e : Entry). (e.row < n + 1) × (e.column < length sides)) (λ e both. let same = both.0 in (omega arith, both.1)) (entries_of sides rows n) (row_within n (omega arith)))))

  entries_rise : (n : ℕ) → n ≤ length rows → AreRising (entries_in sides rows n)
  entries_rise zero le = λ k d lt. absurd (omega arith)
  entries_rise (suc n) le =
      let more : entries_in sides rows (n + 1) ≡ entries_in sides rows n ++ entries_of sides rows n = entries_more sides rows n in
      let here : n + 1 ≡ suc n = omega arith in
      subst (λ m. AreRising (entries_in sides rows m)) here
      (subst (λ (es : List Entry). AreRising es) (sym more)
      (rising_append (entries_in sides rows n) (entries_of sides rows n) (entries_rise n (omega arith)) (row_rises n (omega arith)) (λ i j d one two.
      let before = entries_within n (omega arith) i d one in
      let after = row_within n (omega arith) j d two in
      let lt = before.0 in
      let same = after.0 in
      inl (omega arith))))

  pub grid_within : All (λ (e : Entry). (e.row < length rows) × (e.column < length sides)) (entries_in sides rows (length rows))
  grid_within = entries_within (length rows) (omega arith)

  pub grid_rises : AreRising (entries_in sides rows (length rows))
  grid_rises = entries_rise (length rows) (omega arith)

-- there are no more entries than terms
filter_shorter : (p : Coef → Bool) (terms : List Coef) → length (filter p terms) ≤ length terms
filter_shorter p [] = omega arith
filter_shorter p (term ∷ terms) = by_test (p term) (filter_shorter p terms)
  where
    by_test : (b : Bool) → length (filter p terms) ≤ length terms → length (cond b (term ∷ filter p terms) (filter p terms)) ≤ length (term ∷ terms)
    by_test true rest = omega arith
    by_test false rest = omega arith

entries_few_upto : (sides : List Bounds) (rows : List IpRow) (n : ℕ) → n ≤ length rows → length (entries_in sides rows n) ≤ count_of (take n rows)
entries_few_upto sides rows zero le = omega arith
entries_few_upto sides rows (suc n) le =
    let none : IpRow = record { terms = []; least = pos 0 } in
    let here : n + 1 ≡ suc n = omega arith in
    let rest : length (entries_in sides rows n) ≤ count_of (take n rows) = entries_few_upto sides rows n (omega arith) in
    let more = ap (λ (es : List Entry). length es) (entries_more sides rows n) ∙ length-append (entries_in sides rows n) (entries_of sides rows n) in
    let one = length-map (open_terms sides (row_at rows n).terms) (entry n) in
    let shorter = filter_shorter (λ (t : Coef). not (is_fixed sides t.column)) (row_at rows n).terms in
    let all : count_of (take (n + 1) rows) ≡ count_of (take n rows) + count_of (row_at rows n ∷ []) = ap count_of (take_more rows n none (omega arith)) ∙ sum_by-append (λ (r : IpRow). length r.terms) (take n rows) (row_at rows n ∷ []) in
    let single : count_of (row_at rows n ∷ []) ≡ length (row_at rows n).terms + count_of [] = sum_by-cons (λ (r : IpRow). length r.terms) (row_at rows n) [] in
    subst (λ m. length (entries_in sides rows m) ≤ count_of (take m rows)) here (omega (arith, rest, more, one, shorter, all, single))

pub entries_few : (sides : List Bounds) (rows : List IpRow) → length (entries_in sides rows (length rows)) ≤ count_of rows
entries_few sides rows = subst (λ (rs : List IpRow). length (entries_in sides rows (length rows)) ≤ count_of rs) (take_all (length rows) rows (omega arith)) (entries_few_upto sides rows (length rows) (omega arith))

-- the entries of a row are live all together, or none is
filter_row : (q : ℕ → Bool) (n : ℕ) (terms : List Coef) (b : Bool) → q n ≡ b → filter (λ (e : Entry). q e.row) (map (entry n) terms) ≡ cond b (map (entry n) terms) []
filter_row q n [] true e = refl
filter_row q n [] false e = refl
filter_row q n (term ∷ terms) true e = rw e (ap (λ (es : List Entry). entry n term ∷ es) (filter_row q n terms true e))
filter_row q n (term ∷ terms) false e = rw e (filter_row q n terms false e)

filter_rows : (q : ℕ → Bool) (sides : List Bounds) (rows : List IpRow) (numbers : List ℕ) → filter (λ (e : Entry). q e.row) (flat_map (entries_of sides rows) numbers) ≡ flat_map (entries_of sides rows) (filter q numbers)
filter_rows q sides rows [] = refl
filter_rows q sides rows (n ∷ numbers) =
    filter-append (λ (e : Entry). q e.row) (entries_of sides rows n) (flat_map (entries_of sides rows) numbers)
    ∙ ap (λ (es : List Entry). filter (λ (e : Entry). q e.row) (entries_of sides rows n) ++ es) (filter_rows q sides rows numbers)
    ∙ by_test (q n) refl
  where
    by_test : (b : Bool) → q n ≡ b → filter (λ (e : Entry). q e.row) (entries_of sides rows n) ++ flat_map (entries_of sides rows) (filter q numbers) ≡ flat_map (entries_of sides rows) (cond b (n ∷ filter q numbers) (filter q numbers))
    by_test true e = ap (λ (es : List Entry). es ++ flat_map (entries_of sides rows) (filter q numbers)) (filter_row q n (open_terms sides (row_at rows n).terms) true e)
    by_test false e = ap (λ (es : List Entry). es ++ flat_map (entries_of sides rows) (filter q numbers)) (filter_row q n (open_terms sides (row_at rows n).terms) false e)

-- the live entries are those of the rows that are not unlinked
pub live_rows : (sides : List Bounds) (rows : List IpRow) (unlinked full : List ℕ) → full ≡ filter (λ n. not (list_any (λ r. eqb r n) unlinked)) (range_with_len 0 (length rows))
    → filter (λ (e : Entry). not (list_any (λ r. eqb r e.row) unlinked)) (entries_in sides rows (length rows)) ≡ flat_map (entries_of sides rows) full
live_rows sides rows unlinked full is = filter_rows (λ n. not (list_any (λ r. eqb r n) unlinked)) sides rows (range_with_len 0 (length rows)) ∙ ap (flat_map (entries_of sides rows)) (sym is)

-- the same of the columns themselves
module _ (columns : List IpColumn) (rows : List IpRow) (entries : List Entry) (entered : AreEntered (sides_of columns) rows) (is : entries ≡ entries_in (sides_of columns) rows (length rows)) where
  pub all_within : All (λ (e : Entry). (e.row < length rows) × (e.column < length columns)) entries
  all_within =
      subst (λ (es : List Entry). All (λ (e : Entry). (e.row < length rows) × (e.column < length columns)) es) (sym is)
      (subst (λ n. All (λ (e : Entry). (e.row < length rows) × (e.column < n)) (entries_in (sides_of columns) rows (length rows))) (length-map columns (λ (column : IpColumn). column.sides)) (grid_within (sides_of columns) rows entered))

  pub all_rise : AreRising entries
  all_rise = subst (λ (es : List Entry). AreRising es) (sym is) (grid_rises (sides_of columns) rows entered)

  pub all_few : length entries ≤ count_of rows
  all_few = subst (λ (es : List Entry). length es ≤ count_of rows) (sym is) (entries_few (sides_of columns) rows)

-- ---- lists that grow along a loop

module _ (p : ℕ → Bool) (n : ℕ) (before after : List ℕ) (so_far : before ≡ filter p (range_with_len 0 n)) where
  pub numbers_more : true ≡ p n → after ≡ before ++ n ∷ [] → after ≡ filter p (range_with_len 0 (n + 1))
  numbers_more pass is =
      is ∙ ap (λ (xs : List ℕ). xs ++ n ∷ []) so_far ∙ ap (λ b. filter p (range_with_len 0 n) ++ cond b (n ∷ []) []) pass
      ∙ sym (filter-append p (range_with_len 0 n) (n ∷ [])) ∙ ap (filter p) (sym (range_push n))

  pub numbers_same : false ≡ p n → after ≡ before → after ≡ filter p (range_with_len 0 (n + 1))
  numbers_same fail is =
      is ∙ so_far ∙ sym (append-nil (filter p (range_with_len 0 n))) ∙ ap (λ b. filter p (range_with_len 0 n) ++ cond b (n ∷ []) []) fail
      ∙ sym (filter-append p (range_with_len 0 n) (n ∷ [])) ∙ ap (filter p) (sym (range_push n))

module _ {X : Type 0} (p : X → Bool) (xs : List X) (i : ℕ) (d : X) (lt : i < length xs) where
  pub filter_takes : true ≡ p (get_or xs i d) → filter p (drop i xs) ≡ get_or xs i d ∷ filter p (drop (i + 1) xs)
  filter_takes pass = ap (filter p) (drop_more xs i d lt) ∙ ap (λ b. cond b (get_or xs i d ∷ filter p (drop (i + 1) xs)) (filter p (drop (i + 1) xs))) (sym pass)

  pub filter_passes : false ≡ p (get_or xs i d) → filter p (drop i xs) ≡ filter p (drop (i + 1) xs)
  filter_passes fail = ap (filter p) (drop_more xs i d lt) ∙ ap (λ b. cond b (get_or xs i d ∷ filter p (drop (i + 1) xs)) (filter p (drop (i + 1) xs))) (sym fail)

module _ {Y : Type 0} (made after left rest whole : List Y) (so_far : made ++ left ≡ whole) where
  pub grows_by : (y : Y) → after ≡ made ++ y ∷ [] → left ≡ y ∷ rest → after ++ rest ≡ whole
  grows_by y is split = ap (λ (ys : List Y). ys ++ rest) is ∙ append_assoc made (y ∷ []) rest ∙ ap (λ (ys : List Y). made ++ ys) (sym split) ∙ so_far

  pub stays_by : after ≡ made → left ≡ rest → after ++ rest ≡ whole
  stays_by is split = ap (λ (ys : List Y). ys ++ rest) is ∙ ap (λ (ys : List Y). made ++ ys) (sym split) ∙ so_far

  pub grown : left ≡ [] → made ≡ whole
  grown none = sym (append-nil made) ∙ ap (λ (ys : List Y). made ++ ys) (sym none) ∙ so_far
