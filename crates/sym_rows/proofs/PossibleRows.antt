-- by the numbers of a possible world, the possible rows of a hypothetical table that are there are the world's rows
use Rattle.std.proofs.Common.{◌≡◌, ◌∙◌, sym, ap, ap₂, subst, refl, ℕ, zero, suc, ◌+◌, ◌<◌, inl, inr, ◌≤ℤ◌, ℤ, pos, Bool, true, false, cond, List, [], ◌∷◌, ◌++◌, length, get_or, drop, take, map, All, arith, append_assoc, Option, Some, None}
use Rattle.std.specs.Prelude.{is_none, is_some, if◌then◌else◌, slice_get, unwrap_or, int_le}
use Rattle.std.specs.List.{list_any}
use Rattle.std.specs.Ordering.{int_eq}
use Rattle.std.proofs.lemmas.Int.{ints}
use Rattle.std.proofs.lemmas.Bool.{and_parts, cases_lt}
use Rattle.std.proofs.lemmas.List.{drop_more, drop_all, drop-drop, ext_get_or}
use Rattle.std.proofs.lemmas.Option.{unwrap_or-slice_get}
use Rattle.std.proofs.Math.Seq.{take-append_seam, drop-append_seam}
use Rattle.base_kit.specs.declared.value.Value.{Value}
use Rattle.base_kit.specs.declared.value.Value.TheVariants.{Int, Text}
use Rattle.base_kit.specs.Orders.{value_order}
use Rattle.base_kit.proofs.Orders.{value_order-Equal}
use Rattle.std.specs.Ordering.{is_eq}
use Rattle.std.specs.declared.cmp.Ordering.{Ordering}
use Rattle.std.specs.declared.cmp.Ordering.TheVariants.{Less, Equal, Greater}
use Rattle.tiql_query.specs.declared.relation.Column.{Column}
use Rattle.tiql_query.specs.declared.relation.QBound.{QBound}
use Rattle.tiql_query.specs.declared.relation.QHypo.{QHypo}
use Rattle.tiql_query.specs.declared.world_column.WorldColumn.{WorldColumn}
use Rattle.row_values.specs.Values.{number}
use Rattle.world_def.specs.Columns.{Rows}
use Rattle.world_def.specs.Worlds.{leading, of_row, is_cell, column_at, is_equal, fits_cell, row_fits, row_possible, number_in, standing, count_of, rows_numbers}
use Rattle.world_def.specs.Meaning.{may_change, cell_choice, presence_choice, choices, rows_choices, rows_can}
use Rattle.std.proofs.lemmas.List.Elements.{All-head, All-tail}
use Rattle.std.proofs.Common.{true≢false}
use Rattle.world_def.proofs.Restored.{zero_value, equal_of, fits_at, cells_stay, standing_is, numbers_there, drop_numbers}
use Rattle.world_def.proofs.Runs.{row_run}
use Rattle.prov_fold.specs.Values.{number_at, IsThere}
use Rattle.sym_rows.specs.Hypos.{sides, may_miss, is_there_then, column_of, is_unknown_in, cell_then, cells_then, rows_then, IsFoundThere, CellsThere, RowsThere}

-- ---- numbers in a list

module _ (numbers : List ℤ) (first : ℕ) (n : ℤ) (rest : List ℤ) (h : drop first numbers ≡ n ∷ rest) where
  within : first < length numbers
  within = elim (cases_lt first (length numbers)) [ inl lt ↦ lt | inr le ↦ absurd (let k : ◌≡◌ {A = List ℤ} [] (n ∷ rest) = sym (drop_all first numbers le) ∙ h in cc) ]

  both : get_or numbers first (pos 0) ∷ drop (first + 1) numbers ≡ n ∷ rest
  both = sym (drop_more numbers first (pos 0) within) ∙ h

  here_is : number_at numbers first ≡ n
  here_is = let k = both in cc

  rest_is : drop (first + 1) numbers ≡ rest
  rest_is = let k = both in cc

-- what is found of a world column by its number and without it
abbrev FoundBy : List ℤ → List Value → ℕ → Option (ℕ × WorldColumn) → Option WorldColumn → Type 0
FoundBy numbers row place None None = Unit {0}
FoundBy numbers row place None (Some column) = ⊥
FoundBy numbers row place (Some found) None = ⊥
FoundBy numbers row place (Some found) (Some column) = (found.1 ≡ column) × (found.0 < length numbers) × (number_at numbers found.0 ≡ number (get_or row place zero_value))

number_of_cell : (row : List Value) (place : ℕ) (column : WorldColumn) → is_cell place column.cell ≡ true → number_in (Some row) column ≡ number (get_or row place zero_value)
unfolding number_in
number_of_cell row place column e = by_cell column.cell refl e
  where
    by_cell : (cell : Option ℕ) → column.cell ≡ cell → is_cell place cell ≡ true → number_in (Some row) column ≡ number (get_or row place zero_value)
    by_cell None is e = absurd (let k : false ≡ true = e in cc)
    by_cell (Some q) is e = rw is (ap (λ (n : ℕ). number (unwrap_or (slice_get row n) (Int (pos 0)))) (equal_of q place e) ∙ ap number (unwrap_or-slice_get row place (Int (pos 0))))

found_by : (numbers : List ℤ) (row : List Value) (place first : ℕ) (columns : List WorldColumn) (more : List ℤ) → drop first numbers ≡ map (number_in (Some row)) columns ++ more → FoundBy numbers row place (column_of place first columns) (column_at columns place)
unfolding column_of column_at
found_by numbers row place first [] more h = tt
found_by numbers row place first (column ∷ columns) more h =
    by_test (is_cell place column.cell) refl (found_by numbers row place (first + 1) columns more (rest_is numbers first (number_in (Some row) column) (map (number_in (Some row)) columns ++ more) h))
  where
    by_test : (b : Bool) → is_cell place column.cell ≡ b → FoundBy numbers row place (column_of place (first + 1) columns) (column_at columns place)
        → FoundBy numbers row place (cond b (Some (first, column)) (column_of place (first + 1) columns)) (cond b (Some column) (column_at columns place))
    by_test true e later = (refl, within numbers first (number_in (Some row) column) (map (number_in (Some row)) columns ++ more) h, here_is numbers first (number_in (Some row) column) (map (number_in (Some row)) columns ++ more) h ∙ number_of_cell row place column e)
    by_test false e later = later

-- ---- one cell

equal_is : (o : Ordering) → is_equal o ≡ true → o ≡ Equal
equal_is Less e = absurd (let t : false ≡ true = e in cc)
equal_is Equal e = refl
equal_is Greater e = absurd (let t : false ≡ true = e in cc)

same_cell : (base value : Value) → fits_cell None base value ≡ true → base ≡ value
same_cell base value e = (value_order-Equal base value).0 (ap is_eq (equal_is (value_order base value) e))

le_of : (m n : ℤ) → int_le m n ≡ true → m ≤ℤ n
le_of m n e = grind (arith, ints)

within_sides : (column : WorldColumn) (n : ℤ) → column.lo ≤ℤ n → n ≤ℤ column.hi → ((sides column).lo ≤ℤ n) × (n ≤ℤ (sides column).hi)
within_sides column n low high = by_drop column.droppable refl
  where
    by_drop : (b : Bool) → column.droppable ≡ b → ((sides column).lo ≤ℤ n) × (n ≤ℤ (sides column).hi)
    by_drop true e = rw e (grind (arith, ints, low), grind (arith, ints, high))
    by_drop false e = rw e (low, high)

cell_there : (numbers : List ℤ) (row : List Value) (place : ℕ) (found : Option (ℕ × WorldColumn)) (column : Option WorldColumn) (base : Value) → FoundBy numbers row place found column → fits_cell column base (get_or row place zero_value) ≡ true → IsFoundThere numbers found
cell_there numbers row place None column base by e = tt
cell_there numbers row place (Some found) None base by e = absurd by
cell_there numbers row place (Some found) (Some column) base by e = by_value (get_or row place zero_value) refl e
  where
    by_value : (value : Value) → get_or row place zero_value ≡ value → fits_cell (Some column) base value ≡ true → IsThere numbers found.0 (sides found.1)
    by_value (Int n) is e =
        let parts = and_parts (int_le column.lo n) (int_le n column.hi) e in
        let low = le_of column.lo n parts.0 in
        let high = le_of n column.hi parts.1 in
        let ends = within_sides column n low high in
        let value : number_at numbers found.0 ≡ n = by.2 ∙ ap number is in
        record {
          there = by.1;
          low = subst (λ (c : WorldColumn). (sides c).lo ≤ℤ number_at numbers found.0) (sym by.0) (subst (λ (m : ℤ). (sides column).lo ≤ℤ m) (sym value) ends.0);
          high = subst (λ (c : WorldColumn). number_at numbers found.0 ≤ℤ (sides c).hi) (sym by.0) (subst (λ (m : ℤ). m ≤ℤ (sides column).hi) (sym value) ends.1);
        }
    by_value (Text t) is e = absurd (let k : false ≡ true = e in cc)

-- a cell that has no world column in an unknown column holds a number
cell_is : (numbers : List ℤ) (row : List Value) (place : ℕ) (unknown : Bool) (found : Option (ℕ × WorldColumn)) (column : Option WorldColumn) (base : Value) → FoundBy numbers row place found column → (unknown ≡ true → Int (number base) ≡ base)
    → fits_cell column base (get_or row place zero_value) ≡ true → cell_then numbers unknown base found ≡ get_or row place zero_value
cell_is numbers row place true None None base by known e = known refl ∙ same_cell base (get_or row place zero_value) e
cell_is numbers row place false None None base by known e = same_cell base (get_or row place zero_value) e
cell_is numbers row place unknown None (Some column) base by known e = absurd by
cell_is numbers row place unknown (Some found) None base by known e = absurd by
cell_is numbers row place unknown (Some found) (Some column) base by known e = by_value (get_or row place zero_value) refl e
  where
    by_value : (value : Value) → get_or row place zero_value ≡ value → fits_cell (Some column) base value ≡ true → Int (number_at numbers found.0) ≡ get_or row place zero_value
    by_value (Int n) is e = ap (λ (m : ℤ). Int m) (by.2 ∙ ap number is) ∙ sym is
    by_value (Text t) is e = absurd (let k : false ≡ true = e in cc)

-- ---- one row

-- in an unknown column stands a number
abbrev pub AreNumbers : List Column → List Value → Type 0
AreNumbers columns base = (place : ℕ) → place < length base → is_unknown_in columns place ≡ true → Int (number (get_or base place zero_value)) ≡ get_or base place zero_value

fits_length : (columns : List WorldColumn) (place : ℕ) (base row : List Value) → row_fits columns place base row ≡ true → length row ≡ length base
unfolding row_fits
fits_length columns place [] [] e = refl
fits_length columns place [] (w ∷ row) e = absurd (let k : false ≡ true = e in cc)
fits_length columns place (v ∷ base) [] e = absurd (let k : false ≡ true = e in cc)
fits_length columns place (v ∷ base) (w ∷ row) e = ap suc (fits_length columns (place + 1) base row (and_parts (fits_cell (column_at columns place) v w) (row_fits columns (place + 1) base row) e).1)

module _ (numbers : List ℤ) (columns : List Column) (first : ℕ) (mine : List WorldColumn) where
  then_length : (place : ℕ) (base : List Value) → length (cells_then numbers columns first mine place base) ≡ length base
  unfolding cells_then
  then_length place [] = refl
  then_length place (value ∷ base) = ap suc (then_length (place + 1) base)

  then_at : (place : ℕ) (base : List Value) (i : ℕ) → i < length base → get_or (cells_then numbers columns first mine place base) i zero_value ≡ cell_then numbers (is_unknown_in columns (place + i)) (get_or base i zero_value) (column_of (place + i) first mine)
  unfolding cells_then
  then_at place [] i lt = absurd (omega arith)
  then_at place (value ∷ base) zero lt = ap (λ (n : ℕ). cell_then numbers (is_unknown_in columns n) value (column_of n first mine)) (let k : place ≡ place + 0 = omega arith in k)
  then_at place (value ∷ base) (suc i) lt = then_at (place + 1) base i (omega (arith, lt)) ∙ ap (λ (n : ℕ). cell_then numbers (is_unknown_in columns n) (get_or base i zero_value) (column_of n first mine)) (let k : place + 1 + i ≡ place + suc i = omega arith in k)

  module _ (base row : List Value) (more : List ℤ) (h : drop first numbers ≡ map (number_in (Some row)) mine ++ more) (fits : row_fits mine 0 base row ≡ true) where
    fit_at : (place : ℕ) → place < length base → fits_cell (column_at mine place) (get_or base place zero_value) (get_or row place zero_value) ≡ true
    fit_at place lt = ap (λ (n : ℕ). fits_cell (column_at mine n) (get_or base place zero_value) (get_or row place zero_value)) (let k : place ≡ 0 + place = omega arith in k) ∙ fits_at mine 0 base row place fits lt

    row_there : CellsThere numbers first mine base
    row_there place lt = cell_there numbers row place (column_of place first mine) (column_at mine place) (get_or base place zero_value) (found_by numbers row place first mine more h) (fit_at place lt)

    row_is : AreNumbers columns base → cells_then numbers columns first mine 0 base ≡ row
    row_is known =
        ext_get_or zero_value (cells_then numbers columns first mine 0 base) row (then_length 0 base ∙ sym (fits_length mine 0 base row fits))
        (λ i lt. let long = then_length 0 base in let inside : i < length base = omega (arith, lt, long) in
        then_at 0 base i inside
        ∙ ap (λ (n : ℕ). cell_then numbers (is_unknown_in columns n) (get_or base i zero_value) (column_of n first mine)) (let k : 0 + i ≡ i = omega arith in k)
        ∙ cell_is numbers row i (is_unknown_in columns i) (column_of i first mine) (column_at mine i) (get_or base i zero_value) (found_by numbers row i first mine more h) (known i inside) (fit_at i inside))

-- ---- whether a row is there

set_stays : (hypo : ℕ) (droppable : Bool) (at : ℕ) (base : List Value) (set : List QBound) → may_miss (map (cell_choice hypo droppable at base) set) ≡ false
unfolding may_miss cell_choice
set_stays hypo droppable at base [] = refl
set_stays hypo droppable at base (bound ∷ set) = refl

there_is : (numbers : List ℤ) (hypo : ℕ) (table : QHypo) (at first : ℕ) (base : List Value) (here : Option (List Value)) (more : List ℤ) → drop first numbers ≡ map (number_in here) (choices hypo table at base) ++ more → row_possible (choices hypo table at base) base here ≡ true
    → is_there_then numbers first (choices hypo table at base) ≡ is_some here
unfolding choices row_possible number_in may_miss
there_is numbers hypo table at first base here more = by_test (may_change table.filter base) table.droppable here
  where
    cells : List WorldColumn
    cells = map (cell_choice hypo table.droppable at base) table.set

    mine : Bool → Bool → List WorldColumn
    mine b d = if b then presence_choice hypo d at ++ cells else []

    settled : (chosen : List WorldColumn) → may_miss chosen ≡ false → (here : Option (List Value)) → (list_any (λ c. is_none c.cell) chosen ≡ false) → row_possible chosen base here ≡ true → is_there_then numbers first chosen ≡ is_some here
    settled chosen e None none p = absurd (let k : false ≡ true = sym none ∙ p in cc)
    settled chosen e (Some row) none p = ap (λ (b : Bool). cond b (int_eq (number_at numbers first) (pos 1)) true) e

    by_test : (b d : Bool) (here : Option (List Value)) → drop first numbers ≡ map (number_in here) (mine b d) ++ more → row_possible (mine b d) base here ≡ true → is_there_then numbers first (mine b d) ≡ is_some here
    by_test true true None h p = ap (λ (n : ℤ). int_eq n (pos 1)) (here_is numbers first (pos 0) (map (number_in None) cells ++ more) h)
    by_test true true (Some row) h p = ap (λ (n : ℤ). int_eq n (pos 1)) (here_is numbers first (pos 1) (map (number_in (Some row)) cells ++ more) h)
    by_test true false here h p = settled cells (set_stays hypo table.droppable at base table.set) here (cells_stay hypo table.droppable at base table.set) p
    by_test false d here h p = settled [] refl here refl p

-- ---- all rows

module _ (numbers : List ℤ) (columns : List Column) (hypo : ℕ) (table : QHypo) where
  abbrev pub RowsAre : ℕ → ℕ → Rows → List WorldColumn → Rows → Type 0
  RowsAre at first bases chosen rows = RowsThere numbers at first bases chosen × (rows_then numbers columns at first bases chosen ≡ rows)

  module _ (base : List Value) (bases : Rows) (at first : ℕ) (mine rest : List WorldColumn) (rows : Rows) where
    -- the columns of a row, and those behind them
    first_row : (l : ℕ) (chosen : List WorldColumn) → leading (of_row at) chosen ≡ l → take l chosen ≡ mine → drop l chosen ≡ rest → l ≡ length mine
        → (is_there_then numbers first mine ≡ true → CellsThere numbers first mine base) → RowsThere numbers (at + 1) (first + length mine) bases rest
        → ((if is_there_then numbers first mine then cells_then numbers columns first mine 0 base ∷ [] else []) ++ rows_then numbers columns (at + 1) (first + length mine) bases rest) ≡ rows
        → RowsAre at first (base ∷ bases) chosen rows
    unfolding RowsThere rows_then
    first_row l chosen e t d long cells there same = rw (e, t, d, long) ((cells, there), same)

  pub rows_are : (bases : Rows) (at first : ℕ) (picks : List ℕ) (rows : Rows) (more : List ℤ) → All (AreNumbers columns) bases → drop first numbers ≡ rows_numbers at bases (rows_choices hypo table at bases) picks rows ++ more → rows_can hypo table at bases picks rows ≡ true
      → RowsAre at first bases (rows_choices hypo table at bases) rows
  unfolding rows_can rows_choices RowsThere rows_then row_possible count_of
  rows_are [] at first [] [] more known h can = (tt, refl)
  rows_are [] at first [] (row ∷ rows) more known h can = absurd (let k : false ≡ true = can in cc)
  rows_are [] at first (pick ∷ picks) rows more known h can = absurd (let k : false ≡ true = can in cc)
  rows_are (base ∷ bases) at first picks rows more known h can =
      let ps = and_parts (row_possible (choices hypo table at base) base (standing at picks rows)) (rows_can hypo table (at + 1) bases (drop (count_of (standing at picks rows)) picks) (drop (count_of (standing at picks rows)) rows)) can in
      let hh : drop first numbers ≡ map (number_in (standing at picks rows)) mine ++ (later ++ more) =
      h ∙ ap (λ (l : List ℤ). l ++ more) (numbers_there hypo table at base bases picks rows) ∙ append_assoc (map (number_in (standing at picks rows)) mine) later more in
      let behind : drop (first + length mine) numbers ≡ later ++ more = sym (drop-drop (length mine) first numbers) ∙ ap (drop (length mine)) hh ∙ drop_numbers (number_in (standing at picks rows)) mine (later ++ more) in
      by_here (standing at picks rows) refl ps.0 hh (rows_are bases (at + 1) (first + length mine) (drop (count_of (standing at picks rows)) picks) (drop (count_of (standing at picks rows)) rows) more (All-tail (AreNumbers columns) base bases known) behind ps.1)
    where
      mine : List WorldColumn
      mine = choices hypo table at base

      rest : List WorldColumn
      rest = rows_choices hypo table (at + 1) bases

      later : List ℤ
      later = rows_numbers (at + 1) bases (rows_choices hypo table (at + 1) bases) (drop (count_of (standing at picks rows)) picks) (drop (count_of (standing at picks rows)) rows)

      by_here : (here : Option (List Value)) → standing at picks rows ≡ here → row_possible mine base here ≡ true → drop first numbers ≡ map (number_in here) mine ++ (later ++ more)
          → RowsAre (at + 1) (first + length mine) bases rest (drop (count_of here) rows) → RowsAre at first (base ∷ bases) (mine ++ rest) rows
      by_here None is p hh ih =
          let off = there_is numbers hypo table at first base None (later ++ more) hh p in
          let run = row_run hypo table at base bases in
          first_row base bases at first mine rest rows (length mine) (mine ++ rest) run (take-append_seam mine rest) (drop-append_seam mine rest) refl
          (λ e. absurd (true≢false (sym e ∙ off))) ih.0
          (ap (λ (b : Bool). cond b (cells_then numbers columns first mine 0 base ∷ []) [] ++ rows_then numbers columns (at + 1) (first + length mine) bases rest) off ∙ ih.1)
      by_here (Some row) is p hh ih =
          let on = there_is numbers hypo table at first base (Some row) (later ++ more) hh p in
          let run = row_run hypo table at base bases in
          first_row base bases at first mine rest rows (length mine) (mine ++ rest) run (take-append_seam mine rest) (drop-append_seam mine rest) refl
          (λ e. row_there numbers columns first mine base row (later ++ more) hh p) ih.0
          (ap (λ (b : Bool). cond b (cells_then numbers columns first mine 0 base ∷ []) [] ++ rows_then numbers columns (at + 1) (first + length mine) bases rest) on
          ∙ ap₂ (λ (w : List Value) (l : Rows). w ∷ l) (row_is numbers columns first mine base row (later ++ more) hh p (All-head (AreNumbers columns) base bases known)) ih.1
          ∙ sym (standing_is at picks rows row is).1)
