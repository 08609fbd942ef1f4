-- a possible world is the world that has its numbers
use Rattle.std.proofs.Common.{◌≡◌, ◌≢◌, ℕ, zero, suc, ℤ, pos, ◌+◌, ◌<◌, ◌==◌, ◌&&◌, Bool, true, false, List, [], ◌∷◌, ◌++◌, length, map, take, drop, get_or, refl, sym, ◌∙◌, ap, ap₂, arith, Option, Some, None, if◌then◌else◌}
use Rattle.std.specs.Prelude.{is_none, is_some, slice_get, slice_set, unwrap_or}
use Rattle.std.specs.List.{list_any}
use Rattle.std.specs.Ordering.{is_eq}
use Rattle.std.specs.declared.cmp.Ordering.{Ordering}
use Rattle.std.specs.declared.cmp.Ordering.TheVariants.{Less, Equal, Greater}
use Rattle.std.proofs.Math.Seq.{take-append_seam, drop-append_seam}
use Rattle.std.proofs.lemmas.List.{length-append, length-map, length-set, get_or-set_same, get_or-set_other, ext_get_or, drop_more, drop_all}
use Rattle.std.proofs.lemmas.Option.{unwrap_or-slice_get, get_or_from_slice_get}
use Rattle.std.proofs.lemmas.Bool.{and_parts}
use Rattle.std.proofs.lemmas.Bool.Decides.{nat_tests}
use Rattle.base_kit.specs.Orders.{value_order}
use Rattle.base_kit.proofs.Orders.{value_order-Equal}
use Rattle.base_kit.specs.declared.value.Value.{Value}
use Rattle.base_kit.specs.declared.value.Value.TheVariants.{Int, Text}
use Rattle.tiql_query.specs.declared.relation.QBound.{QBound}
use Rattle.tiql_query.specs.declared.relation.QHypo.{QHypo}
use Rattle.tiql_query.specs.declared.query.Query.{Query}
use Rattle.tiql_query.specs.declared.world_column.WorldColumn.{WorldColumn}
use Rattle.world_def.specs.declared.world.World.{World}
use Rattle.world_def.specs.declared.world.WorldTable.{WorldTable}
use Rattle.row_values.specs.Values.{number}
use Rattle.world_def.specs.Columns.{Rows, Tables, rows_of}
use Rattle.world_def.specs.Worlds.{standing, count_of, is_cell, column_at, is_equal, fits_cell, row_fits, row_possible, number_in, rows_numbers, world_numbers, with_number, row_with, is_left_out, put_row, no_rows, rows_at, tables_at, are_none}
use Rattle.world_def.specs.Meaning.{may_change, cell_choice, presence_choice, choices, rows_choices, all_choices, rows_can, table_can, tables_can, IsPossible}
use Rattle.world_def.proofs.Walks.{same_number}
use Rattle.world_def.proofs.Runs.{row_run, hypo_run}

abbrev pub zero_value : Value
zero_value = Int (pos 0)

pub equal_of : (m n : ℕ) → (m == n) ≡ true → m ≡ n
equal_of m n e = grind (arith, nat_tests)

differ_of : (m n : ℕ) → (m == n) ≡ false → m ≢ n
differ_of m n e k = absurd (let t : true ≡ false = sym (same_number m n k) ∙ e in cc)

same_if : {A : Type 0} (b : Bool) (x : A) → (if b then x else x) ≡ x
same_if true x = refl
same_if false x = refl

-- what one column's number makes of a row
module _ (c : WorldColumn) (row cur : List Value) where
  keeps_length : length (with_number c (number_in (Some row) c) cur) ≡ length cur
  unfolding with_number number_in
  keeps_length = by_cell c.cell refl
    where
      by_cell : (cell : Option ℕ) → c.cell ≡ cell → length (with_number c (number_in (Some row) c) cur) ≡ length cur
      by_cell None e = rw (e) refl
      by_cell (Some q) e = rw (e) (length-set cur q (Int (number (unwrap_or (slice_get row q) (Int (pos 0))))))

  one_read : (p : ℕ) → p < length cur → get_or (with_number c (number_in (Some row) c) cur) p zero_value ≡ (if is_cell p c.cell then Int (number (get_or row p zero_value)) else get_or cur p zero_value)
  unfolding with_number number_in
  one_read p lt = by_cell c.cell refl
    where
      by_cell : (cell : Option ℕ) → c.cell ≡ cell → get_or (with_number c (number_in (Some row) c) cur) p zero_value ≡ (if is_cell p c.cell then Int (number (get_or row p zero_value)) else get_or cur p zero_value)
      by_cell None e = rw (e) refl
      by_cell (Some q) e = rw (e) (by_place (q == p) refl)
        where
          by_place : (b : Bool) → (q == p) ≡ b → get_or (slice_set cur q (Int (number (unwrap_or (slice_get row q) (Int (pos 0)))))) p (Int (pos 0)) ≡ (if q == p then Int (number (get_or row p (Int (pos 0)))) else get_or cur p (Int (pos 0)))
          by_place true t = let k = equal_of q p t in rw (t, k, unwrap_or-slice_get row p (Int (pos 0))) (get_or-set_same cur p (Int (number (get_or row p (Int (pos 0))))) (Int (pos 0)) lt)
          by_place false t = rw (t) (get_or-set_other cur q p (Int (number (unwrap_or (slice_get row q) (Int (pos 0))))) (Int (pos 0)) (λ k. differ_of q p t (sym k)))

row_length : (cells : List WorldColumn) (row cur : List Value) → length (row_with cells (map (number_in (Some row)) cells) cur) ≡ length cur
unfolding row_with
row_length [] row cur = refl
row_length (c ∷ cells) row cur = row_length cells row (with_number c (number_in (Some row) c) cur) ∙ keeps_length c row cur

-- a set cell has the row's number then, and any other what it had
read_with : (cells : List WorldColumn) (row cur : List Value) (p : ℕ) → p < length cur → get_or (row_with cells (map (number_in (Some row)) cells) cur) p zero_value ≡ (if is_some (column_at cells p) then Int (number (get_or row p zero_value)) else get_or cur p zero_value)
unfolding row_with column_at
read_with [] row cur p lt = refl
read_with (c ∷ cells) row cur p lt =
    read_with cells row (with_number c (number_in (Some row) c) cur) p (rw (keeps_length c row cur) lt) ∙ by_test (is_cell p c.cell) refl (one_read c row cur p lt)
  where
    by_test : (b : Bool) → is_cell p c.cell ≡ b → get_or (with_number c (number_in (Some row) c) cur) p zero_value ≡ (if is_cell p c.cell then Int (number (get_or row p zero_value)) else get_or cur p zero_value)
        → (if is_some (column_at cells p) then Int (number (get_or row p zero_value)) else get_or (with_number c (number_in (Some row) c) cur) p zero_value)
        ≡ (if is_some (if is_cell p c.cell then Some c else column_at cells p) then Int (number (get_or row p zero_value)) else get_or cur p zero_value)
    by_test true t h = rw (t) (rw (h, t) (same_if (is_some (column_at cells p)) (Int (number (get_or row p zero_value)))))
    by_test false t h = rw (t) (rw (h, t) refl)

equal_is : (o : Ordering) → is_equal o ≡ true → o ≡ Equal
equal_is Less e = absurd (let t : false ≡ true = e in cc)
equal_is Equal e = refl
equal_is Greater e = absurd (let t : false ≡ true = e in cc)

fit_value : (column : Option WorldColumn) (base value : Value) → fits_cell column base value ≡ true → value ≡ (if is_some column then Int (number value) else base)
fit_value None base value e = sym ((value_order-Equal base value).0 (ap is_eq (equal_is (value_order base value) e)))
fit_value (Some c) base (Int n) e = refl
fit_value (Some c) base (Text t) e = absurd (let k : false ≡ true = e in cc)

fits_length : (columns : List WorldColumn) (place : ℕ) (base row : List Value) → row_fits columns place base row ≡ true → length row ≡ length base
unfolding row_fits
fits_length columns place [] [] e = refl
fits_length columns place [] (w ∷ row) e = absurd (let k : false ≡ true = e in cc)
fits_length columns place (v ∷ base) [] e = absurd (let k : false ≡ true = e in cc)
fits_length columns place (v ∷ base) (w ∷ row) e = ap suc (fits_length columns (place + 1) base row (and_parts (fits_cell (column_at columns place) v w) (row_fits columns (place + 1) base row) e).1)

pub fits_at : (columns : List WorldColumn) (place : ℕ) (base row : List Value) (i : ℕ) → row_fits columns place base row ≡ true → i < length base → fits_cell (column_at columns (place + i)) (get_or base i zero_value) (get_or row i zero_value) ≡ true
unfolding row_fits
fits_at columns place [] [] i e lt = absurd (omega (arith, lt))
fits_at columns place [] (w ∷ row) i e lt = absurd (omega (arith, lt))
fits_at columns place (v ∷ base) [] i e lt = absurd (let k : false ≡ true = e in cc)
fits_at columns place (v ∷ base) (w ∷ row) zero e lt = let k : place + 0 ≡ place = omega arith in rw (k) (and_parts (fits_cell (column_at columns place) v w) (row_fits columns (place + 1) base row) e).0
fits_at columns place (v ∷ base) (w ∷ row) (suc i) e lt =
    let k : place + suc i ≡ (place + 1) + i = omega arith in
    rw (k) (fits_at columns (place + 1) base row i (and_parts (fits_cell (column_at columns place) v w) (row_fits columns (place + 1) base row) e).1 (omega (arith, lt)))

-- a row that fits is what its numbers make of the row of the table
pub row_restored : (columns : List WorldColumn) (base row : List Value) → row_fits columns 0 base row ≡ true → row_with columns (map (number_in (Some row)) columns) base ≡ row
row_restored columns base row e =
    ext_get_or zero_value (row_with columns (map (number_in (Some row)) columns) base) row (row_length columns row base ∙ sym (fits_length columns 0 base row e))
    (λ i lt. let k = row_length columns row base in let inside : i < length base = omega (arith, lt, k) in
    read_with columns row base i inside ∙ sym (fit_value (column_at columns i) (get_or base i zero_value) (get_or row i zero_value) (let from : 0 + i ≡ i = omega arith in ap (λ n. fits_cell (column_at columns n) (get_or base i zero_value) (get_or row i zero_value)) (sym from) ∙ fits_at columns 0 base row i e inside)))

-- a row that is left out has 0 as the number of its presence, and a row that is there has not
pub cells_stay : (hypo : ℕ) (droppable : Bool) (at : ℕ) (row : List Value) (set : List QBound) → list_any (λ c. is_none c.cell) (map (cell_choice hypo droppable at row) set) ≡ false
unfolding cell_choice
cells_stay hypo droppable at row [] = refl
cells_stay hypo droppable at row (bound ∷ set) = cells_stay hypo droppable at row set

left_out : (hypo : ℕ) (table : QHypo) (at : ℕ) (row : List Value) → list_any (λ c. is_none c.cell) (choices hypo table at row) ≡ true → is_left_out (choices hypo table at row) (map (number_in None) (choices hypo table at row)) ≡ true
unfolding choices is_left_out number_in
left_out hypo table at row = by_test (may_change table.filter row) table.droppable
  where
    by_test : (b d : Bool) → list_any (λ c. is_none c.cell) (if b then presence_choice hypo d at ++ map (cell_choice hypo table.droppable at row) table.set else []) ≡ true
        → is_left_out (if b then presence_choice hypo d at ++ map (cell_choice hypo table.droppable at row) table.set else []) (map (number_in None) (if b then presence_choice hypo d at ++ map (cell_choice hypo table.droppable at row) table.set else [])) ≡ true
    by_test true true e = refl
    by_test true false e = absurd (let k : false ≡ true = sym (cells_stay hypo table.droppable at row table.set) ∙ e in cc)
    by_test false d e = absurd (let k : false ≡ true = e in cc)

cells_there : (hypo : ℕ) (droppable : Bool) (at : ℕ) (base : List Value) (set : List QBound) (row : List Value) → is_left_out (map (cell_choice hypo droppable at base) set) (map (number_in (Some row)) (map (cell_choice hypo droppable at base) set)) ≡ false
unfolding cell_choice is_left_out
cells_there hypo droppable at base [] row = refl
cells_there hypo droppable at base (bound ∷ set) row = refl

there : (hypo : ℕ) (table : QHypo) (at : ℕ) (base row : List Value) → is_left_out (choices hypo table at base) (map (number_in (Some row)) (choices hypo table at base)) ≡ false
unfolding choices is_left_out number_in
there hypo table at base row = by_test (may_change table.filter base) table.droppable
  where
    by_test : (b d : Bool)
        → is_left_out (if b then presence_choice hypo d at ++ map (cell_choice hypo table.droppable at base) table.set else []) (map (number_in (Some row)) (if b then presence_choice hypo d at ++ map (cell_choice hypo table.droppable at base) table.set else [])) ≡ false
    by_test true true = refl
    by_test true false = cells_there hypo table.droppable at base table.set row
    by_test false d = refl

-- the first row that is left stands over the row of the table
pub standing_is : (at : ℕ) (picks : List ℕ) (rows : Rows) (row : List Value) → standing at picks rows ≡ Some row → (picks ≡ at ∷ drop 1 picks) × (rows ≡ row ∷ drop 1 rows)
unfolding standing
standing_is at [] rows row e = absurd (let k : ◌≡◌ {A = Option (List Value)} None (Some row) = e in cc)
standing_is at (pick ∷ picks) [] row e = absurd (let k : ◌≡◌ {A = Option (List Value)} None (Some row) = e in cc)
standing_is at (pick ∷ picks) (first ∷ rows) row e = by_test (pick == at) refl e
  where
    by_test : (b : Bool) → (pick == at) ≡ b → (if pick == at then Some first else None) ≡ Some row → (pick ∷ picks ≡ at ∷ picks) × (first ∷ rows ≡ row ∷ rows)
    by_test true t h = (ap (λ n. n ∷ picks) (equal_of pick at t), (let k : ◌≡◌ {A = Option (List Value)} (Some first) (Some row) = sym (rw (t) refl) ∙ h in ap (λ r. r ∷ rows) cc))
    by_test false t h = absurd (let k : ◌≡◌ {A = Option (List Value)} None (Some row) = sym (rw (t) refl) ∙ h in cc)

table_of : List ℕ → Rows → WorldTable
table_of picks rows = record { picks = picks; rows = rows }

module _ (hypo : ℕ) (table : QHypo) (at : ℕ) (base : List Value) (picks : List ℕ) (rows : Rows) where
  put_back : (here : Option (List Value)) → standing at picks rows ≡ here → row_possible (choices hypo table at base) base here ≡ true
      → put_row (is_left_out (choices hypo table at base) (map (number_in here) (choices hypo table at base))) at (row_with (choices hypo table at base) (map (number_in here) (choices hypo table at base)) base) (table_of (drop (count_of here) picks) (drop (count_of here) rows))
      ≡ table_of picks rows
  unfolding row_possible count_of table_of
  put_back None e p = rw (left_out hypo table at base p) refl
  put_back (Some row) e p =
      let is = standing_is at picks rows row e in
      rw (there hypo table at base row, row_restored (choices hypo table at base) base row p) (sym (ap₂ table_of is.0 is.1))

pub take_numbers : (f : WorldColumn → ℤ) (xs : List WorldColumn) (more : List ℤ) → take (length xs) (map f xs ++ more) ≡ map f xs
take_numbers f xs more = ap (λ n. take n (map f xs ++ more)) (let k : length (map f xs) ≡ length xs = length-map xs f in sym k) ∙ take-append_seam (map f xs) more

pub drop_numbers : (f : WorldColumn → ℤ) (xs : List WorldColumn) (more : List ℤ) → drop (length xs) (map f xs ++ more) ≡ more
drop_numbers f xs more = ap (λ n. drop n (map f xs ++ more)) (let k : length (map f xs) ≡ length xs = length-map xs f in sym k) ∙ drop-append_seam (map f xs) more

none_left : (picks : List ℕ) (rows : Rows) → (are_none picks && are_none rows) ≡ true → no_rows ≡ table_of picks rows
unfolding table_of
none_left [] [] e = refl
none_left [] (row ∷ rows) e = absurd (let k : false ≡ true = e in cc)
none_left (pick ∷ picks) rows e = absurd (let k : false ≡ true = e in cc)

pub numbers_there : (hypo : ℕ) (table : QHypo) (at : ℕ) (base : List Value) (bases : Rows) (picks : List ℕ) (rows : Rows)
    → rows_numbers at (base ∷ bases) (rows_choices hypo table at (base ∷ bases)) picks rows
    ≡ map (number_in (standing at picks rows)) (choices hypo table at base) ++ rows_numbers (at + 1) bases (rows_choices hypo table (at + 1) bases) (drop (count_of (standing at picks rows)) picks) (drop (count_of (standing at picks rows)) rows)
unfolding rows_numbers rows_choices
numbers_there hypo table at base bases picks rows =
    rw (row_run hypo table at base bases, take-append_seam (choices hypo table at base) (rows_choices hypo table (at + 1) bases), drop-append_seam (choices hypo table at base) (rows_choices hypo table (at + 1) bases)) refl

rows_restored : (hypo : ℕ) (table : QHypo) (bases : Rows) (at : ℕ) (picks : List ℕ) (rows : Rows) → rows_can hypo table at bases picks rows ≡ true
    → rows_at at bases (rows_choices hypo table at bases) (rows_numbers at bases (rows_choices hypo table at bases) picks rows) ≡ table_of picks rows
unfolding rows_can rows_at rows_choices
rows_restored hypo table [] at picks rows e = none_left picks rows e
rows_restored hypo table (base ∷ bases) at picks rows e =
    let ps = and_parts (row_possible (choices hypo table at base) base (standing at picks rows)) (rows_can hypo table (at + 1) bases (drop (count_of (standing at picks rows)) picks) (drop (count_of (standing at picks rows)) rows)) e in
    rw (
      numbers_there hypo table at base bases picks rows,
      row_run hypo table at base bases,
      take-append_seam (choices hypo table at base) (rows_choices hypo table (at + 1) bases),
      drop-append_seam (choices hypo table at base) (rows_choices hypo table (at + 1) bases),
      take_numbers (number_in (standing at picks rows)) (choices hypo table at base) (rows_numbers (at + 1) bases (rows_choices hypo table (at + 1) bases) (drop (count_of (standing at picks rows)) picks) (drop (count_of (standing at picks rows)) rows)),
      drop_numbers (number_in (standing at picks rows)) (choices hypo table at base) (rows_numbers (at + 1) bases (rows_choices hypo table (at + 1) bases) (drop (count_of (standing at picks rows)) picks) (drop (count_of (standing at picks rows)) rows)),
      rows_restored hypo table bases (at + 1) (drop (count_of (standing at picks rows)) picks) (drop (count_of (standing at picks rows)) rows) ps.1,
    )
    (put_back hypo table at base picks rows (standing at picks rows) refl ps.0)

pub numbers_length : (hypo : ℕ) (table : QHypo) (bases : Rows) (at : ℕ) (picks : List ℕ) (rows : Rows) → length (rows_numbers at bases (rows_choices hypo table at bases) picks rows) ≡ length (rows_choices hypo table at bases)
unfolding rows_choices rows_numbers
numbers_length hypo table [] at picks rows = refl
numbers_length hypo table (base ∷ bases) at picks rows =
    ap length (numbers_there hypo table at base bases picks rows)
    ∙ length-append (map (number_in (standing at picks rows)) (choices hypo table at base)) (rows_numbers (at + 1) bases (rows_choices hypo table (at + 1) bases) (drop (count_of (standing at picks rows)) picks) (drop (count_of (standing at picks rows)) rows))
    ∙ ap₂ (λ m n. m + n) (length-map (choices hypo table at base) (number_in (standing at picks rows))) (numbers_length hypo table bases (at + 1) (drop (count_of (standing at picks rows)) picks) (drop (count_of (standing at picks rows)) rows))
    ∙ sym (length-append (choices hypo table at base) (rows_choices hypo table (at + 1) bases))

pub take_whole : (xs ys : List ℤ) (n : ℕ) → length xs ≡ n → take n (xs ++ ys) ≡ xs
take_whole xs ys n e = ap (λ m. take m (xs ++ ys)) (sym e) ∙ take-append_seam xs ys

pub drop_whole : (xs ys : List ℤ) (n : ℕ) → length xs ≡ n → drop n (xs ++ ys) ≡ ys
drop_whole xs ys n e = ap (λ m. drop m (xs ++ ys)) (sym e) ∙ drop-append_seam xs ys

tables_restored : (tables : Tables) (world : List WorldTable) (hypos : List QHypo) (hypo : ℕ) → length world ≡ hypo + length hypos → tables_can tables world hypo hypos ≡ true
    → tables_at tables hypo hypos (all_choices tables hypo hypos) (world_numbers tables world hypo hypos (all_choices tables hypo hypos)) ≡ drop hypo world
unfolding tables_can tables_at all_choices world_numbers table_of
tables_restored tables world [] hypo long e = sym (drop_all hypo world (omega (arith, long)))
tables_restored tables world (table ∷ others) hypo long e =
    let ps = and_parts (table_can hypo table (rows_of tables table.table) (slice_get world hypo)) (tables_can tables world (hypo + 1) others) e in
    by_table (slice_get world hypo) refl ps.0 (tables_restored tables world others (hypo + 1) (omega (arith, long)) ps.1)
  where
    mine : List WorldColumn
    mine = rows_choices hypo table 0 (rows_of tables table.table)

    rest : List WorldColumn
    rest = all_choices tables (hypo + 1) others

    more : List ℤ
    more = world_numbers tables world (hypo + 1) others rest

    by_table : (made : Option WorldTable) → slice_get world hypo ≡ made → table_can hypo table (rows_of tables table.table) made ≡ true
        → tables_at tables (hypo + 1) others rest more ≡ drop (hypo + 1) world
        → tables_at tables hypo (table ∷ others) (mine ++ rest) (world_numbers tables world hypo (table ∷ others) (mine ++ rest)) ≡ drop hypo world
    by_table None is can later = absurd (let k : false ≡ true = can in cc)
    by_table (Some made) is can later =
        let numbers = rows_numbers 0 (rows_of tables table.table) mine made.picks made.rows in
        let long_ : length numbers ≡ length mine = numbers_length hypo table (rows_of tables table.table) 0 made.picks made.rows in
        rw (
          hypo_run tables hypo table others,
          take-append_seam mine rest,
          drop-append_seam mine rest,
          is,
          take_whole numbers more (length mine) long_,
          drop_whole numbers more (length mine) long_,
          rows_restored hypo table (rows_of tables table.table) 0 made.picks made.rows can,
          later,
        )
        (sym (drop_more world hypo made (omega (arith, long)) ∙ ap (λ t. t ∷ drop (hypo + 1) world) (get_or_from_slice_get world hypo made made is)))

-- a possible world is the world of its numbers
pub world_restored : (query : Query) (tables : Tables) (columns : List WorldColumn) (world : World) → columns ≡ all_choices tables 0 query.hypos → IsPossible query tables world
    → tables_at tables 0 query.hypos columns (world_numbers tables world.tables 0 query.hypos columns) ≡ world.tables
world_restored query tables columns world made p = rw (made) (tables_restored tables world.tables query.hypos 0 (p.long ∙ sym (let k : 0 + length query.hypos ≡ length query.hypos = omega arith in k)) p.rows)
