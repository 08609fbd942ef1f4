-- walks along the rows of worlds, and along the columns of their numbers
use Rattle.std.proofs.Common.{◌≡◌, ◌≢◌, ℕ, ◌+◌, ◌<◌, ◌≤◌, ◌==◌, ◌&&◌, Bool, true, false, List, [], ◌∷◌, length, get_or, take, drop, refl, sym, ◌∙◌, ap, arith, Option, Some, None}
use Rattle.std.specs.Prelude.{slice_get}
use Rattle.std.proofs.lemmas.List.{drop_more, drop_all, drop-drop, length-drop}
use Rattle.std.proofs.lemmas.Bool.Decides.{nat_tests}
use Rattle.base_kit.specs.declared.value.Value.{Value}
use Rattle.tiql_query.specs.declared.relation.QHypo.{QHypo}
use Rattle.tiql_query.specs.declared.world_column.WorldColumn.{WorldColumn}
use Rattle.world_def.specs.declared.world.WorldTable.{WorldTable}
use Rattle.world_def.specs.Columns.{Rows, Tables, rows_of}
use Rattle.world_def.specs.Worlds.{leading, of_hypo, of_row, standing, count_of, is_cell, column_at, fits_cell, row_fits, row_possible, are_none, rows_possible, table_possible, surplus, first_impossible}

pub same_number : (m n : ℕ) → m ≡ n → (m == n) ≡ true
same_number m n e = grind (arith, nat_tests)

pub other_number : (m n : ℕ) → m ≢ n → (m == n) ≡ false
other_number m n e = grind (arith, nat_tests)

module _ (is_so : WorldColumn → Bool) (xs : List WorldColumn) (i : ℕ) (d : WorldColumn) (r : ℕ) where
  more : i < length xs → is_so (get_or xs i d) ≡ true → leading is_so (drop i xs) ≡ 1 + leading is_so (drop (i + 1) xs)
  unfolding leading
  more lt e = rw (drop_more xs i d lt, e) refl

  none_here : i < length xs → is_so (get_or xs i d) ≡ false → leading is_so (drop i xs) ≡ 0
  unfolding leading
  none_here lt e = rw (drop_more xs i d lt, e) refl

  pub leading_step : i < length xs → is_so (get_or xs i d) ≡ true → i + leading is_so (drop i xs) ≡ r → (i + 1) + leading is_so (drop (i + 1) xs) ≡ r
  leading_step lt e h = let k = more lt e in omega (arith, k, h)

  pub leading_here : i < length xs → is_so (get_or xs i d) ≡ false → i + leading is_so (drop i xs) ≡ r → i ≡ r
  leading_here lt e h = let k = none_here lt e in omega (arith, k, h)

nothing_left : (is_so : WorldColumn → Bool) (xs : List WorldColumn) (i : ℕ) → length xs ≤ i → leading is_so (drop i xs) ≡ 0
unfolding leading
nothing_left is_so xs i le = rw (drop_all i xs le) refl

pub leading_end : (is_so : WorldColumn → Bool) (xs : List WorldColumn) (i r : ℕ) → length xs ≤ i → i ≤ length xs → i + leading is_so (drop i xs) ≡ r → length xs ≡ r
leading_end is_so xs i r le ge h = let k = nothing_left is_so xs i le in omega (arith, k, h)

module _ (xs : List WorldColumn) (place i : ℕ) (d : WorldColumn) (r : Option WorldColumn) where
  pub column_step : i < length xs → is_cell place (get_or xs i d).cell ≡ false → column_at (drop i xs) place ≡ r → column_at (drop (i + 1) xs) place ≡ r
  unfolding column_at
  column_step lt e h = sym (rw (drop_more xs i d lt, e) refl) ∙ h

  pub column_here : i < length xs → is_cell place (get_or xs i d).cell ≡ true → column_at (drop i xs) place ≡ r → Some (get_or xs i d) ≡ r
  unfolding column_at
  column_here lt e h = sym (rw (drop_more xs i d lt, e) refl) ∙ h

pub column_end : (xs : List WorldColumn) (place i : ℕ) (r : Option WorldColumn) → length xs ≤ i → column_at (drop i xs) place ≡ r → None ≡ r
unfolding column_at
column_end xs place i r le h = sym (rw (drop_all i xs le) refl) ∙ h

-- cell by cell
module _ (columns : List WorldColumn) (base row : List Value) (i : ℕ) (v w : Value) (column : Option WorldColumn) (fits r : Bool) where
  pub fits_step : i < length base → length base ≡ length row → v ≡ get_or base i v → w ≡ get_or row i w → column ≡ column_at columns i → fits ≡ fits_cell column v w → fits ≡ true → row_fits columns i (drop i base) (drop i row) ≡ r → row_fits columns (i + 1) (drop (i + 1) base) (drop (i + 1) row) ≡ r
  unfolding row_fits
  fits_step lt long is row_is col said so h = let k : fits_cell (column_at columns i) v w ≡ true = rw (← col) (sym said ∙ so) in sym (rw (drop_more base i v lt, ← is, drop_more row i w (omega (arith, long)), ← row_is, k) refl) ∙ h

  pub fits_not : i < length base → length base ≡ length row → v ≡ get_or base i v → w ≡ get_or row i w → column ≡ column_at columns i → fits ≡ fits_cell column v w → fits ≡ false → row_fits columns i (drop i base) (drop i row) ≡ r → false ≡ r
  unfolding row_fits
  fits_not lt long is row_is col said no_ h = let k : fits_cell (column_at columns i) v w ≡ false = rw (← col) (sym said ∙ no_) in sym (rw (drop_more base i v lt, ← is, drop_more row i w (omega (arith, long)), ← row_is, k) refl) ∙ h

pub fits_end : (columns : List WorldColumn) (base row : List Value) (i : ℕ) (r : Bool) → length base ≤ i → length base ≡ length row → row_fits columns i (drop i base) (drop i row) ≡ r → true ≡ r
unfolding row_fits
fits_end columns base row i r le long h = sym (rw (drop_all i base le, drop_all i row (omega (arith, long))) refl) ∙ h

and_false : (b : Bool) → (b && false) ≡ false
and_false true = refl
and_false false = refl

pub fits_long : (columns : List WorldColumn) (place : ℕ) (base row : List Value) → length base ≢ length row → false ≡ row_fits columns place base row
unfolding row_fits
fits_long columns place [] [] ne = absurd (ne refl)
fits_long columns place [] (w ∷ row) ne = refl
fits_long columns place (v ∷ base) [] ne = refl
fits_long columns place (v ∷ base) (w ∷ row) ne = rw (← fits_long columns (place + 1) base row (λ e. ne (omega (arith, e)))) (sym (and_false (fits_cell (column_at columns place) v w)))

-- further within a list
pub within_list : {A : Type 0} (xs rest : List A) (from end : ℕ) → rest ≡ drop from xs → from ≤ length xs → end ≤ length rest → from + end ≤ length xs
within_list xs rest from end is le room = let k = length-drop from xs in let l = ap length is in omega (arith, k, l, le, room)

-- row by row
module _ (bases : Rows) (columns : List WorldColumn) (picks : List ℕ) (rows : Rows) (i from next end n : ℕ) (base : List Value) (here : Option (List Value)) (possible r : Bool) where
  pub possible_step : i < length bases → base ≡ get_or bases i base → end ≡ leading (of_row i) (drop from columns) → here ≡ standing i (drop next picks) (drop next rows) → n ≡ count_of here
      → possible ≡ row_possible (take end (drop from columns)) base here → possible ≡ true
      → rows_possible i (drop i bases) (drop from columns) (drop next picks) (drop next rows) ≡ r
      → rows_possible (i + 1) (drop (i + 1) bases) (drop (from + end) columns) (drop (next + n) picks) (drop (next + n) rows) ≡ r
  unfolding rows_possible
  possible_step lt is e s c said so h =
      let k : row_possible (take end (drop from columns)) base here ≡ true = sym said ∙ so in
      let on : rows_possible i (drop i bases) (drop from columns) (drop next picks) (drop next rows) ≡ rows_possible (i + 1) (drop (i + 1) bases) (drop end (drop from columns)) (drop n (drop next picks)) (drop n (drop next rows))
      = rw (drop_more bases i base lt, ← is, ← e, ← s, ← c, k) refl in
      rw (← drop-drop end from columns, ← drop-drop n next picks, ← drop-drop n next rows) (sym on ∙ h)

  pub possible_not : i < length bases → base ≡ get_or bases i base → end ≡ leading (of_row i) (drop from columns) → here ≡ standing i (drop next picks) (drop next rows)
      → possible ≡ row_possible (take end (drop from columns)) base here → possible ≡ false
      → rows_possible i (drop i bases) (drop from columns) (drop next picks) (drop next rows) ≡ r → false ≡ r
  unfolding rows_possible
  possible_not lt is e s said no_ h =
      let k : row_possible (take end (drop from columns)) base here ≡ false = sym said ∙ no_ in
      sym (rw (drop_more bases i base lt, ← is, ← e, ← s, k) refl) ∙ h

pub possible_end : (bases : Rows) (columns : List WorldColumn) (picks : List ℕ) (rows : Rows) (i : ℕ) (last r : Bool) → length bases ≤ i → last ≡ (are_none picks && are_none rows)
    → rows_possible i (drop i bases) columns picks rows ≡ r → last ≡ r
unfolding rows_possible
possible_end bases columns picks rows i last r le said h = said ∙ sym (rw (drop_all i bases le) refl) ∙ h

-- and by hypothetical table
module _ (tables : Tables) (world : List WorldTable) (hypos : List QHypo) (columns : List WorldColumn) (i from end : ℕ) (hypo : QHypo) (bases : Rows) (table : Option WorldTable) (possible : Bool) (r : Option ℕ) where
  pub impossible_step : i < length hypos → hypo ≡ get_or hypos i hypo → end ≡ leading (of_hypo i) (drop from columns) → bases ≡ rows_of tables hypo.table → table ≡ slice_get world i
      → possible ≡ table_possible bases (take end (drop from columns)) table → possible ≡ true
      → first_impossible tables world i (drop i hypos) (drop from columns) ≡ r
      → first_impossible tables world (i + 1) (drop (i + 1) hypos) (drop (from + end) columns) ≡ r
  unfolding first_impossible
  impossible_step lt is e b t said so h =
      let k : table_possible bases (take end (drop from columns)) table ≡ true = sym said ∙ so in
      let on : first_impossible tables world i (drop i hypos) (drop from columns) ≡ first_impossible tables world (i + 1) (drop (i + 1) hypos) (drop end (drop from columns))
      = rw (drop_more hypos i hypo lt, ← is, ← e, ← b, ← t, k) refl in
      rw (← drop-drop end from columns) (sym on ∙ h)

  pub impossible_here : i < length hypos → hypo ≡ get_or hypos i hypo → end ≡ leading (of_hypo i) (drop from columns) → bases ≡ rows_of tables hypo.table → table ≡ slice_get world i
      → possible ≡ table_possible bases (take end (drop from columns)) table → possible ≡ false
      → first_impossible tables world i (drop i hypos) (drop from columns) ≡ r → Some i ≡ r
  unfolding first_impossible
  impossible_here lt is e b t said no_ h =
      let k : table_possible bases (take end (drop from columns)) table ≡ false = sym said ∙ no_ in
      sym (rw (drop_more hypos i hypo lt, ← is, ← e, ← b, ← t, k) refl) ∙ h

pub impossible_end : (tables : Tables) (world : List WorldTable) (hypos : List QHypo) (columns : List WorldColumn) (i : ℕ) (last r : Option ℕ) → i ≡ length hypos
    → last ≡ surplus world (length hypos) → first_impossible tables world i (drop i hypos) columns ≡ r → last ≡ r
unfolding first_impossible
impossible_end tables world hypos columns i last r all said h =
    let none : first_impossible tables world i (drop i hypos) columns ≡ surplus world i = rw (drop_all i hypos (omega (arith, all))) refl in
    said ∙ ap (surplus world) (sym all) ∙ sym none ∙ h
