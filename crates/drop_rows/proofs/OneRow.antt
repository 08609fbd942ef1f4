-- one row of a table: the row of its numbers may stand there, and has these numbers
use Rattle.std.proofs.Common.{◌≡◌, ◌≢◌, ℕ, suc, ℤ, pos, ◌≤ℤ◌, ◌*ℤ◌, ◌+◌, ◌<◌, ◌==◌, ◌&&◌, Bool, true, false, not, List, [], ◌∷◌, ◌++◌, length, map, get_or, refl, sym, ◌∙◌, ap, ap₂, subst, arith, Option, Some, None, if◌then◌else◌}
use Rattle.std.specs.Prelude.{◌||◌, slice_set, int_le, All}
use Rattle.std.specs.List.{list_any}
use Rattle.std.specs.Ordering.{is_eq, int_eq}
use Rattle.std.specs.declared.cmp.Ordering.{Ordering}
use Rattle.std.specs.declared.cmp.Ordering.TheVariants.{Less, Equal, Greater}
use Rattle.std.proofs.lemmas.Int.{ints}
use Rattle.std.proofs.Math.IntN.{*ℤ-one, *ℤ-zero}
use Rattle.std.proofs.lemmas.List.{length-set, get_or-set_same, get_or-set_other}
use Rattle.std.proofs.lemmas.Option.{unwrap_or-slice_get}
use Rattle.std.proofs.lemmas.Bool.{and_parts}
use Rattle.std.proofs.lemmas.Bool.Decides.{nat_tests, Decides-int_eq}
use Rattle.base_kit.specs.Orders.{value_order}
use Rattle.base_kit.proofs.Orders.{value_order-Equal}
use Rattle.base_kit.specs.declared.value.Value.{Value}
use Rattle.base_kit.specs.declared.value.Value.TheVariants.{Int}
use Rattle.branch_tree.specs.Listing.{InBox}
use Rattle.ip_rows.specs.declared.Bounds.{Bounds}
use Rattle.tiql_query.specs.WellFormed.{are_once}
use Rattle.tiql_query.specs.declared.relation.QBound.{QBound}
use Rattle.tiql_query.specs.declared.relation.QHypo.{QHypo}
use Rattle.tiql_query.specs.declared.world_column.WorldColumn.{WorldColumn}
use Rattle.world_def.specs.Columns.{presence_column}
use Rattle.world_def.specs.Worlds.{column_at, is_equal, fits_cell, row_fits, row_possible, number_in, with_number, row_with, is_left_out}
use Rattle.world_def.specs.Meaning.{may_change, cell_choice, presence_choice, choices}
use Rattle.world_def.proofs.Restored.{equal_of, zero_value}
use Rattle.world_points.specs.Points.{side, root}
use Rattle.drop_rows.proofs.Ties.{IsBetween, AreBetween, AreTied}

first_false : (a b : Bool) → (a || b) ≡ false → a ≡ false
first_false true b e = e
first_false false b e = refl

second_false : (a b : Bool) → (a || b) ≡ false → b ≡ false
second_false true b e = absurd (let k : true ≡ false = e in cc)
second_false false b e = e

not_true : (a : Bool) → not a ≡ true → a ≡ false
not_true true e = absurd (let k : false ≡ true = e in cc)
not_true false e = refl

both_true : (a b : Bool) → a ≡ true → b ≡ true → (a && b) ≡ true
both_true true b e f = f
both_true false b e f = absurd (let k : false ≡ true = e in cc)

differ_of : (m n : ℕ) → (m == n) ≡ false → m ≢ n
differ_of m n e = grind (arith, nat_tests)

is_equal_of : (o : Ordering) → is_eq o ≡ true → is_equal o ≡ true
is_equal_of Less e = absurd (let k : false ≡ true = e in cc)
is_equal_of Equal e = refl
is_equal_of Greater e = absurd (let k : false ≡ true = e in cc)

own_value : (v : Value) → is_equal (value_order v v) ≡ true
own_value v = is_equal_of (value_order v v) ((value_order-Equal v v).1 refl)

le_is : (m n : ℤ) → m ≤ℤ n → int_le m n ≡ true
le_is m n le = grind (arith, ints)

-- a row fits where each cell does
fits_of : (columns : List WorldColumn) (place : ℕ) (base row : List Value) → length row ≡ length base
    → ((i : ℕ) → i < length base → fits_cell (column_at columns (place + i)) (get_or base i zero_value) (get_or row i zero_value) ≡ true) → row_fits columns place base row ≡ true
unfolding row_fits
fits_of columns place [] [] long each = refl
fits_of columns place [] (w ∷ row) long each = absurd (omega (arith, long))
fits_of columns place (v ∷ base) [] long each = absurd (omega (arith, long))
fits_of columns place (v ∷ base) (w ∷ row) long each =
    let here : place + 0 ≡ place = omega arith in
    both_true (fits_cell (column_at columns place) v w) (row_fits columns (place + 1) base row)
    (ap (λ (n : ℕ). fits_cell (column_at columns n) v w) (sym here) ∙ each 0 (omega arith))
    (fits_of columns (place + 1) base row (omega (arith, long)) (λ i lt. let next : (place + 1) + i ≡ place + suc i = omega arith in
    ap (λ (n : ℕ). fits_cell (column_at columns n) (get_or base i zero_value) (get_or row i zero_value)) next ∙ each (suc i) (omega (arith, lt))))

-- a row that may not be left out: its cells lie between their sides, which are their bounds
fixed_side : (c : WorldColumn) (n : ℤ) → c.droppable ≡ false → (side c).lo ≤ℤ n → n ≤ℤ (side c).hi → IsBetween c n
unfolding side
fixed_side c n e low high =
    let is : side c ≡ record { lo = c.lo; hi = c.hi } = rw e refl in
    (subst (λ (s : Bounds). s.lo ≤ℤ n) is low, subst (λ (s : Bounds). n ≤ℤ s.hi) is high)

at_zero : (lo hi n : ℤ) → (lo *ℤ pos 0) ≤ℤ n → n ≤ℤ (hi *ℤ pos 0) → pos 0 ≡ n
at_zero lo hi n low high = let l = *ℤ-zero lo in let h = *ℤ-zero hi in omega (arith, ints, l, h, low, high)

pub low_zero : (lo : ℤ) → (lo *ℤ pos 0) ≤ℤ pos 0
low_zero lo = let l = *ℤ-zero lo in omega (arith, ints, l)

pub high_zero : (hi : ℤ) → pos 0 ≤ℤ (hi *ℤ pos 0)
high_zero hi = let h = *ℤ-zero hi in omega (arith, ints, h)

times_one : (n : ℤ) → n *ℤ pos 1 ≡ n
unfolding lib.IntN.one
times_one n = *ℤ-one n

between_one : (c : WorldColumn) (n : ℤ) → (c.lo *ℤ pos 1) ≤ℤ n → n ≤ℤ (c.hi *ℤ pos 1) → IsBetween c n
between_one c n low high = let l = times_one c.lo in let h = times_one c.hi in (omega (arith, ints, l, low), omega (arith, ints, h, high))

pub one_between : (c : WorldColumn) (n : ℤ) → c.lo ≤ℤ n → n ≤ℤ c.hi → ((c.lo *ℤ pos 1) ≤ℤ n) × (n ≤ℤ (c.hi *ℤ pos 1))
one_between c n low high = let l = times_one c.lo in let h = times_one c.hi in (omega (arith, ints, l, low), omega (arith, ints, h, high))

pub le_of : (m n : ℤ) → int_le m n ≡ true → m ≤ℤ n
le_of m n e = grind (arith, ints)

one_left : (m : ℤ) → pos 0 ≤ℤ m → m ≤ℤ pos 1 → m ≢ pos 0 → pos 1 ≡ m
one_left m low high ne = omega (arith, ints, low, high, ne)

one_or_other : (m : ℤ) → pos 0 ≤ℤ m → m ≤ℤ pos 1 → int_eq m (pos 0) ≡ false → pos 1 ≡ m
one_or_other m low high e = one_left m low high (λ is. let no : true ≡ false = sym ((Decides-int_eq m (pos 0)).1 is) ∙ e in cc)

-- the row that numbers give, or none where they leave it out
abbrev pub row_here : List WorldColumn → List Value → List ℤ → Option (List Value)
row_here columns base ns = if is_left_out columns ns then None else Some (row_with columns ns base)

-- it may stand over the row of the table, and has these numbers
pub record IsRowOf (columns : List WorldColumn) (base : List Value) (ns : List ℤ) : Type 0 where
  pub possible : row_possible columns base (row_here columns base ns) ≡ true
  pub numbers : map (number_in (row_here columns base ns)) columns ≡ ns

made_row : (columns : List WorldColumn) (base : List Value) (ns : List ℤ) (here : Option (List Value)) → row_here columns base ns ≡ here → row_possible columns base here ≡ true → map (number_in here) columns ≡ ns → IsRowOf columns base ns
made_row columns base ns here is possible numbers = record { possible = rw is possible; numbers = rw is numbers }

-- the cells of set columns that are set once
module _ (hypo : ℕ) (droppable : Bool) (at : ℕ) (base : List Value) where
  cell : QBound → WorldColumn
  cell bound = cell_choice hypo droppable at base bound

  put_length : (set : List QBound) (ns : List ℤ) (row : List Value) → length (row_with (map cell set) ns row) ≡ length row
  unfolding row_with with_number cell_choice cell
  put_length [] ns row = refl
  put_length (bound ∷ set) [] row = refl
  put_length (bound ∷ set) (n ∷ ns) row = put_length set ns (slice_set row bound.column (Int n)) ∙ length-set row bound.column (Int n)

  -- a cell that is not set stays
  other_cell : (set : List QBound) (ns : List ℤ) (row : List Value) (p : ℕ) → list_any (λ other. other.column == p) set ≡ false → get_or (row_with (map cell set) ns row) p zero_value ≡ get_or row p zero_value
  unfolding row_with with_number cell_choice cell
  other_cell [] ns row p e = refl
  other_cell (bound ∷ set) [] row p e = refl
  other_cell (bound ∷ set) (n ∷ ns) row p e =
      other_cell set ns (slice_set row bound.column (Int n)) p (second_false (bound.column == p) (list_any (λ other. other.column == p) set) e)
      ∙ get_or-set_other row bound.column p (Int n) zero_value (λ k. differ_of bound.column p (first_false (bound.column == p) (list_any (λ other. other.column == p) set) e) (sym k))

  pub once_none : (bound : QBound) (set : List QBound) → are_once (bound ∷ set) ≡ true → list_any (λ other. other.column == bound.column) set ≡ false
  unfolding are_once
  once_none bound set e = not_true (list_any (λ other. other.column == bound.column) set) (and_parts (not (list_any (λ other. other.column == bound.column) set)) (are_once set) e).0

  pub once_rest : (bound : QBound) (set : List QBound) → are_once (bound ∷ set) ≡ true → are_once set ≡ true
  unfolding are_once
  once_rest bound set e = (and_parts (not (list_any (λ other. other.column == bound.column) set)) (are_once set) e).1

  -- and the first set one has its number
  first_cell : (bound : QBound) (set : List QBound) (n : ℤ) (ns : List ℤ) (row : List Value) → are_once (bound ∷ set) ≡ true → bound.column < length row
      → get_or (row_with (map cell (bound ∷ set)) (n ∷ ns) row) bound.column zero_value ≡ Int n
  unfolding row_with with_number cell_choice cell
  first_cell bound set n ns row once lt =
      other_cell set ns (slice_set row bound.column (Int n)) bound.column (once_none bound set once) ∙ get_or-set_same row bound.column (Int n) zero_value lt

  cell_number : (row : List Value) (bound : QBound) (n : ℤ) → get_or row bound.column zero_value ≡ Int n → number_in (Some row) (cell bound) ≡ n
  unfolding number_in cell_choice cell
  cell_number row bound n e = rw (unwrap_or-slice_get row bound.column zero_value, e) refl

  later_numbers : (set : List QBound) (ns : List ℤ) (bound : QBound) (n : ℤ) (row : List Value) → map (number_in (Some (row_with (map cell set) ns (slice_set row bound.column (Int n))))) (map cell set) ≡ ns
      → map (number_in (Some (row_with (map cell (bound ∷ set)) (n ∷ ns) row))) (map cell set) ≡ ns
  unfolding row_with with_number cell_choice cell
  later_numbers set ns bound n row e = e

  -- the row of numbers has these numbers
  numbers_of_row : (set : List QBound) (ns : List ℤ) (row : List Value) (size : ℕ) → are_once set ≡ true → size ≡ length row → All (λ bound. bound.column < size) set → AreBetween (map cell set) ns
      → map (number_in (Some (row_with (map cell set) ns row))) (map cell set) ≡ ns
  numbers_of_row [] [] row size once long there all = refl
  numbers_of_row [] (n ∷ ns) row size once long there all = absurd all
  numbers_of_row (bound ∷ set) [] row size once long there all = absurd all
  numbers_of_row (bound ∷ set) (n ∷ ns) row size once long there all =
      ap₂ (λ (m : ℤ) (l : List ℤ). m ∷ l)
      (cell_number (row_with (map cell (bound ∷ set)) (n ∷ ns) row) bound n (first_cell bound set n ns row once (subst (λ (k : ℕ). bound.column < k) long (there 0 bound (omega arith)))))
      (later_numbers set ns bound n row (numbers_of_row set ns (slice_set row bound.column (Int n)) size (once_rest bound set once) (long ∙ sym (length-set row bound.column (Int n))) (λ k d lt. there (suc k) d (omega (arith, lt))) all.1))

  -- and fits
  fits_row : (set : List QBound) (ns : List ℤ) (row : List Value) (p : ℕ) → are_once set ≡ true → p < length row → AreBetween (map cell set) ns
      → fits_cell (column_at (map cell set) p) (get_or row p zero_value) (get_or (row_with (map cell set) ns row) p zero_value) ≡ true
  unfolding column_at row_with with_number cell_choice cell
  fits_row [] [] row p once lt all = own_value (get_or row p zero_value)
  fits_row [] (n ∷ ns) row p once lt all = absurd all
  fits_row (bound ∷ set) [] row p once lt all = absurd all
  fits_row (bound ∷ set) (n ∷ ns) row p once lt all =
      by_place (bound.column == p) refl (fits_row set ns (slice_set row bound.column (Int n)) p (once_rest bound set once) (rw (length-set row bound.column (Int n)) lt) all.1)
    where
      made : List Value
      made = row_with (map (cell_choice hypo droppable at base) set) ns (slice_set row bound.column (Int n))

      by_place : (b : Bool) → (bound.column == p) ≡ b → fits_cell (column_at (map (cell_choice hypo droppable at base) set) p) (get_or (slice_set row bound.column (Int n)) p zero_value) (get_or made p zero_value) ≡ true
          → fits_cell (if b then Some (cell_choice hypo droppable at base bound) else column_at (map (cell_choice hypo droppable at base) set) p) (get_or row p zero_value) (get_or made p zero_value) ≡ true
      by_place true t later =
          let same = equal_of bound.column p t in
          let has : get_or made p zero_value ≡ Int n = subst (λ (k : ℕ). get_or made k zero_value ≡ Int n) same (first_cell bound set n ns row once (subst (λ (k : ℕ). k < length row) (sym same) lt)) in
          rw has (both_true (int_le (cell_choice hypo droppable at base bound).lo n) (int_le n (cell_choice hypo droppable at base bound).hi) (le_is _ _ all.0.0) (le_is _ _ all.0.1))
      by_place false t later =
          let stays = get_or-set_other row bound.column p (Int n) zero_value (λ k. differ_of bound.column p t (sym k)) in
          subst (λ (v : Value). fits_cell (column_at (map (cell_choice hypo droppable at base) set) p) v (get_or made p zero_value) ≡ true) stays later

  past_presence : (d : Bool) (cells : List WorldColumn) (place : ℕ) → column_at (presence_choice hypo d at ++ cells) place ≡ column_at cells place
  unfolding column_at
  past_presence true cells place = refl
  past_presence false cells place = refl

  whole_row : (d : Bool) (set : List QBound) (ns : List ℤ) → are_once set ≡ true → AreBetween (map cell set) ns → row_fits (presence_choice hypo d at ++ map cell set) 0 base (row_with (map cell set) ns base) ≡ true
  whole_row d set ns once all =
      fits_of (presence_choice hypo d at ++ map cell set) 0 base (row_with (map cell set) ns base) (put_length set ns base)
      (λ i lt. let from : 0 + i ≡ i = omega arith in
      ap (λ (c : Option WorldColumn). fits_cell c (get_or base i zero_value) (get_or (row_with (map cell set) ns base) i zero_value)) (ap (column_at (presence_choice hypo d at ++ map cell set)) from ∙ past_presence d (map cell set) i)
      ∙ fits_row set ns base i once lt all)

  fixed_between : droppable ≡ false → (set : List QBound) (ns : List ℤ) → InBox (root (map cell set)) ns → AreBetween (map cell set) ns
  unfolding cell_choice cell
  fixed_between stays [] [] box = tt
  fixed_between stays [] (n ∷ ns) box = absurd box
  fixed_between stays (bound ∷ set) [] box = absurd box
  fixed_between stays (bound ∷ set) (n ∷ ns) box = (fixed_side (cell bound) n stays box.0 box.1, fixed_between stays set ns box.2)

  tied_between : droppable ≡ true → (set : List QBound) (ns : List ℤ) → InBox (root (map cell set)) ns → AreTied (pos 1) (map cell set) ns → AreBetween (map cell set) ns
  unfolding cell_choice cell
  tied_between may [] [] box tied = tt
  tied_between may [] (n ∷ ns) box tied = absurd box
  tied_between may (bound ∷ set) [] box tied = absurd box
  tied_between may (bound ∷ set) (n ∷ ns) box tied = let here = tied.0 may in (between_one (cell bound) n here.0 here.1, tied_between may set ns box.2 tied.1)

  tied_zero : droppable ≡ true → (set : List QBound) (ns : List ℤ) → InBox (root (map cell set)) ns → AreTied (pos 0) (map cell set) ns → map (number_in None) (map cell set) ≡ ns
  unfolding cell_choice cell number_in
  tied_zero may [] [] box tied = refl
  tied_zero may [] (n ∷ ns) box tied = absurd box
  tied_zero may (bound ∷ set) [] box tied = absurd box
  tied_zero may (bound ∷ set) (n ∷ ns) box tied =
      let here = tied.0 may in
      ap₂ (λ (m : ℤ) (l : List ℤ). m ∷ l) (at_zero (cell bound).lo (cell bound).hi n here.0 here.1) (tied_zero may set ns box.2 tied.1)

  cells_not_out : (set : List QBound) (ns : List ℤ) → is_left_out (map cell set) ns ≡ false
  unfolding cell_choice cell is_left_out
  cells_not_out [] ns = refl
  cells_not_out (bound ∷ set) [] = refl
  cells_not_out (bound ∷ set) (n ∷ ns) = refl

  -- a row that stays
  stays_row : (set : List QBound) (ns : List ℤ) → are_once set ≡ true → All (λ bound. bound.column < length base) set → AreBetween (map cell set) ns → IsRowOf (map cell set) base ns
  unfolding row_possible cell
  stays_row set ns once there all =
      made_row (map cell set) base ns (Some (row_with (map cell set) ns base)) (rw (cells_not_out set ns) refl)
      (whole_row false set ns once all) (numbers_of_row set ns base (length base) once refl there all)

  -- a row that may be left out, and is
  gone_row : droppable ≡ true → (set : List QBound) (m : ℤ) (ns : List ℤ) → m ≡ pos 0 → InBox (root (map cell set)) ns → AreTied m (map cell set) ns → IsRowOf (presence_column hypo at ∷ map cell set) base (m ∷ ns)
  unfolding row_possible cell number_in is_left_out
  gone_row may set m ns is box tied =
      let out : int_eq m (pos 0) ≡ true = (Decides-int_eq m (pos 0)).1 is in
      made_row (presence_column hypo at ∷ map cell set) base (m ∷ ns) None (rw out refl) refl
      (ap₂ (λ (n : ℤ) (l : List ℤ). n ∷ l) (sym is) (tied_zero may set ns box (subst (λ (k : ℤ). AreTied k (map cell set) ns) is tied)))

  -- a row that may be left out, and is not
  there_row : droppable ≡ true → (set : List QBound) (m : ℤ) (ns : List ℤ) → are_once set ≡ true → All (λ bound. bound.column < length base) set → int_eq m (pos 0) ≡ false → pos 1 ≡ m → InBox (root (map cell set)) ns → AreTied m (map cell set) ns
      → IsRowOf (presence_column hypo at ∷ map cell set) base (m ∷ ns)
  unfolding row_possible cell number_in is_left_out row_with with_number
  there_row may set m ns once there stays is box tied =
      let all = tied_between may set ns box (subst (λ (k : ℤ). AreTied k (map cell set) ns) (sym is) tied) in
      made_row (presence_column hypo at ∷ map cell set) base (m ∷ ns) (Some (row_with (map cell set) ns base)) (rw stays refl)
      (whole_row true set ns once all)
      (ap₂ (λ (n : ℤ) (l : List ℤ). n ∷ l) is (numbers_of_row set ns base (length base) once refl there all))

  both_row : droppable ≡ true → (set : List QBound) (m : ℤ) (ns : List ℤ) → are_once set ≡ true → All (λ bound. bound.column < length base) set → pos 0 ≤ℤ m → m ≤ℤ pos 1 → InBox (root (map cell set)) ns → AreTied m (map cell set) ns
      → IsRowOf (presence_column hypo at ∷ map cell set) base (m ∷ ns)
  both_row may set m ns once there low high box tied = by_test (int_eq m (pos 0)) refl
    where
      by_test : (b : Bool) → int_eq m (pos 0) ≡ b → IsRowOf (presence_column hypo at ∷ map cell set) base (m ∷ ns)
      by_test true e = gone_row may set m ns ((Decides-int_eq m (pos 0)).0 e) box tied
      by_test false e = there_row may set m ns once there e (one_or_other m low high e) box tied

-- the numbers of a row in the box, tied to its presence, give a row that may stand there
pub row_back : (hypo : ℕ) (table : QHypo) (at : ℕ) (base : List Value) → are_once table.set ≡ true → All (λ bound. bound.column < length base) table.set → (q : ℤ) (ns : List ℤ)
    → InBox (root (choices hypo table at base)) ns → AreTied q (choices hypo table at base) ns → IsRowOf (choices hypo table at base) base ns
unfolding choices cell side are_once
row_back hypo table at base once there q ns = by_test (may_change table.filter base) table.droppable refl ns
  where
    mine : Bool → List WorldColumn
    mine d = presence_choice hypo d at ++ map (cell_choice hypo table.droppable at base) table.set

    by_test : (b d : Bool) → table.droppable ≡ d → (ns : List ℤ) → InBox (root (if b then mine d else [])) ns → AreTied q (if b then mine d else []) ns → IsRowOf (if b then mine d else []) base ns
    by_test false d t [] box tied = stays_row hypo table.droppable at base [] [] refl (λ k e lt. absurd (omega (arith, lt))) tt
    by_test false d t (n ∷ ns) box tied = absurd box
    by_test true false t ns box tied = stays_row hypo table.droppable at base table.set ns once there (fixed_between hypo table.droppable at base t table.set ns box)
    by_test true true t [] box tied = absurd box
    by_test true true t (m ∷ ns) box tied = both_row hypo table.droppable at base t table.set m ns once there box.0 box.1 box.2 tied.1
