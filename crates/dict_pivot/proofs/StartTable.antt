-- What was written row by row is the first dictionary.
use Rattle.std.proofs.Common.{◌≡◌, ℕ, zero, suc, ◌+◌, ◌-◌, ◌*◌, ◌^◌, ◌<◌, ◌≤◌, Bool, cond, int_lt, mul-le-mul_right, ℤ, pos, ◌+ℤ◌, ◌-ℤ◌, ◌*ℤ◌, neg_ℤ, List, [], ◌∷◌, length, get_or, map, refl, sym, ◌∙◌, ap, ap₂, subst, arith}
use Rattle.std.proofs.lemmas.Int.{ints}
use Rattle.std.proofs.lemmas.List.{get_or-map, get_or_past, length-map}
use Rattle.std.specs.Prelude.{All, slice_index}
use Rattle.rat128.specs.Fractions.{Fraction}
use Rattle.rat128.specs.Rationals.{value, whole, ◌+ℚ◌, ◌-ℚ◌, ◌*ℚ◌}
use Rattle.rat128.proofs.Rationals.{whole-+ℤ, whole-*ℤ, whole-neg_ℤ}
use Rattle.ip_rows.specs.declared.Bounds.{Bounds}
use Rattle.ip_rows.specs.declared.rows.Coef.{Coef}
use Rattle.ip_rows.specs.declared.lp.Lp.{Lp}
use Rattle.ip_rows.specs.Rows.{side_at, factor_at}
use Rattle.ip_rows.specs.Lps.{IsWellFormedLp}
use Rattle.ip_rows.specs.Points.{terms_at}
use Rattle.dict_pivot.specs.Dictionaries.{Dictionary, line, cell_of, least_of, table, seen, IsDictionary}
use Rattle.dict_pivot.specs.Quantities.{Quantity, Objective, ColumnValue, UpperDistance, RowSurplus, meaning, row_of, quantity_of, growth_of, first_side, corner, toward, first_cell, first_free, IsStart, AreLeast}
use Rattle.dict_pivot.specs.First.{is_up, AreStarts, side_from, turned_by, corner_sum, corner_of, IsWritten}
use Rattle.dict_pivot.proofs.StartLaws.{IsThere, meaning_there, start_units, start_home}

whole-minus : (a b : ℤ) → whole (a -ℤ b) ≡ whole a -ℚ whole b
whole-minus a b =
    let e : a -ℤ b ≡ a +ℤ neg_ℤ b = omega (arith, ints) in
    ap whole e ∙ whole-+ℤ a (neg_ℤ b) ∙ ap (λ z. whole a +ℚ z) (whole-neg_ℤ b)

-- where the columns start, once for all
module _ (lp : Lp) (up : List Bool) (a : AreStarts lp up) where
  side_is : (j : ℕ) → j < length lp.sides → side_from lp.sides up j ≡ first_side lp j
  side_is j l = ap (λ b. cond b (side_at lp.sides j).hi (side_at lp.sides j).lo) (a.each j l)

  turned_is : (j : ℕ) (z : ℤ) → j < length lp.sides → turned_by up j z ≡ toward lp j z
  turned_is j z l = ap (λ b. cond b (neg_ℤ z) z) (a.each j l)

  sum_is : (ts : List Coef) → All (λ (t : Coef). t.column < length lp.sides) ts → whole (corner_sum lp.sides up ts) ≡ terms_at (corner lp) ts
  sum_is [] there = refl
  sum_is (t ∷ ts) there =
      whole-+ℤ (t.factor *ℤ side_from lp.sides up t.column) (corner_sum lp.sides up ts) ∙ ap₂ (λ x y. x +ℚ y) (whole-*ℤ t.factor (side_from lp.sides up t.column) ∙ ap (λ s. whole t.factor *ℚ whole s) (side_is t.column (there 0 t (omega arith)))) (sum_is ts (λ k d l. there (suc k) d (omega (arith, l))))

  corner_is_quantity : IsWellFormedLp lp → (q : Quantity) → IsThere lp q → whole (corner_of lp up q) ≡ quantity_of lp (corner lp) q
  corner_is_quantity w Objective l = sum_is lp.aim w.aim.there
  corner_is_quantity w (ColumnValue j) l = ap whole (side_is j l)
  corner_is_quantity w (UpperDistance j) l =
      whole-minus (side_at lp.sides j).hi (side_from lp.sides up j) ∙ ap (λ s. whole (side_at lp.sides j).hi -ℚ whole s) (side_is j l)
  corner_is_quantity w (RowSurplus r) l =
      whole-minus (corner_sum lp.sides up (row_of lp.rows r).terms) (row_of lp.rows r).least ∙ ap (λ s. s -ℚ whole (row_of lp.rows r).least) (sum_is (row_of lp.rows r).terms (w.rows r (record { terms = []; least = pos 0 }) l).there)

pub starts_are : (lp : Lp) (up : List Bool) (sides : List Bounds) (aim : List Coef) → sides ≡ lp.sides → aim ≡ lp.aim → length up ≡ length sides → ((j : ℕ) → j < length sides → is_up up j ≡ int_lt (factor_at aim j) (pos 0)) → AreStarts lp up
starts_are lp up sides aim e f size each = record {
  size = size ∙ ap length e;
  each = λ j l. each j (subst (λ n. j < n) (sym (ap length e)) l) ∙ ap (λ (ts : List Coef). int_lt (factor_at ts j) (pos 0)) f;
}

-- the lower sides in a list are the least numbers
pub least_is : (lp : Lp) (low : List ℤ) → low ≡ map (λ (s : Bounds). s.lo) lp.sides → AreLeast lp (least_of low)
least_is lp low e = record {
  values = λ j l. ap whole (ap (λ low. get_or low j (pos 0)) e ∙ get_or-map (λ (s : Bounds). s.lo) lp.sides j (record { lo = pos 0; hi = pos 0 }) (pos 0) l);
  others = λ i l. past i l;
}
  where
    past : (i : ℕ) → length lp.sides < i → least_of low i ≡ whole (pos 0)
    past zero l = absurd (omega arith)
    past (suc k) l = ap whole (get_or_past low k (pos 0) (omega (arith, l, ap length e, length-map lp.sides (λ (s : Bounds). s.lo))))

module _ (lp : Lp) (w : IsWellFormedLp lp) (up : List Bool) (a : AreStarts lp up) (d : Dictionary) (height : d.height ≡ suc (length lp.sides + length lp.sides + length lp.rows)) (width : d.width ≡ suc (length lp.sides)) (low : d.low ≡ map (λ (s : Bounds). s.lo) lp.sides) (written : (i : ℕ) → i < d.height → IsWritten up (length lp.sides) (corner_of lp up (meaning (length lp.sides) i)) (growth_of lp (meaning (length lp.sides) i)) (line d.cells d.width i)) (frees : (j : ℕ) → j < length lp.sides → slice_index d.free (suc j) ≡ cond (is_up up j) (suc (length up + j)) (suc j)) where
  columns : d.width - 1 ≡ length lp.sides
  columns = omega (arith, width)

  inside : (j : ℕ) → suc j ≤ d.width - 1 → j < length lp.sides
  inside j le = omega (arith, le, width)

  pub start_is : IsStart lp (table d)
  start_is = record {
    height = height;
    width = columns;
    cells = λ i j l m. cells i j l m;
    frees = λ j k. free_rows j k.some k.within;
  }
    where
      cells : (i j : ℕ) → i < d.height → j ≤ d.width - 1 → value (cell_of d i j) ≡ first_cell lp i j
      cells i zero l m = ap value (written i l).first ∙ corner_is_quantity lp up a w (meaning (length lp.sides) i) (meaning_there lp i (subst (λ h. i < h) height l))
      cells i (suc j) l m = ap value ((written i l).later j (inside j m)) ∙ ap whole (turned_is lp up a j (growth_of lp (meaning (length lp.sides) i) j) (inside j m))

      free_rows : (j : ℕ) → 0 < j → j ≤ d.width - 1 → slice_index d.free j ≡ first_free lp j
      free_rows zero s m = absurd (omega arith)
      free_rows (suc j) s m = frees j (inside j m) ∙ ap₂ (λ b n. cond b (suc (n + j)) (suc j)) (a.each j (inside j m)) a.size

  pub start_dictionary : length d.cells ≡ d.height * d.width → length d.free ≡ d.width → length lp.sides ≤ 1024 → length lp.rows ≤ 4096 → IsDictionary d
  start_dictionary size free few_columns few_rows = record {
    size = size;
    width = omega (arith, width, long);
    free = free;
    tall = omega (arith, height, long);
    height_small = omega (arith, height, few_columns, few_rows);
    width_small = omega (arith, width, few_columns);
    narrow = λ i j l m. (written i l).narrow j;
    units = start_units lp w (least_of d.low) (least_is lp d.low low) (table d) start_is;
    home = start_home lp w (least_of d.low) (least_is lp d.low low) (table d) start_is;
  }
    where
      long : length d.low ≡ length lp.sides
      long = ap length low ∙ length-map lp.sides (λ (s : Bounds). s.lo)

-- as the code makes it
module _ (lp : Lp) (w : IsWellFormedLp lp) (few_columns : length lp.sides ≤ 1024) (few_rows : length lp.rows ≤ 4096) (sides : List Bounds) (same : sides ≡ lp.sides) (up others : List Bool) (same_up : others ≡ up) (a : AreStarts lp up) (rows : ℕ) (all : rows ≡ length lp.rows) (cells new : List Fraction) (stays : cells ≡ new) (size : length new ≡ (1 + 2 * length sides + rows) * (length sides + 1)) (written : (i : ℕ) → i < 1 + 2 * length sides + rows → IsWritten up (length lp.sides) (corner_of lp up (meaning (length lp.sides) i)) (growth_of lp (meaning (length lp.sides) i)) (line new (length sides + 1) i)) (free : List ℕ) (long : length free ≡ suc (length others)) (frees : (j : ℕ) → j < length others → slice_index free (suc j) ≡ cond (is_up others j) (suc (length others + j)) (suc j)) (low : List ℤ) (lows : low ≡ map (λ (s : Bounds). s.lo) sides) where
  abbrev made : Dictionary
  made = seen (1 + 2 * length sides + rows) (length sides + 1) cells free low

  tall : 1 + 2 * length sides + rows ≡ suc (length lp.sides + length lp.sides + length lp.rows)
  tall = omega (arith, ap length same, all)

  wide : length sides + 1 ≡ suc (length lp.sides)
  wide = omega (arith, ap length same)

  low_is : low ≡ map (λ (s : Bounds). s.lo) lp.sides
  low_is = lows ∙ ap (map (λ (s : Bounds). s.lo)) same

  rows_are : (i : ℕ) → i < 1 + 2 * length sides + rows → IsWritten up (length lp.sides) (corner_of lp up (meaning (length lp.sides) i)) (growth_of lp (meaning (length lp.sides) i)) (line cells (length sides + 1) i)
  rows_are i l =
      subst (λ xs. IsWritten up (length lp.sides) (corner_of lp up (meaning (length lp.sides) i)) (growth_of lp (meaning (length lp.sides) i)) (line xs (length sides + 1) i)) (sym stays) (written i l)

  frees_are : (j : ℕ) → j < length lp.sides → slice_index free (suc j) ≡ cond (is_up up j) (suc (length up + j)) (suc j)
  frees_are j l =
      let here : j < length others = omega (arith, l, ap length same_up, a.size) in
      frees j here ∙ ap (λ (us : List Bool). cond (is_up us j) (suc (length us + j)) (suc j)) same_up

  pub made_start : IsStart lp (table made)
  made_start = start_is lp w up a made tall wide low_is rows_are frees_are

  pub made_dictionary : IsDictionary made
  made_dictionary =
      start_dictionary lp w up a made tall wide low_is rows_are frees_are (ap length stays ∙ size) (omega (arith, long, ap length same_up, a.size, ap length same)) few_columns few_rows

  pub made_least : AreLeast lp (least_of low)
  made_least = least_is lp low low_is

pub cells_fit : (sides rows : ℕ) → sides ≤ 1024 → rows ≤ 4096 → (1 + 2 * sides + rows) * (sides + 1) < 2 ^ 64
cells_fit sides rows s r =
    let k : (1 + 2 * sides + rows) * (sides + 1) ≤ 6145 * (sides + 1) = mul-le-mul_right (sides + 1) (high sides rows s r) in
    omega (arith, k, s)
  where
    high : (s r : ℕ) → s ≤ 1024 → r ≤ 4096 → 1 + 2 * s + r ≤ 6145
    high s r a b = omega (arith, a, b)
