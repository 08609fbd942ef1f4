-- The rows of the first dictionary as they are written term by term.
use Rattle.std.proofs.Common.{◌≡◌, ◌≢◌, ◌⊎◌, inl, inr, ℕ, zero, suc, ◌+◌, ◌-◌, ◌*◌, ◌^◌, ◌<◌, ◌≤◌, ◌==◌, Bool, true, false, cond, ℤ, pos, negsuc, ◌+ℤ◌, ◌-ℤ◌, ◌*ℤ◌, neg_ℤ, int_lt, replicate, unsigned_abs, FitsSigned, to_z, of_z, List, [], ◌∷◌, ◌++◌, length, get_or, set, take, drop, map, max, Some, refl, sym, ◌∙◌, ap, ap₂, subst, arith, eq-eqb, get_or-set_same, get_or-set_other, mul-le-mul_left}
use Rattle.std.proofs.lemmas.Bool.{ne_eqb}
use Rattle.std.proofs.lemmas.Int.{ints, unsigned_abs-mul, fits_signed_from_abs, to_z-of_z}
use Rattle.std.specs.Int.{w128}
use Rattle.std.proofs.lemmas.List.{drop_more, take_all, drop_all, get_or_default, get_or_push, get_or_append_left, length_push, map_more}
use Rattle.std.proofs.lemmas.List.Sums.{sum_by-drop_more}
use Rattle.std.specs.Prelude.{not, slice_index}
use Rattle.rat128.specs.Fractions.{Fraction, whole_fraction}
use Rattle.rat128.specs.Operations.{IsNarrow, if_fit, new_of}
use Rattle.rat128.proofs.Lowest.{lowest-whole}
use Rattle.ip_rows.specs.declared.Bounds.{Bounds}
use Rattle.ip_rows.specs.declared.rows.Coef.{Coef}
use Rattle.ip_rows.specs.declared.rows.IpRow.{IpRow}
use Rattle.ip_rows.specs.declared.lp.Lp.{Lp}
use Rattle.ip_rows.specs.Rows.{side_at, factor_at, greater_size, weight, AreTerms}
use Rattle.ip_rows.specs.Lps.{IsWellFormedLp, IsMeasuredLp}
use Rattle.dict_pivot.specs.Dictionaries.{number}
use Rattle.dict_pivot.specs.Quantities.{Quantity, Objective, ColumnValue, UpperDistance, RowSurplus, meaning, row_of, growth_of}
use Rattle.dict_pivot.specs.First.{is_up, side_from, turned_by, corner_sum, corner_of, IsWritten, AreZeros}
use Rattle.dict_pivot.proofs.PivotLaws.{same_or_not}
use Rattle.dict_pivot.proofs.Narrow.{narrow-zero, fit_both, narrow-whole}
use Rattle.dict_pivot.proofs.StartLaws.{Apart, meaning_at_value, meaning_at_upper, meaning_at_row}

-- ---- a whole number as a fraction
pub new_whole : (n : ℤ) → unsigned_abs n < 2 ^ 127 → new_of n (pos 1) ≡ Some (whole_fraction n)
unfolding new_of
new_whole n small =
    ap (λ r. if_fit (r.num ∷ pos (suc r.less_one) ∷ []) r) (lowest-whole n) ∙ fit_both (whole_fraction n) (narrow-whole n small)

pub same_fraction : (p q : Fraction) → Some p ≡ Some q → p ≡ q
same_fraction p q e = cc

-- ---- one more term is taken
-- no term before it names its column
pub factor_here : (ts : List Coef) → Apart ts → (i : ℕ) (t : Coef) → i < length ts → t ≡ get_or ts i t → factor_at (take (i + 1) ts) t.column ≡ t.factor
factor_here ts a i t l e = ap (λ ts. factor_at ts t.column) (ap (λ n. take n ts) (one_more i)) ∙ by_place ts a i t l e
  where
    one_more : (i : ℕ) → i + 1 ≡ suc i
    one_more i = omega arith

    by_place : (ts : List Coef) → Apart ts → (i : ℕ) (t : Coef) → i < length ts → t ≡ get_or ts i t → factor_at (take (suc i) ts) t.column ≡ t.factor
    by_place [] a i t l e = absurd (omega arith)
    by_place (h ∷ ts) a zero t l e = ap (λ b. cond b h.factor (pos 0)) (eq-eqb h.column t.column (ap (λ (t : Coef). t.column) (sym e))) ∙ ap (λ (t : Coef). t.factor) (sym e)
    by_place (h ∷ ts) a (suc i) t l e =
        let below : h.column < t.column = subst (λ (u : Coef). h.column < u.column) (sym e) (a.0 i t (omega (arith, l))) in
        ap (λ b. cond b h.factor (factor_at (take (suc i) ts) t.column)) (ne_eqb h.column t.column (λ f. absurd (omega (arith, f, below)))) ∙ by_place ts a.1 i t (omega (arith, l)) e

pub factor_other : (ts : List Coef) (i : ℕ) (t : Coef) → i < length ts → t ≡ get_or ts i t → (j : ℕ) → t.column ≢ j → factor_at (take (i + 1) ts) j ≡ factor_at (take i ts) j
factor_other ts i t l e j ne = ap (λ n. factor_at (take n ts) j) (one_more i) ∙ by_place ts i t l e ne
  where
    one_more : (i : ℕ) → i + 1 ≡ suc i
    one_more i = omega arith

    by_place : (ts : List Coef) (i : ℕ) (t : Coef) → i < length ts → t ≡ get_or ts i t → t.column ≢ j → factor_at (take (suc i) ts) j ≡ factor_at (take i ts) j
    by_place [] i t l e ne = absurd (omega arith)
    by_place (h ∷ ts) zero t l e ne = ap (λ b. cond b h.factor (pos 0)) (ne_eqb h.column j (λ f. ne (ap (λ (t : Coef). t.column) e ∙ f)))
    by_place (h ∷ ts) (suc i) t l e ne = ap (cond (h.column == j) h.factor) (by_place ts i t (omega (arith, l)) e ne)

-- ---- the constant
pub sum_more : (sides : List Bounds) (up : List Bool) (ts : List Coef) (i : ℕ) (t : Coef) (sum sum' rest : ℤ) → i < length ts → t ≡ get_or ts i t → sum' ≡ sum +ℤ t.factor *ℤ side_from sides up t.column → sum +ℤ corner_sum sides up (drop i ts) ≡ rest → sum' +ℤ corner_sum sides up (drop (i + 1) ts) ≡ rest
sum_more sides up ts i t sum sum' rest l is e h =
    let opened : corner_sum sides up (drop i ts) ≡ t.factor *ℤ side_from sides up t.column +ℤ corner_sum sides up (drop (i + 1) ts) = ap (corner_sum sides up) (drop_more ts i t l ∙ ap (λ u. u ∷ drop (i + 1) ts) (sym is)) in
    moved sum sum' (t.factor *ℤ side_from sides up t.column) (corner_sum sides up (drop i ts)) (corner_sum sides up (drop (i + 1) ts)) rest e opened h
  where
    moved : (s s' p c d r : ℤ) → s' ≡ s +ℤ p → c ≡ p +ℤ d → s +ℤ c ≡ r → s' +ℤ d ≡ r
    moved s s' p c d r e f h = omega (arith, ints, e, f, h)

weight_more : (sides : List Bounds) (ts : List Coef) (i : ℕ) (t : Coef) → i < length ts → t ≡ get_or ts i t → weight sides (drop i ts) ≡ unsigned_abs t.factor * greater_size (side_at sides t.column) + weight sides (drop (i + 1) ts)
weight_more sides ts i t l is =
    sum_by-drop_more (λ (u : Coef). unsigned_abs u.factor * greater_size (side_at sides u.column)) ts i t l ∙ ap (λ (u : Coef). unsigned_abs u.factor * greater_size (side_at sides u.column) + weight sides (drop (i + 1) ts)) (sym is)

side_small : (sides : List Bounds) (up : List Bool) (j : ℕ) → unsigned_abs (side_from sides up j) ≤ greater_size (side_at sides j)
side_small sides up j = by_side (is_up up j) (side_at sides j).hi (side_at sides j).lo
  where
    by_side : (b : Bool) (h l : ℤ) → unsigned_abs (cond b h l) ≤ max (unsigned_abs l) (unsigned_abs h)
    by_side true h l = omega arith
    by_side false h l = omega arith

-- what the next product may be
pub product_fits : (sides : List Bounds) (up : List Bool) (ts : List Coef) (i : ℕ) (t : Coef) (sum : ℤ) (most : ℕ) → i < length ts → t ≡ get_or ts i t → unsigned_abs sum + weight sides (drop i ts) ≤ most → unsigned_abs sum + unsigned_abs t.factor * unsigned_abs (side_from sides up t.column) ≤ most
product_fits sides up ts i t sum most l is h =
    let w = weight_more sides ts i t l is in
    let k : unsigned_abs t.factor * unsigned_abs (side_from sides up t.column) ≤ unsigned_abs t.factor * greater_size (side_at sides t.column) = mul-le-mul_left (unsigned_abs t.factor) (side_small sides up t.column) in
    last (unsigned_abs sum) (weight sides (drop i ts)) (unsigned_abs t.factor * greater_size (side_at sides t.column)) (weight sides (drop (i + 1) ts)) (unsigned_abs t.factor * unsigned_abs (side_from sides up t.column)) most w k h
  where
    last : (s w g r p m : ℕ) → w ≡ g + r → p ≤ g → s + w ≤ m → s + p ≤ m
    last s w g r p m e k h = omega (arith, e, k, h)

pub size_more : (sides : List Bounds) (up : List Bool) (ts : List Coef) (i : ℕ) (t : Coef) (sum sum' : ℤ) (most : ℕ) → i < length ts → t ≡ get_or ts i t → sum' ≡ sum +ℤ t.factor *ℤ side_from sides up t.column → unsigned_abs sum + weight sides (drop i ts) ≤ most → unsigned_abs sum' + weight sides (drop (i + 1) ts) ≤ most
size_more sides up ts i t sum sum' most l is e h =
    let w = weight_more sides ts i t l is in
    let k : unsigned_abs t.factor * unsigned_abs (side_from sides up t.column) ≤ unsigned_abs t.factor * greater_size (side_at sides t.column) = mul-le-mul_left (unsigned_abs t.factor) (side_small sides up t.column) in
    let m = unsigned_abs-mul t.factor (side_from sides up t.column) in
    last sum sum' (t.factor *ℤ side_from sides up t.column) (weight sides (drop i ts)) (unsigned_abs t.factor * greater_size (side_at sides t.column)) (weight sides (drop (i + 1) ts)) (unsigned_abs t.factor * unsigned_abs (side_from sides up t.column)) most e m w k h
  where
    last : (s s' z : ℤ) (w g r p m : ℕ) → s' ≡ s +ℤ z → unsigned_abs z ≡ p → w ≡ g + r → p ≤ g → unsigned_abs s + w ≤ m → unsigned_abs s' + r ≤ m
    last s s' z w g r p m e n f k h = omega (arith, ints, e, n, f, k, h)

-- the sum of 128 bits with one more term
module _ (sides : List Bounds) (up : List Bool) (ts : List Coef) (i : ℕ) (t : Coef) (sum part : ℤ) (l : i < length ts) (is : t ≡ get_or ts i t) (e : part ≡ t.factor *ℤ side_from sides up t.column) (small : unsigned_abs sum + weight sides (drop i ts) ≤ 2 ^ 120) (fits : FitsSigned w128 part) where
  next_size : unsigned_abs (sum +ℤ part) + weight sides (drop (i + 1) ts) ≤ 2 ^ 120
  next_size = size_more sides up ts i t sum (sum +ℤ part) (2 ^ 120) l is (ap (λ z. sum +ℤ z) e) small

  whole_fits : FitsSigned w128 (sum +ℤ part)
  whole_fits = let k = next_size in fits_signed_from_abs w128 (sum +ℤ part) (omega (arith, k))

  pub sum_fits : FitsSigned w128 (sum +ℤ to_z w128 (of_z w128 part))
  sum_fits = subst (λ z. FitsSigned w128 (sum +ℤ z)) (sym (to_z-of_z w128 part fits)) whole_fits

  sum_same : to_z w128 (of_z w128 (sum +ℤ to_z w128 (of_z w128 part))) ≡ sum +ℤ part
  sum_same =
      ap (λ z. to_z w128 (of_z w128 (sum +ℤ z))) (to_z-of_z w128 part fits) ∙ to_z-of_z w128 (sum +ℤ part) whole_fits

  pub sum_next : (rest : ℤ) → sum +ℤ corner_sum sides up (drop i ts) ≡ rest → to_z w128 (of_z w128 (sum +ℤ to_z w128 (of_z w128 part))) +ℤ corner_sum sides up (drop (i + 1) ts) ≡ rest
  sum_next rest h =
      ap (λ z. z +ℤ corner_sum sides up (drop (i + 1) ts)) sum_same ∙ sum_more sides up ts i t sum (sum +ℤ part) rest l is (ap (λ z. sum +ℤ z) e) h

  pub size_next : unsigned_abs (to_z w128 (of_z w128 (sum +ℤ to_z w128 (of_z w128 part)))) + weight sides (drop (i + 1) ts) ≤ 2 ^ 120
  size_next = subst (λ z. unsigned_abs z + weight sides (drop (i + 1) ts) ≤ 2 ^ 120) (sym sum_same) next_size

-- before a term is taken
pub sum_first : (sum least least' rest : ℤ) → sum ≡ neg_ℤ least → least' ≡ least → sum +ℤ rest ≡ rest -ℤ least'
sum_first sum least least' rest e f = omega (arith, ints, e, f)

pub size_first : (sum least : ℤ) (w : ℕ) → sum ≡ neg_ℤ least → w + unsigned_abs least ≤ 2 ^ 120 → unsigned_abs sum + w ≤ 2 ^ 120
size_first sum least w e h = omega (arith, ints, e, h)

-- every term is taken
pub sum_done : (sides : List Bounds) (up : List Bool) (ts : List Coef) (i : ℕ) (sum rest : ℤ) → length ts ≤ i → sum +ℤ corner_sum sides up (drop i ts) ≡ rest → sum ≡ rest
sum_done sides up ts i sum rest le h =
    let e : sum +ℤ pos 0 ≡ rest = subst (λ us. sum +ℤ corner_sum sides up us ≡ rest) (drop_all i ts le) h in
    omega (arith, ints, e)

pub factors_done : (up : List Bool) (n : ℕ) (ts : List Coef) (i : ℕ) (row : List Fraction) → length ts ≤ i → ((j : ℕ) → j < n → number row (suc j) ≡ whole_fraction (turned_by up j (factor_at (take i ts) j))) → (j : ℕ) → j < n → number row (suc j) ≡ whole_fraction (turned_by up j (factor_at ts j))
factors_done up n ts i row le h j l = h j l ∙ ap (λ us. whole_fraction (turned_by up j (factor_at us j))) (take_all i ts le)

-- ---- where the columns start
pub starts_none : (up : List Bool) (aim : List Coef) → ((j : ℕ) → is_up up j ≡ false) → (j : ℕ) → j < length up → is_up up j ≡ int_lt (factor_at (take 0 aim) j) (pos 0)
starts_none up aim none j l = none j

pub starts_more : (up new : List Bool) (aim : List Coef) (i : ℕ) (t : Coef) (b : Bool) → Apart aim → i < length aim → t ≡ get_or aim i t → t.column < length up → new ≡ set up t.column b → b ≡ int_lt t.factor (pos 0) → ((j : ℕ) → j < length up → is_up up j ≡ int_lt (factor_at (take i aim) j) (pos 0)) → (j : ℕ) → j < length up → is_up new j ≡ int_lt (factor_at (take (i + 1) aim) j) (pos 0)
starts_more up new aim i t b a l is c e f h j m = pick (same_or_not t.column j)
  where
    pick : (t.column ≡ j) ⊎ (t.column ≢ j) → is_up new j ≡ int_lt (factor_at (take (i + 1) aim) j) (pos 0)
    pick (inl same) = subst (λ j. is_up new j ≡ int_lt (factor_at (take (i + 1) aim) j) (pos 0)) same (ap (λ us. get_or us t.column false) e ∙ get_or-set_same up t.column b false c ∙ f ∙ ap (λ z. int_lt z (pos 0)) (sym (factor_here aim a i t l is)))
    pick (inr ne) = ap (λ us. get_or us j false) e ∙ get_or-set_other up t.column j b false (λ g. ne (sym g)) ∙ h j m ∙ ap (λ z. int_lt z (pos 0)) (sym (factor_other aim i t l is j ne))

pub starts_done : (up : List Bool) (aim : List Coef) (i : ℕ) → length aim ≤ i → ((j : ℕ) → j < length up → is_up up j ≡ int_lt (factor_at (take i aim) j) (pos 0)) → (j : ℕ) → j < length up → is_up up j ≡ int_lt (factor_at aim j) (pos 0)
starts_done up aim i le h j m = h j m ∙ ap (λ us. int_lt (factor_at us j) (pos 0)) (take_all i aim le)

-- none is marked among so many false ones
pub none_marked : (up : List Bool) (n : ℕ) → up ≡ replicate n false → (j : ℕ) → is_up up j ≡ false
none_marked up n e j = ap (λ us. get_or us j false) e ∙ at n j
  where
    at : (n j : ℕ) → get_or (replicate n false) j false ≡ false
    at zero j = refl
    at (suc n) zero = refl
    at (suc n) (suc j) = at n j

pub zeros_number : (xs : List Fraction) (n : ℕ) → xs ≡ replicate n (whole_fraction (pos 0)) → (j : ℕ) → number xs j ≡ whole_fraction (pos 0)
zeros_number xs n e j = ap (λ ys. number ys j) e ∙ at n j
  where
    at : (n j : ℕ) → get_or (replicate n (whole_fraction (pos 0))) j (whole_fraction (pos 0)) ≡ whole_fraction (pos 0)
    at zero j = refl
    at (suc n) zero = refl
    at (suc n) (suc j) = at n j

-- ---- the factors
pub later_more : (up : List Bool) (n : ℕ) (ts : List Coef) (i : ℕ) (t : Coef) (row new : List Fraction) (x : Fraction) → Apart ts → i < length ts → t ≡ get_or ts i t → t.column < n → length row ≡ suc n → new ≡ set row (t.column + 1) x → x ≡ whole_fraction (turned_by up t.column t.factor) → ((j : ℕ) → j < n → number row (suc j) ≡ whole_fraction (turned_by up j (factor_at (take i ts) j))) → (j : ℕ) → j < n → number new (suc j) ≡ whole_fraction (turned_by up j (factor_at (take (i + 1) ts) j))
later_more up n ts i t row new x a l is c size e f h j m = pick (same_or_not t.column j)
  where
    one_more : (k : ℕ) → k + 1 ≡ suc k
    one_more k = omega arith

    written : new ≡ set row (suc t.column) x
    written = e ∙ ap (λ k. set row k x) (one_more t.column)

    pick : (t.column ≡ j) ⊎ (t.column ≢ j) → number new (suc j) ≡ whole_fraction (turned_by up j (factor_at (take (i + 1) ts) j))
    pick (inl same) = subst (λ j. number new (suc j) ≡ whole_fraction (turned_by up j (factor_at (take (i + 1) ts) j))) same (ap (λ r. number r (suc t.column)) written ∙ get_or-set_same row (suc t.column) x (whole_fraction (pos 0)) (omega (arith, c, size)) ∙ f ∙ ap (λ z. whole_fraction (turned_by up t.column z)) (sym (factor_here ts a i t l is)))
    pick (inr ne) = ap (λ r. number r (suc j)) written ∙ get_or-set_other row (suc t.column) (suc j) x (whole_fraction (pos 0)) (λ g. ne (peel g)) ∙ h j m ∙ ap (λ z. whole_fraction (turned_by up j z)) (sym (factor_other ts i t l is j ne))
      where
        peel : suc j ≡ suc t.column → t.column ≡ j
        peel g = omega (arith, g)

pub narrow_more : (row new : List Fraction) (k : ℕ) (x : Fraction) → k < length row → new ≡ set row k x → IsNarrow x → ((j : ℕ) → IsNarrow (number row j)) → (j : ℕ) → IsNarrow (number new j)
narrow_more row new k x l e n h j = pick (same_or_not j k)
  where
    pick : (j ≡ k) ⊎ (j ≢ k) → IsNarrow (number new j)
    pick (inl same) = subst (λ r. IsNarrow (number r j)) (sym e) (subst (λ j. IsNarrow (number (set row k x) j)) (sym same) (subst IsNarrow (sym (get_or-set_same row k x (whole_fraction (pos 0)) l)) n))
    pick (inr ne) = subst (λ r. IsNarrow (number r j)) (sym e) (subst IsNarrow (sym (get_or-set_other row k j x (whole_fraction (pos 0)) ne)) (h j))

pub zeros_later : (up : List Bool) (n : ℕ) (ts : List Coef) (row : List Fraction) → AreZeros row → (j : ℕ) → j < n → number row (suc j) ≡ whole_fraction (turned_by up j (factor_at (take 0 ts) j))
zeros_later up n ts row z j l = z (suc j) ∙ ap whole_fraction (zero_either (is_up up j))
  where
    zero_either : (b : Bool) → pos 0 ≡ cond b (neg_ℤ (pos 0)) (pos 0)
    zero_either true = refl
    zero_either false = refl

pub zeros_narrow : (row : List Fraction) → AreZeros row → (j : ℕ) → IsNarrow (number row j)
zeros_narrow row z j = subst IsNarrow (sym (z j)) narrow-zero

-- the whole row, once the constant is written too
pub row_written : (up : List Bool) (n : ℕ) (constant : ℤ) (growth : ℕ → ℤ) (row new : List Fraction) (x : Fraction) → length row ≡ suc n → new ≡ set row 0 x → x ≡ whole_fraction constant → IsNarrow x → ((j : ℕ) → j < n → number row (suc j) ≡ whole_fraction (turned_by up j (growth j))) → ((j : ℕ) → IsNarrow (number row j)) → IsWritten up n constant growth new
row_written up n constant growth row new x size e f nx later narrow = record {
  first = ap (λ r. number r 0) e ∙ get_or-set_same row 0 x (whole_fraction (pos 0)) (omega (arith, size)) ∙ f;
  later = λ j l. ap (λ r. number r (suc j)) e ∙ get_or-set_other row 0 (suc j) x (whole_fraction (pos 0)) (λ g. absurd (omega (arith, g))) ∙ later j l;
  narrow = narrow_more row new 0 x (omega (arith, size)) e nx narrow;
}

-- a row in which one column alone has a factor, and the constant was written before
pub unit_written : (up : List Bool) (n k : ℕ) (constant s : ℤ) (row mid new : List Fraction) (x y : Fraction) → k < n → length row ≡ suc n → AreZeros row → mid ≡ set row 0 x → new ≡ set mid (k + 1) y → length mid ≡ suc n → x ≡ whole_fraction constant → IsNarrow x → y ≡ whole_fraction (turned_by up k s) → IsNarrow y → IsWritten up n constant (λ j. cond (k == j) s (pos 0)) new
unit_written up n k constant s row mid new x y l size z e f long ex nx ey ny = record {
  first = ap (λ r. number r 0) g ∙ get_or-set_other mid (suc k) 0 y (whole_fraction (pos 0)) (λ h. absurd (omega (arith, h))) ∙ ap (λ r. number r 0) e ∙ get_or-set_same row 0 x (whole_fraction (pos 0)) (omega (arith, size)) ∙ ex;
  later = λ j m. pick j (same_or_not k j);
  narrow = narrow_more mid new (suc k) y (omega (arith, l, long)) g ny (narrow_more row mid 0 x (omega (arith, size)) e nx (zeros_narrow row z));
}
  where
    one_more : (k : ℕ) → k + 1 ≡ suc k
    one_more k = omega arith

    g : new ≡ set mid (suc k) y
    g = f ∙ ap (λ k. set mid k y) (one_more k)

    zero_either : (b : Bool) → pos 0 ≡ cond b (neg_ℤ (pos 0)) (pos 0)
    zero_either true = refl
    zero_either false = refl

    pick : (j : ℕ) → (k ≡ j) ⊎ (k ≢ j) → number new (suc j) ≡ whole_fraction (turned_by up j (cond (k == j) s (pos 0)))
    pick j (inl same) = subst (λ j. number new (suc j) ≡ whole_fraction (turned_by up j (cond (k == j) s (pos 0)))) same (ap (λ r. number r (suc k)) g ∙ get_or-set_same mid (suc k) y (whole_fraction (pos 0)) (omega (arith, l, long)) ∙ ey ∙ ap (λ b. whole_fraction (turned_by up k (cond b s (pos 0)))) (sym (eq-eqb k k refl)))
    pick j (inr ne) = ap (λ r. number r (suc j)) g ∙ get_or-set_other mid (suc k) (suc j) y (whole_fraction (pos 0)) (λ h. ne (peel h)) ∙ ap (λ r. number r (suc j)) e ∙ get_or-set_other row 0 (suc j) x (whole_fraction (pos 0)) (λ h. absurd (omega (arith, h))) ∙ z (suc j) ∙ ap whole_fraction (zero_either (is_up up j) ∙ ap (λ b. turned_by up j (cond b s (pos 0))) (sym (ne_eqb k j ne)))
      where
        peel : suc j ≡ suc k → k ≡ j
        peel h = omega (arith, h)

-- ---- a written row, by the quantity of its place
as_quantity : (lp : Lp) (up : List Bool) (n : ℕ) (p q : Quantity) (row : List Fraction) → q ≡ p → IsWritten up n (corner_of lp up p) (growth_of lp p) row → IsWritten up n (corner_of lp up q) (growth_of lp q) row
as_quantity lp up n p q row e w = subst (λ q. IsWritten up n (corner_of lp up q) (growth_of lp q) row) (sym e) w

module _ (lp : Lp) (up : List Bool) (i : ℕ) (sides : List Bounds) (row : List Fraction) (same : sides ≡ lp.sides) where
  over_sides : (constant : List Bounds → ℤ) (growth : ℕ → ℤ) → IsWritten up (length sides) (constant sides) growth row → IsWritten up (length lp.sides) (constant lp.sides) growth row
  over_sides constant growth w =
      subst (λ (s : List Bounds). IsWritten up (length s) (constant s) growth row) same w

  pub objective_row : (terms : List Coef) → i ≡ 0 → terms ≡ lp.aim → IsWritten up (length sides) (corner_sum sides up terms -ℤ pos 0) (λ j. factor_at terms j) row → IsWritten up (length lp.sides) (corner_of lp up (meaning (length lp.sides) i)) (growth_of lp (meaning (length lp.sides) i)) row
  objective_row terms z e w =
      as_quantity lp up (length lp.sides) Objective (meaning (length lp.sides) i) row (ap (meaning (length lp.sides)) z) (subst (λ k. IsWritten up (length lp.sides) k (growth_of lp Objective) row) (less_zero (corner_sum lp.sides up lp.aim)) (subst (λ (ts : List Coef). IsWritten up (length lp.sides) (corner_sum lp.sides up ts -ℤ pos 0) (λ j. factor_at ts j) row) e (over_sides (λ s. corner_sum s up terms -ℤ pos 0) (λ j. factor_at terms j) w)))
    where
      less_zero : (z : ℤ) → z -ℤ pos 0 ≡ z
      less_zero z = omega (arith, ints)

  pub value_row : i ≢ 0 → i ≤ length sides → IsWritten up (length sides) (side_from sides up (i - 1)) (λ j. cond (i - 1 == j) (pos 1) (pos 0)) row → IsWritten up (length lp.sides) (corner_of lp up (meaning (length lp.sides) i)) (growth_of lp (meaning (length lp.sides) i)) row
  value_row ne le w =
      as_quantity lp up (length lp.sides) (ColumnValue (i - 1)) (meaning (length lp.sides) i) row (meaning_at_value (length lp.sides) i ne (subst (λ n. i ≤ n) (ap length same) le)) (over_sides (λ s. side_from s up (i - 1)) (growth_of lp (ColumnValue (i - 1))) w)

  pub distance_row : length sides < i → i ≤ 2 * length sides → IsWritten up (length sides) ((side_at sides (i - 1 - length sides)).hi -ℤ side_from sides up (i - 1 - length sides)) (λ j. cond (i - 1 - length sides == j) (negsuc 0) (pos 0)) row → IsWritten up (length lp.sides) (corner_of lp up (meaning (length lp.sides) i)) (growth_of lp (meaning (length lp.sides) i)) row
  distance_row gt le w =
      as_quantity lp up (length lp.sides) (UpperDistance (i - 1 - length lp.sides)) (meaning (length lp.sides) i) row (meaning_at_upper (length lp.sides) i (subst (λ n. n < i) (ap length same) gt) (subst (λ n. i ≤ 2 * n) (ap length same) le)) (subst (λ (s : List Bounds). IsWritten up (length s) ((side_at s (i - 1 - length s)).hi -ℤ side_from s up (i - 1 - length s)) (λ j. cond (i - 1 - length s == j) (negsuc 0) (pos 0)) row) same w)

  pub surplus_row : (asked : IpRow) (terms : List Coef) (least : ℤ) → 2 * length sides < i → i - 1 - 2 * length sides < length lp.rows → asked ≡ get_or lp.rows (i - 1 - 2 * length sides) asked → terms ≡ asked.terms → least ≡ asked.least → IsWritten up (length sides) (corner_sum sides up terms -ℤ least) (λ j. factor_at terms j) row → IsWritten up (length lp.sides) (corner_of lp up (meaning (length lp.sides) i)) (growth_of lp (meaning (length lp.sides) i)) row
  surplus_row asked terms least gt l is e f w =
      let row_is : asked ≡ row_of lp.rows (i - 1 - 2 * length lp.sides) = is ∙ get_or_default lp.rows (i - 1 - 2 * length sides) asked (record { terms = []; least = pos 0 }) l ∙ ap (λ n. row_of lp.rows (i - 1 - 2 * n)) (ap length same) in
      as_quantity lp up (length lp.sides) (RowSurplus (i - 1 - 2 * length lp.sides)) (meaning (length lp.sides) i) row (meaning_at_row (length lp.sides) i (subst (λ n. 2 * n < i) (ap length same) gt)) (subst (λ (r : IpRow). IsWritten up (length lp.sides) (corner_sum lp.sides up r.terms -ℤ r.least) (λ j. factor_at r.terms j) row) row_is (subst (λ z. IsWritten up (length lp.sides) (corner_sum lp.sides up asked.terms -ℤ z) (λ j. factor_at asked.terms j) row) f (subst (λ (ts : List Coef). IsWritten up (length lp.sides) (corner_sum lp.sides up ts -ℤ least) (λ j. factor_at ts j) row) e (over_sides (λ s. corner_sum s up terms -ℤ least) (λ j. factor_at terms j) w))))

pub weighs_same : (sides sides' : List Bounds) (ts ts' : List Coef) → sides ≡ sides' → ts ≡ ts' → weight sides' ts' ≤ 2 ^ 120 → weight sides ts + 0 ≤ 2 ^ 120
weighs_same sides sides' ts ts' e f h =
    let same : weight sides ts ≡ weight sides' ts' = ap₂ weight e f in
    omega (arith, same, h)

module _ (lp : Lp) (sides : List Bounds) (terms : List Coef) (asked : IpRow) (k : ℕ) where
  pub row_terms : IsWellFormedLp lp → k < length lp.rows → asked ≡ get_or lp.rows k asked → sides ≡ lp.sides → terms ≡ asked.terms → AreTerms (length sides) terms
  row_terms w l is e f =
      subst (λ (ts : List Coef). AreTerms (length sides) ts) (sym f) (subst (λ n. AreTerms n asked.terms) (sym (ap length e)) (subst (λ (r : IpRow). AreTerms (length lp.sides) r.terms) (sym is) (w.rows k asked l)))

  pub row_measured : (least : ℤ) → IsMeasuredLp lp → k < length lp.rows → asked ≡ get_or lp.rows k asked → sides ≡ lp.sides → terms ≡ asked.terms → least ≡ asked.least → weight sides terms + unsigned_abs least ≤ 2 ^ 120
  row_measured least m l is e f g =
      let here : weight lp.sides asked.terms + unsigned_abs asked.least ≤ 2 ^ 120 = subst (λ (r : IpRow). weight lp.sides r.terms + unsigned_abs r.least ≤ 2 ^ 120) (sym is) (m.rows k asked l) in
      let same : weight sides terms ≡ weight lp.sides asked.terms = ap₂ weight e f in
      let size : unsigned_abs least ≡ unsigned_abs asked.least = ap unsigned_abs g in
      omega (arith, here, same, size)

-- ---- small parts of the code
pub length-set : {A : Type 0} (xs : List A) (i : ℕ) (x : A) → length (set xs i x) ≡ length xs
length-set [] i x = refl
length-set (y ∷ xs) zero x = refl
length-set (y ∷ xs) (suc i) x = ap suc (length-set xs i x)

pub unit_turned : (b : Bool) → cond b (negsuc 0) (pos 1) ≡ cond b (neg_ℤ (pos 1)) (pos 1)
unit_turned true = refl
unit_turned false = refl

pub unit_turned_back : (b : Bool) → cond (not b) (negsuc 0) (pos 1) ≡ cond b (neg_ℤ (negsuc 0)) (negsuc 0)
unit_turned_back true = refl
unit_turned_back false = refl

pub row_up : (n j below : ℕ) (b : Bool) → below ≡ n → b ≡ true → below + j + 1 ≡ cond b (suc (n + j)) (suc j)
row_up n j below b e f = sum ∙ sym (ap (λ b. cond b (suc (n + j)) (suc j)) f)
  where
    sum : below + j + 1 ≡ suc (n + j)
    sum = omega (arith, e)

pub row_down : (n j below : ℕ) (b : Bool) → below ≡ 0 → b ≡ false → below + j + 1 ≡ cond b (suc (n + j)) (suc j)
row_down n j below b e f = sum ∙ sym (ap (λ b. cond b (suc (n + j)) (suc j)) f)
  where
    sum : below + j + 1 ≡ suc j
    sum = omega (arith, e)

pub free_size : (free new : List ℕ) (j row : ℕ) → new ≡ free ++ row ∷ [] → length free ≡ suc j → length new ≡ suc (j + 1)
free_size free new j row e size = ap length e ∙ more (length_push free row) size
  where
    more : {a b : ℕ} → a ≡ b + 1 → b ≡ suc j → a ≡ suc (j + 1)
    more f g = omega (arith, f, g)

pub free_more : (up : List Bool) (free new : List ℕ) (j row : ℕ) → new ≡ free ++ row ∷ [] → length free ≡ suc j → row ≡ cond (is_up up j) (suc (length up + j)) (suc j) → ((k : ℕ) → k < j → slice_index free (suc k) ≡ cond (is_up up k) (suc (length up + k)) (suc k)) → (k : ℕ) → k < j + 1 → slice_index new (suc k) ≡ cond (is_up up k) (suc (length up + k)) (suc k)
free_more up free new j row e size is h k l = ap (λ xs. slice_index xs (suc k)) e ∙ pick (same_or_not k j)
  where
    pick : (k ≡ j) ⊎ (k ≢ j) → slice_index (free ++ row ∷ []) (suc k) ≡ cond (is_up up k) (suc (length up + k)) (suc k)
    pick (inl same) = subst (λ k. slice_index (free ++ row ∷ []) (suc k) ≡ cond (is_up up k) (suc (length up + k)) (suc k)) (sym same) (get_or_push free row 0 (suc j) size ∙ is)
    pick (inr ne) = get_or_append_left free (row ∷ []) 0 (suc k) (omega (arith, size, l, ne)) ∙ h k (omega (arith, l, ne))

pub lows_more : (sides : List Bounds) (i : ℕ) (low new : List ℤ) (lo : ℤ) → i < length sides → new ≡ low ++ lo ∷ [] → lo ≡ (get_or sides i (record { lo = pos 0; hi = pos 0 })).lo → low ≡ map (λ (s : Bounds). s.lo) (take i sides) → new ≡ map (λ (s : Bounds). s.lo) (take (i + 1) sides)
lows_more sides i low new lo l e f h =
    e ∙ ap₂ (λ xs z. xs ++ z ∷ []) h f ∙ sym (map_more (λ (s : Bounds). s.lo) sides i (record { lo = pos 0; hi = pos 0 }) l)
