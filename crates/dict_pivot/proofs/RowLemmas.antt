-- A row's numbers as they are read and written, and the columns that a pivot passes over.
use Rattle.std.proofs.Common.{◌≡◌, ◌≢◌, ℕ, zero, suc, ◌+◌, ◌-◌, ◌<◌, ◌≤◌, List, [], ◌∷◌, length, get_or, ℤ, pos, ◌*ℤ◌, Option, Some, None, cond, false, refl, sym, ◌∙◌, ap, ap₂, subst, arith, eq-eqb, set, get_or-set_same, get_or-set_other, ◌⊎◌, inl, inr}
use Rattle.std.specs.Prelude.{IsSome, is_some, slice_index}
use Rattle.std.proofs.lemmas.Bool.{ne_eqb, cases_lt}
use Rattle.std.proofs.Math.Dec.{eqb}
use Rattle.rat128.specs.Fractions.{Fraction, whole_fraction}
use Rattle.rat128.specs.Operations.{IsNarrow, mul_of}
use Rattle.std.proofs.lemmas.List.{get_or_past}
use Rattle.dict_pivot.specs.Dictionaries.{number, least_number, new_number, new_with}
use Rattle.dict_pivot.specs.Steps.{new_at, AreActive}
use Rattle.dict_pivot.proofs.PivotLaws.{same_or_not}
use Rattle.dict_pivot.proofs.Narrow.{zero_is, zero_left, zero_product, skipped_row, skipped_column}

pub get_or_any : (xs : List Fraction) (i : ℕ) (d e : Fraction) → i < length xs → get_or xs i d ≡ get_or xs i e
get_or_any [] i d e l = absurd (omega arith)
get_or_any (x ∷ xs) zero d e l = refl
get_or_any (x ∷ xs) (suc i) d e l = get_or_any xs i d e (omega arith)

pub number_is : (xs : List Fraction) (i : ℕ) (x : Fraction) → i < length xs → x ≡ get_or xs i x → x ≡ number xs i
number_is xs i x l e = e ∙ get_or_any xs i x (whole_fraction (pos 0)) l

pub new_at_here : (xs shares : List Fraction) (c j : ℕ) (x y : Fraction) (o : Option Fraction) → j ≡ c → x ≡ number xs c → y ≡ number shares j → o ≡ mul_of x y → o ≡ new_at xs c shares j
unfolding new_with
new_at_here xs shares c j x y o e h k is =
    is ∙ ap₂ mul_of h k ∙ sym (ap (λ b. cond b (mul_of (number xs c) (number shares j)) (new_number (number xs j) (number xs c) (number shares j))) (eq-eqb j c e))

pub new_at_there : (xs shares : List Fraction) (c j : ℕ) (x a y : Fraction) (o : Option Fraction) → j ≢ c → x ≡ number xs j → a ≡ number xs c → y ≡ number shares j → o ≡ new_number x a y → o ≡ new_at xs c shares j
unfolding new_with
new_at_there xs shares c j x a y o ne h m k is =
    is ∙ (λ i. new_number (h i) (m i) (k i)) ∙ sym (ap (λ b. cond b (mul_of (number xs c) (number shares j)) (new_number (number xs j) (number xs c) (number shares j))) (ne_eqb j c ne))

-- the least of a row by its place in the list of the lower sides
pub least_past : (low : List ℤ) (row : ℕ) → length low < row → least_number low row ≡ whole_fraction (pos 0)
least_past low zero l = absurd (omega arith)
least_past low (suc k) l = ap whole_fraction (get_or_past low k (pos 0) (omega (arith, l)))

pub least_there : (low : List ℤ) (row : ℕ) (z : ℤ) → row ≢ 0 → z ≡ get_or low (row - 1) (pos 0) → whole_fraction z ≡ least_number low row
least_there low zero z ne e = absurd (ne refl)
least_there low (suc k) z ne e = ap whole_fraction (e ∙ ap (λ n. get_or low n (pos 0)) (less k))
  where
    less : (k : ℕ) → suc k - 1 ≡ k
    less k = omega arith

-- by the test, as the code makes it
pub new_at_tested : (xs shares : List Fraction) (c j : ℕ) (x a y : Fraction) → x ≡ number xs j → a ≡ number xs c → y ≡ number shares j → cond (eqb j c) (mul_of a y) (new_number x a y) ≡ new_at xs c shares j
unfolding new_with
new_at_tested xs shares c j x a y h m k = (λ i. cond (eqb j c) (mul_of (m i) (k i)) (new_number (h i) (m i) (k i)))

-- ---- columns that are passed over
-- a row with 0 in the pivot's column keeps its cells
pub zero_row : (xs shares : List Fraction) (c w : ℕ) → c < w → ((j : ℕ) → j < w → IsNarrow (number xs j)) → (number xs c).num ≡ pos 0 → (j : ℕ) → j < w → IsNarrow (number shares j) → new_at xs c shares j ≡ Some (number xs j)
unfolding new_with
zero_row xs shares c w cw narrow z j l n = pick (same_or_not j c)
  where
    times_zero : (a : Fraction) → IsNarrow a → a.num ≡ pos 0 → mul_of a (number shares j) ≡ Some a
    times_zero a m e = zero_product a (number shares j) m n (ap (λ z. z *ℤ (number shares j).num) e ∙ zero_left (number shares j).num) ∙ ap Some (sym (zero_is a m e))

    pick : (j ≡ c) ⊎ (j ≢ c) → new_at xs c shares j ≡ Some (number xs j)
    pick (inl e) = sym (new_at_here xs shares c j (number xs c) (number shares j) (Some (number xs j)) e refl refl (ap (λ k. Some (number xs k)) e ∙ sym (times_zero (number xs c) (narrow c cw) z)))
    pick (inr ne) = sym (new_at_there xs shares c j (number xs j) (number xs c) (number shares j) (Some (number xs j)) ne refl refl refl (skipped_row (number xs j) (number xs c) (number shares j) (narrow j l) (narrow c cw) n z))

-- so does a row in a column whose share is 0
pub zero_share : (xs shares : List Fraction) (c j w : ℕ) → c < w → j < w → ((j : ℕ) → j < w → IsNarrow (number xs j)) → IsNarrow (number shares j) → (number shares j).num ≡ pos 0 → j ≢ c → new_at xs c shares j ≡ Some (number xs j)
zero_share xs shares c j w cw l narrow n z ne =
    sym (new_at_there xs shares c j (number xs j) (number xs c) (number shares j) (Some (number xs j)) ne refl refl refl (skipped_column (number xs j) (number xs c) (number shares j) (narrow j l) (narrow c cw) n z))

-- a column stands in the list or not
pub listed_or_not : (active : List ℕ) (j : ℕ) → ((s : ℕ) × (s < length active) × (slice_index active s ≡ j)) ⊎ ((s : ℕ) → s < length active → slice_index active s ≢ j)
listed_or_not [] j = inr (λ s l. absurd (omega arith))
listed_or_not (a ∷ active) j = first (same_or_not a j) (listed_or_not active j)
  where
    later : (a ≢ j) → ((s : ℕ) → s < length active → slice_index active s ≢ j) → (s : ℕ) → s < length (a ∷ active) → slice_index (a ∷ active) s ≢ j
    later ne none zero l = ne
    later ne none (suc s) l = none s (omega arith)

    first : (a ≡ j) ⊎ (a ≢ j) → ((s : ℕ) × (s < length active) × (slice_index active s ≡ j)) ⊎ ((s : ℕ) → s < length active → slice_index active s ≢ j) → ((s : ℕ) × (s < length (a ∷ active)) × (slice_index (a ∷ active) s ≡ j)) ⊎ ((s : ℕ) → s < length (a ∷ active) → slice_index (a ∷ active) s ≢ j)
    first (inl e) o = inl (0, omega arith, e)
    first (inr ne) (inl (s, l, e)) = inl (suc s, omega arith, e)
    first (inr ne) (inr none) = inr (later ne none)

-- ---- the first wide cell of a row
pub some_of : (o : Option Fraction) (r : Fraction) → o ≡ Some r → IsSome o
some_of o r e = ap is_some e

pub none_of : (o p : Option Fraction) → is_some o ≡ false → o ≡ p → p ≡ None
none_of None p f e = sym e
none_of (Some x) p f e = cc

-- every column before the active column s fits where the active columns before it do
pub fits_before : (xs shares : List Fraction) (active : List ℕ) (c w end n : ℕ) → c < w → end ≤ w → AreActive active c end shares → ((j : ℕ) → j < w → IsNarrow (number xs j)) → ((j : ℕ) → j < end → IsNarrow (number shares j)) → ((t : ℕ) → t < n → t < length active → IsSome (new_at xs c shares (slice_index active t))) → (j : ℕ) → j < end → ((t : ℕ) → t < length active → slice_index active t ≡ j → t < n) → IsSome (new_at xs c shares j)
fits_before xs shares active c w end n cw le a narrow shared done j l below = pick (listed_or_not active j)
  where
    pick : ((s : ℕ) × (s < length active) × (slice_index active s ≡ j)) ⊎ ((s : ℕ) → s < length active → slice_index active s ≢ j) → IsSome (new_at xs c shares j)
    pick (inl (s, m, e)) = subst (λ j. IsSome (new_at xs c shares j)) e (done s (below s m e) m)
    pick (inr none) = let p = a.passed j l none in some_of (new_at xs c shares j) (number xs j) (zero_share xs shares c j w cw (omega (arith, l, le)) narrow (shared j l) p.0 p.1)

pub first_in_row : (xs shares : List Fraction) (active : List ℕ) (c w end s : ℕ) → c < w → end ≤ w → s < length active → AreActive active c end shares → ((j : ℕ) → j < w → IsNarrow (number xs j)) → ((j : ℕ) → j < end → IsNarrow (number shares j)) → ((t : ℕ) → t < s → IsSome (new_at xs c shares (slice_index active t))) → (k : ℕ) → k < slice_index active s → IsSome (new_at xs c shares k)
first_in_row xs shares active c w end s cw le m a narrow shared done k l =
    let within = a.within s m in
    fits_before xs shares active c w end s cw le a narrow shared (λ t lt below. done t lt) k (omega (arith, l, within)) (λ t below e. earlier t below e (cases_lt t s))
  where
    earlier : (t : ℕ) → t < length active → slice_index active t ≡ k → (t < s) ⊎ (s ≤ t) → t < s
    earlier t below e (inl lt) = lt
    earlier t below e (inr ge) = absurd (other t below e (same_or_not s t) ge)
      where
        other : (t : ℕ) → t < length active → slice_index active t ≡ k → (s ≡ t) ⊎ (s ≢ t) → s ≤ t → ⊥
        other t below e (inl same) ge = let f : slice_index active s ≡ k = ap (slice_index active) same ∙ e in absurd (omega (arith, f, l))
        other t below e (inr ne) ge = let up = a.rising s t (omega arith) below in absurd (omega (arith, up, e, l))

-- ---- a row is written
-- before the first active column is written, the others are done
pub written_first : (xs shares : List Fraction) (active : List ℕ) (c w : ℕ) → c < w → AreActive active c w shares → ((j : ℕ) → j < w → IsNarrow (number xs j)) → ((j : ℕ) → j < w → IsNarrow (number shares j)) → (k : ℕ) → k < w → ((t : ℕ) → 0 ≤ t → t < length active → slice_index active t ≢ k) → new_at xs c shares k ≡ Some (number xs k)
written_first xs shares active c w cw a narrow shared k l none =
    let p = a.passed k l (λ s m. none s (omega arith) m) in
    zero_share xs shares c k w cw l narrow (shared k l) p.0 p.1

pub written_more : (old row new shares : List Fraction) (active : List ℕ) (c s j w : ℕ) (r : Fraction) → j < length row → new ≡ set row j r → j ≡ slice_index active s → new_at old c shares j ≡ Some r → ((k : ℕ) → k < w → ((t : ℕ) → s ≤ t → t < length active → slice_index active t ≢ k) → new_at old c shares k ≡ Some (number row k)) → (k : ℕ) → k < w → ((t : ℕ) → s + 1 ≤ t → t < length active → slice_index active t ≢ k) → new_at old c shares k ≡ Some (number new k)
written_more old row new shares active c s j w r l e at is done k below none = pick (same_or_not k j)
  where
    pick : (k ≡ j) ⊎ (k ≢ j) → new_at old c shares k ≡ Some (number new k)
    pick (inl same) = subst (λ k. new_at old c shares k ≡ Some (number new k)) (sym same) (is ∙ ap Some (sym (ap (λ xs. number xs j) e ∙ get_or-set_same row j r (whole_fraction (pos 0)) l)))
    pick (inr ne) = done k below (λ t ge m. other t ge m (same_or_not s t)) ∙ ap Some (sym (ap (λ xs. number xs k) e ∙ get_or-set_other row j k r (whole_fraction (pos 0)) ne))
      where
        other : (t : ℕ) → s ≤ t → t < length active → (s ≡ t) ⊎ (s ≢ t) → slice_index active t ≢ k
        other t ge m (inl same) f = ne (sym f ∙ sym (ap (slice_index active) same) ∙ sym at)
        other t ge m (inr d) f = none t (omega (arith, ge, d)) m f

pub left_more : (old row new shares : List Fraction) (active : List ℕ) (c s j w : ℕ) (r : Fraction) → new ≡ set row j r → j ≡ slice_index active s → AreActive active c w shares → ((t : ℕ) → s ≤ t → t < length active → number row (slice_index active t) ≡ number old (slice_index active t)) → (t : ℕ) → s + 1 ≤ t → t < length active → number new (slice_index active t) ≡ number old (slice_index active t)
left_more old row new shares active c s j w r e at a left t le m =
    let up = a.rising s t (omega (arith, le)) m in
    ap (λ xs. number xs (slice_index active t)) e ∙ get_or-set_other row j (slice_index active t) r (whole_fraction (pos 0)) (λ f. absurd (omega (arith, f, at, up))) ∙ left t (omega (arith, le)) m
