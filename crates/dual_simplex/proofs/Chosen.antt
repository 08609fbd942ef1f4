-- The least column so far, with one more column looked at.
use Rattle.std.proofs.Common.{◌≡◌, ◌≢◌, ℕ, ◌+◌, ◌<◌, ◌≤◌, ◌⊎◌, inl, inr, Option, Some, None, Bool, true, false, int_lt, ◌<ℤ◌, ◌-ℤ◌, ◌^◌, unsigned_abs, FitsSigned, refl, sym, ◌∙◌, ap, ap₂, subst, arith, pos, ℤ}
use Rattle.std.specs.Prelude.{MatchBool, MatchOption, IfSome}
use Rattle.std.specs.Int.{w128}
use Rattle.std.proofs.lemmas.Bool.{false≢true}
use Rattle.std.proofs.lemmas.Int.{ints, fits_signed_from_abs}
use Rattle.std.specs.Ordering.{ordering_reverse}
use Rattle.std.specs.declared.cmp.Ordering.{Ordering}
use Rattle.std.specs.declared.cmp.Ordering.TheVariants.{Less, Equal, Greater}
use Rattle.rat128.specs.Fractions.{Fraction}
use Rattle.rat128.specs.Rationals.{ℚ, value, whole, zero_ℚ, order_ℚ, ◌<ℚ◌, ◌≤ℚ◌, ◌/ℚ◌}
use Rattle.rat128.proofs.Rationals.{clash_ℚ, is_<ℚ, same_of_order, order_ℚ_reverse, order_ℚ_same, zero-*ℚ, ≤ℚ_from_≡, ≤ℚ_from_<ℚ, ≤ℚ_total, num_positive, value_positive}
use Rattle.dict_pivot.specs.Tables.{Table}
use Rattle.dict_pivot.proofs.PivotLaws.{same_or_not}
use Rattle.dual_simplex.specs.Path.{LexLess, divided, Enters, NoneEnters, IsPast}
use Rattle.dual_simplex.specs.Choice.{IsAbove}
use Rattle.dual_simplex.specs.Compared.{IsLeastBelow, IsLeastSoFar}
use Rattle.dual_simplex.proofs.Points.{lex_trans}
use Rattle.dual_simplex.proofs.Orders.{lex_less_same}

less_of_more : (j k : ℕ) → j < k + 1 → j ≢ k → j < k
less_of_more j k l ne = omega (arith, l, ne)

-- a column without a positive factor changes nothing
pub kept_below : (t : Table) (r k : ℕ) (o : Option ℕ) → t.cell r k ≤ℚ zero_ℚ → IsLeastSoFar t r k o → IsLeastSoFar t r (k + 1) o
kept_below t r k None le h = λ j s l. pick j s l (same_or_not j k)
  where
    pick : (j : ℕ) → 0 < j → j < k + 1 → (j ≡ k) ⊎ (j ≢ k) → t.cell r j ≤ℚ zero_ℚ
    pick j s l (inl e) = subst (λ j. t.cell r j ≤ℚ zero_ℚ) (sym e) le
    pick j s l (inr ne) = h j s (less_of_more j k l ne)
kept_below t r k (Some c) le h = record {
  some = h.some;
  below = omega (arith, h.below);
  positive = h.positive;
  least = λ j s l ne up. pick j s l ne up (same_or_not j k);
}
  where
    pick : (j : ℕ) → 0 < j → j < k + 1 → j ≢ c → zero_ℚ <ℚ t.cell r j → (j ≡ k) ⊎ (j ≢ k) → LexLess t.height (divided t r c) (divided t r j) ⊎ (((i : ℕ) → i < t.height → divided t r c i ≡ divided t r j i) × (c < j))
    pick j s l ne up (inl e) = absurd (clash_ℚ zero_ℚ (t.cell r j) up (subst (λ j. t.cell r j ≤ℚ zero_ℚ) (sym e) le))
    pick j s l ne up (inr d) = h.least j s (less_of_more j k l d) ne up

-- the first column with a positive factor
pub first_positive : (t : Table) (r k : ℕ) → 0 < k → zero_ℚ <ℚ t.cell r k → IsLeastSoFar t r k None → IsLeastBelow t r (k + 1) k
first_positive t r k some up h = record {
  some = some;
  below = omega arith;
  positive = up;
  least = λ j s l ne p. absurd (clash_ℚ zero_ℚ (t.cell r j) p (h j s (less_of_more j k l ne)));
}

-- a lesser column takes the place
pub lesser_takes : (t : Table) (r k c : ℕ) → 0 < k → zero_ℚ <ℚ t.cell r k → LexLess t.height (divided t r k) (divided t r c) → IsLeastBelow t r k c → IsLeastBelow t r (k + 1) k
lesser_takes t r k c some up less h = record {
  some = some;
  below = omega arith;
  positive = up;
  least = λ j s l ne p. inl (pick j s (less_of_more j k l ne) p (same_or_not j c));
}
  where
    pick : (j : ℕ) → 0 < j → j < k → zero_ℚ <ℚ t.cell r j → (j ≡ c) ⊎ (j ≢ c) → LexLess t.height (divided t r k) (divided t r j)
    pick j s l p (inl e) = subst (λ j. LexLess t.height (divided t r k) (divided t r j)) (sym e) less
    pick j s l p (inr ne) = past j (h.least j s l ne p)
      where
        past : (j : ℕ) → LexLess t.height (divided t r c) (divided t r j) ⊎ (((i : ℕ) → i < t.height → divided t r c i ≡ divided t r j i) × (c < j)) → LexLess t.height (divided t r k) (divided t r j)
        past j (inl m) = lex_trans t.height (divided t r k) (divided t r c) (divided t r j) less m
        past j (inr same) = lex_less_same t.height (divided t r k) (divided t r c) (divided t r j) (λ i l. sym (same.0 i l)) less

-- a column that is not less leaves it
pub greater_stays : (t : Table) (r k c : ℕ) → LexLess t.height (divided t r c) (divided t r k) → IsLeastBelow t r k c → IsLeastBelow t r (k + 1) c
greater_stays t r k c less h = record {
  some = h.some;
  below = omega (arith, h.below);
  positive = h.positive;
  least = λ j s l ne p. pick j s l ne p (same_or_not j k);
}
  where
    pick : (j : ℕ) → 0 < j → j < k + 1 → j ≢ c → zero_ℚ <ℚ t.cell r j → (j ≡ k) ⊎ (j ≢ k) → LexLess t.height (divided t r c) (divided t r j) ⊎ (((i : ℕ) → i < t.height → divided t r c i ≡ divided t r j i) × (c < j))
    pick j s l ne p (inl e) = inl (subst (λ j. LexLess t.height (divided t r c) (divided t r j)) (sym e) less)
    pick j s l ne p (inr d) = h.least j s (less_of_more j k l d) ne p

pub equal_stays : (t : Table) (r k c : ℕ) → ((i : ℕ) → i < t.height → divided t r k i ≡ divided t r c i) → IsLeastBelow t r k c → IsLeastBelow t r (k + 1) c
equal_stays t r k c same h = record {
  some = h.some;
  below = omega (arith, h.below);
  positive = h.positive;
  least = λ j s l ne p. pick j s l ne p (same_or_not j k);
}
  where
    pick : (j : ℕ) → 0 < j → j < k + 1 → j ≢ c → zero_ℚ <ℚ t.cell r j → (j ≡ k) ⊎ (j ≢ k) → LexLess t.height (divided t r c) (divided t r j) ⊎ (((i : ℕ) → i < t.height → divided t r c i ≡ divided t r j i) × (c < j))
    pick j s l ne p (inl e) = inr (λ i m. sym (same i m) ∙ ap (λ j. divided t r j i) (sym e), subst (λ j. c < j) (sym e) h.below)
    pick j s l ne p (inr d) = h.least j s (less_of_more j k l d) ne p

-- all columns were looked at
pub least_enters : (t : Table) (r c : ℕ) → IsLeastBelow t r (t.width + 1) c → Enters t r c
least_enters t r c h = record {
  column = record { some = h.some; within = omega (arith, h.below) };
  positive = h.positive;
  least = λ j k ne p. h.least j k.some (omega (arith, k.within)) ne p;
}

pub none_enters : (t : Table) (r : ℕ) → IsLeastSoFar t r (t.width + 1) None → NoneEnters t r
none_enters t r h = λ j k. h j k.some (omega (arith, k.within))

-- ---- two columns compared
pub columns_less : (h i : ℕ) (f g : ℕ → ℚ) (a b : ℚ) → i < h → ((k : ℕ) → k < i → f k ≡ g k) → a ≡ f i → b ≡ g i → order_ℚ a b ≡ Less → LexLess h f g
columns_less h i f g a b l same e k o = record {
  at = i;
  within = l;
  less = is_<ℚ (sym (ap₂ order_ℚ e k) ∙ o);
  before = same;
}

pub columns_greater : (h i : ℕ) (f g : ℕ → ℚ) (a b : ℚ) → i < h → ((k : ℕ) → k < i → f k ≡ g k) → a ≡ f i → b ≡ g i → order_ℚ a b ≡ Greater → LexLess h g f
columns_greater h i f g a b l same e k o = record {
  at = i;
  within = l;
  less = is_<ℚ (order_ℚ_reverse (g i) (f i) ∙ ap ordering_reverse (sym (ap₂ order_ℚ e k) ∙ o));
  before = λ k m. sym (same k m);
}

-- two zeros, whatever divides them
pub zeros_equal : (x y z w : ℚ) → x ≡ zero_ℚ → z ≡ zero_ℚ → Equal ≡ order_ℚ (x /ℚ y) (z /ℚ w)
zeros_equal x y z w e f =
    sym (order_ℚ_same (x /ℚ y) (z /ℚ w) (ap (λ s. s /ℚ y) e ∙ zero_over y ∙ sym (ap (λ s. s /ℚ w) f ∙ zero_over w)))
  where
    zero_over : (y : ℚ) → zero_ℚ /ℚ y ≡ zero_ℚ
    zero_over y = zero-*ℚ _

-- every column was looked at
pub chosen_last : (t : Table) (r end : ℕ) (o : Option ℕ) → end ≡ t.width + 1 → IsLeastSoFar t r end o → MatchOption o (NoneEnters t r) (λ c. Enters t r c)
chosen_last t r end None e h = none_enters t r (subst (λ n. IsLeastSoFar t r n None) e h)
chosen_last t r end (Some c) e h = least_enters t r c (subst (λ n. IsLeastBelow t r n c) e h)

-- ---- one comparison
pub below_by_order : (a b : Fraction) (x y : ℚ) (o : Ordering) → value a ≡ x → value b ≡ y → o ≡ order_ℚ (value a) (value b) → o ≡ Less → x <ℚ y
below_by_order a b x y o e f is l = is_<ℚ (sym (ap₂ order_ℚ e f) ∙ sym is ∙ l)

pub same_by_order : (a b : Fraction) (x y : ℚ) (o : Ordering) → value a ≡ x → value b ≡ y → o ≡ order_ℚ (value a) (value b) → o ≡ Equal → y ≤ℚ x
same_by_order a b x y o e f is l =
    ≤ℚ_from_≡ y x (sym (same_of_order x y (sym (ap₂ order_ℚ e f) ∙ sym is ∙ l)))

pub above_by_order : (a b : Fraction) (x y : ℚ) (o : Ordering) → value a ≡ x → value b ≡ y → o ≡ order_ℚ (value a) (value b) → o ≡ Greater → y ≤ℚ x
above_by_order a b x y o e f is l =
    ≤ℚ_from_<ℚ y x (is_<ℚ (order_ℚ_reverse y x ∙ ap ordering_reverse (sym (ap₂ order_ℚ e f) ∙ sym is ∙ l)))

pub true_part : (P Q : Type 0) (b : Bool) → b ≡ true → MatchBool b P Q → P
true_part P Q true e m = m
true_part P Q false e m = absurd (false≢true e)

pub false_part : (P Q : Type 0) (b : Bool) → b ≡ false → MatchBool b P Q → Q
false_part P Q true e m = absurd (false≢true (sym e))
false_part P Q false e m = m

-- a numerator above 0
pub positive_or_not : (p : Fraction) → MatchBool (int_lt (pos 0) p.num) (zero_ℚ <ℚ value p) (value p ≤ℚ zero_ℚ)
positive_or_not p = by_test (int_lt (pos 0) p.num) refl
  where
    above : int_lt (pos 0) p.num ≡ true → pos 0 <ℤ p.num
    above e = grind (arith, ints, e)

    by_sign : (value p ≤ℚ zero_ℚ) ⊎ (zero_ℚ <ℚ value p) → int_lt (pos 0) p.num ≡ false → value p ≤ℚ zero_ℚ
    by_sign (inl le) e = le
    by_sign (inr lt) e = let up = num_positive p lt in absurd (grind (arith, ints, up, e))

    by_test : (b : Bool) → int_lt (pos 0) p.num ≡ b → MatchBool b (zero_ℚ <ℚ value p) (value p ≤ℚ zero_ℚ)
    by_test true e = value_positive p (above e)
    by_test false e = by_sign (≤ℚ_total (value p) zero_ℚ) e

-- ---- the rows looked at
pub rows_more : (least : ℕ → ℚ) (t : Table) (row : ℕ) → ((i : ℕ) → 0 < i → i < row → least i ≤ℚ t.cell i 0) → least row ≤ℚ t.cell row 0 → (i : ℕ) → 0 < i → i < row + 1 → least i ≤ℚ t.cell i 0
rows_more least t row h here i s l = pick (same_or_not i row)
  where
    pick : (i ≡ row) ⊎ (i ≢ row) → least i ≤ℚ t.cell i 0
    pick (inl e) = subst (λ i. least i ≤ℚ t.cell i 0) (sym e) here
    pick (inr ne) = h i s (less_of_more i row l ne)

-- two columns that are the same in one more row
pub same_more : (f g : ℕ → ℚ) (i : ℕ) → ((k : ℕ) → k < i → f k ≡ g k) → order_ℚ (f i) (g i) ≡ Equal → (k : ℕ) → k < i + 1 → f k ≡ g k
same_more f g i h e k l = pick (same_or_not k i)
  where
    pick : (k ≡ i) ⊎ (k ≢ i) → f k ≡ g k
    pick (inl same) = subst (λ k. f k ≡ g k) (sym same) (same_of_order (f i) (g i) e)
    pick (inr ne) = h k (less_of_more k i l ne)

pub some_before : (k c : ℕ) → c < k → 0 < k
some_before k c l = omega (arith, l)

pub positive_by : (n : ℤ) (p : Fraction) (x : ℚ) → n ≡ p.num → value p ≡ x → MatchBool (int_lt (pos 0) n) (zero_ℚ <ℚ x) (x ≤ℚ zero_ℚ)
positive_by n p x e f =
    subst (λ x. MatchBool (int_lt (pos 0) n) (zero_ℚ <ℚ x) (x ≤ℚ zero_ℚ)) f (subst (λ n. MatchBool (int_lt (pos 0) n) (zero_ℚ <ℚ value p) (value p ≤ℚ zero_ℚ)) (sym e) (positive_or_not p))

pub quotients_by : (o : Ordering) (a b x y : Fraction) (p q r s : ℚ) → value a ≡ p → value b ≡ q → value x ≡ r → value y ≡ s → o ≡ order_ℚ (value a /ℚ value b) (value x /ℚ value y) → o ≡ order_ℚ (p /ℚ q) (r /ℚ s)
quotients_by o a b x y p q r s e f g h is = is ∙ (λ i. order_ℚ (e i /ℚ f i) (g i /ℚ h i))

-- ---- the best value
pub past_by : (o : Option ℤ) (b n : ℤ) (p : Fraction) (t : Table) (r : Bool) → o ≡ Some b → n ≡ b → value p ≡ t.cell 0 0 → IsAbove p n r → MatchBool r (IsPast o t) (IsPast o t → ⊥)
past_by o b n p t r e g f h =
    subst (λ o. MatchBool r (IsPast o t) (IsPast o t → ⊥)) (sym e) (subst (λ z. MatchBool r (whole (b -ℤ pos 1) <ℚ z) ((whole (b -ℤ pos 1) <ℚ z) → ⊥)) f (subst (λ n. IsAbove p n r) g h))

pub small_best : (o : Option ℤ) (b : ℤ) → o ≡ Some b → IfSome o (λ (b : ℤ). unsigned_abs b ≤ 2 ^ 126) → FitsSigned w128 b
small_best o b e h =
    let k : unsigned_abs b ≤ 2 ^ 126 = subst (λ o. IfSome o (λ (b : ℤ). unsigned_abs b ≤ 2 ^ 126)) e h in
    fits_signed_from_abs w128 b (omega (arith, k))

pub one_less_small : (n : ℤ) → unsigned_abs n ≤ 2 ^ 126 → unsigned_abs (n -ℤ pos 1) < 2 ^ 127
one_less_small n h = omega (arith, ints, h)
