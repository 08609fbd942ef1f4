-- What the operations give are fractions of 127 bits; 0 leaves a number as it is, and 1 over a number never passes.
use Rattle.std.proofs.Common.{◌≡◌, ◌≢◌, ℕ, zero, suc, ◌+◌, ◌-◌, ◌*◌, ◌/◌, ◌^◌, ◌<◌, Bool, true, false, cond, ◌&&◌, nat_lt, Option, Some, None, [], ◌∷◌, ℤ, pos, negsuc, ◌+ℤ◌, ◌*ℤ◌, neg_ℤ, unsigned_abs, int_div, refl, sym, ◌∙◌, ap, ap₂, subst, arith, lt-ltb, mul-one, mul-pos, zero-lt-suc}
use Rattle.std.proofs.lemmas.Bool.{cond-true, cond-false, ne_eqb, ltb-true}
use Rattle.std.proofs.Math.Dec.{eqb}
use Rattle.std.proofs.lemmas.Int.{ints}
use Rattle.std.proofs.lemmas.Option.{none-some}
use Rattle.rat128.specs.Fractions.{Fraction, den, Same, plus, times, minus, inverse, whole_fraction}
use Rattle.rat128.specs.Divisors.{gcd, lowest}
use Rattle.rat128.specs.Rationals.{value, ◌+ℚ◌, ◌*ℚ◌}
use Rattle.rat128.specs.Operations.{IsRat, IsNarrow, if_fit, reduced, sum_parts, add_of, mul_of, div_of, fits}
use Rattle.rat128.specs.Steps.{◌>>=◌, small, small_den, seen, sum_in_steps}
use Rattle.rat128.proofs.Divisors.{gcd_one_right, gcd_right, part_positive, coprime_comm}
use Rattle.rat128.proofs.Lowest.{coprime-lowest, lowest_same, lowest_unique, lowest-whole, seen-lowest, seen-lowest_one, IsRat-lowest, value_injective}
use Rattle.rat128.proofs.Rationals.{value_zero}
use Rattle.rat128.proofs.Operations.{if_fit_is, suc-less, lowest-plus, value-add_of, value-mul_of, mul_of-reduced, add_of_seen}
use Rattle.dict_pivot.specs.Dictionaries.{and_then, inverse_of, new_number}

-- ---- fractions of 127 bits
pub narrow-whole : (z : ℤ) → unsigned_abs z < 2 ^ 127 → IsNarrow (whole_fraction z)
narrow-whole z small = record {
  positive = omega arith;
  num_small = small;
  den_small = omega arith;
  coprime = gcd_one_right (unsigned_abs z);
}

pub narrow-zero : IsNarrow (whole_fraction (pos 0))
narrow-zero = narrow-whole (pos 0) (omega arith)

pub narrow-one : IsNarrow (whole_fraction (pos 1))
narrow-one = narrow-whole (pos 1) (omega arith)

pub narrow-minus : (p : Fraction) → IsNarrow p → IsNarrow (minus p)
narrow-minus p n = record {
  positive = n.positive;
  num_small = subst (λ m. m < 2 ^ 127) (sym (size p.num)) n.num_small;
  den_small = n.den_small;
  coprime = ap (λ m. gcd m (den p)) (size p.num) ∙ n.coprime;
}
  where
    size : (z : ℤ) → unsigned_abs (neg_ℤ z) ≡ unsigned_abs z
    size z = omega (arith, ints)

narrow-seen : (n : ℤ) (d : ℕ) → IsRat n d → IsNarrow (seen n d)
narrow-seen n d i = subst (IsRat n) (sym (suc-less d i.positive)) i

-- the numbers on which a fraction is judged fit where it is given
two_fit : (x y : Bool) (p r : Fraction) → cond (x && (y && true)) (Some p) None ≡ Some r → (x ≡ true) × (y ≡ true)
two_fit true true p r e = (refl, refl)
two_fit true false p r e = cc
two_fit false y p r e = cc

four_fit : (x y z w : Bool) (p r : Fraction) → cond (x && (y && (z && (w && true)))) (Some p) None ≡ Some r → (z ≡ true) × (w ≡ true)
four_fit true true true true p r e = (refl, refl)
four_fit true true true false p r e = cc
four_fit true true false w p r e = cc
four_fit true false z w p r e = cc
four_fit false y z w p r e = cc

narrow-reduced : (t r : Fraction) → reduced t ≡ Some r → IsNarrow r
narrow-reduced t r e =
    let fit = two_fit (fits (lowest t).num) (nat_lt (den (lowest t)) (2 ^ 127)) (lowest t) r e in
    subst IsNarrow (sym (if_fit_is ((lowest t).num ∷ pos (den (lowest t)) ∷ []) (lowest t) r e)) (record {
      positive = zero-lt-suc (lowest t).less_one;
      num_small = ltb-true (unsigned_abs (lowest t).num) (2 ^ 127) fit.0;
      den_small = ltb-true (den (lowest t)) (2 ^ 127) fit.1;
      coprime = coprime-lowest t;
    })

pub narrow-mul_of : (p q r : Fraction) → IsNarrow p → IsNarrow q → mul_of p q ≡ Some r → IsNarrow r
narrow-mul_of p q r n m e = narrow-reduced (times p q) r (sym (mul_of-reduced p q n m) ∙ e)

pub narrow-add_of : (p q r : Fraction) → add_of p q ≡ Some r → IsNarrow r
unfolding add_of
narrow-add_of p q r e =
    let g = gcd (den p) (den q) in
    let x = p.num *ℤ pos (den q / g) in
    let y = q.num *ℤ pos (den p / g) in
    let m = den p * (den q / g) in
    let fit = four_fit (fits x) (fits y) (fits (x +ℤ y)) (nat_lt m (2 ^ 127)) (lowest (plus p q)) r e in
    let some : 0 < m = mul-pos (zero-lt-suc p.less_one) (part_positive g (den q / g) (den q) (zero-lt-suc q.less_one) (gcd_right (den p) (den q))) in
    let whole : IsNarrow (seen (int_div (x +ℤ y) (pos (gcd (unsigned_abs (x +ℤ y)) m))) (m / gcd (unsigned_abs (x +ℤ y)) m)) = narrow-seen _ _ (IsRat-lowest (x +ℤ y) m m (gcd (unsigned_abs (x +ℤ y)) m) some (ltb-true (unsigned_abs (x +ℤ y)) (2 ^ 127) fit.0) (ltb-true m (2 ^ 127) fit.1) refl refl) in
    subst IsNarrow (seen-lowest (x +ℤ y) m m (gcd (unsigned_abs (x +ℤ y)) m) some refl refl ∙ lowest-plus p q ∙ sym (if_fit_is (sum_parts p q) (lowest (plus p q)) r e)) whole

-- a fraction of 127 bits whose numerator is 0 is 0 over 1
pub zero_is : (p : Fraction) → IsNarrow p → p.num ≡ pos 0 → p ≡ whole_fraction (pos 0)
zero_is p n e = value_injective p (whole_fraction (pos 0)) n.coprime (gcd_one_right 0) (value_zero p e)

-- ---- 1 over a fraction
seen_back : (p : Fraction) → seen p.num (den p) ≡ p
seen_back p = (λ i. record { num = p.num; less_one = less p.less_one i })
  where
    less : (k : ℕ) → suc k - 1 ≡ k
    less k = omega arith

turned : (a b m : ℕ) → m ≡ a → 0 < b → a < 2 ^ 127 → b < 2 ^ 127 → gcd b a ≡ 1 → (z : ℤ) → unsigned_abs z ≡ m → IsRat z b
turned a b m e some small fits apart z is = record {
  positive = some;
  num_small = subst (λ n. n < 2 ^ 127) (sym (is ∙ e)) small;
  den_small = fits;
  coprime = ap (λ n. gcd n b) (is ∙ e) ∙ coprime_comm b a apart;
}

pub narrow-inverse : (p : Fraction) → IsNarrow p → p.num ≢ pos 0 → IsNarrow (inverse p)
narrow-inverse p n ne = by_sign p.num p.less_one n ne
  where
    by_sign : (z : ℤ) (l : ℕ) → IsRat z (suc l) → z ≢ pos 0 → IsNarrow (inverse (record { num = z; less_one = l }))
    by_sign (pos zero) l n ne = absurd (ne refl)
    by_sign (pos (suc k)) l n ne = turned (suc l) (suc k) (suc l) refl (omega arith) n.den_small n.num_small n.coprime (pos (suc l)) refl
    by_sign (negsuc k) l n ne = turned (suc l) (suc k) (suc l) refl (omega arith) n.den_small n.num_small n.coprime (neg_ℤ (pos (suc l))) refl

div_by_inverse : (p q : Fraction) → q.num ≢ pos 0 → div_of p q ≡ mul_of p (inverse q)
unfolding div_of
div_by_inverse p q ne =
    cond-false (eqb (unsigned_abs q.num) 0) None (mul_of p (inverse q)) (ne_eqb (unsigned_abs q.num) 0 (λ e. ne (from_size q.num e)))
  where
    from_size : (z : ℤ) → unsigned_abs z ≡ 0 → z ≡ pos 0
    from_size z e = omega (arith, ints, e)

pub fit_both : (q : Fraction) → IsNarrow q → if_fit (q.num ∷ pos (den q) ∷ []) q ≡ Some q
fit_both q n =
    ap₂ (λ x y. cond (x && (y && true)) (Some q) None) (lt-ltb (unsigned_abs q.num) (2 ^ 127) n.num_small) (lt-ltb (den q) (2 ^ 127) n.den_small)

one_times : (q : Fraction) → IsNarrow q → lowest (times (whole_fraction (pos 1)) q) ≡ q
one_times q n =
    let top : pos 1 *ℤ q.num ≡ q.num = omega (arith, ints) in
    let under : 0 * q.less_one + 0 + q.less_one ≡ q.less_one = omega arith in
    sym (lowest_unique q (times (whole_fraction (pos 1)) q) n.coprime (ap₂ (λ z k. z *ℤ pos (suc k)) (sym top) under))

pub inverse_some : (p : Fraction) → IsNarrow p → p.num ≢ pos 0 → inverse_of p ≡ Some (inverse p)
unfolding inverse_of
inverse_some p n ne =
    let m = narrow-inverse p n ne in
    div_by_inverse (whole_fraction (pos 1)) p ne ∙ mul_of-reduced (whole_fraction (pos 1)) (inverse p) narrow-one m ∙ ap (λ r. if_fit (r.num ∷ pos (den r) ∷ []) r) (one_times (inverse p) m) ∙ fit_both (inverse p) m

-- ---- a factor 0 makes the product 0, with no number beyond 127 bits
pub zero_product : (p q : Fraction) → IsNarrow p → IsNarrow q → (times p q).num ≡ pos 0 → mul_of p q ≡ Some (whole_fraction (pos 0))
zero_product p q n m e =
    let same : Same (times p q) (whole_fraction (pos 0)) = ap (λ z. z *ℤ pos 1) e ∙ zero-left (pos (den (times p q))) in
    mul_of-reduced p q n m ∙ ap (λ r. if_fit (r.num ∷ pos (den r) ∷ []) r) (lowest_same (times p q) (whole_fraction (pos 0)) same ∙ lowest-whole (pos 0))
  where
    *ℤ-zero_left : (z : ℤ) → pos 0 *ℤ z ≡ pos 0
    *ℤ-zero_left z = omega (arith, ints)

    zero-left : (z : ℤ) → pos 0 *ℤ pos 1 ≡ pos 0 *ℤ z
    zero-left z = sym (*ℤ-zero_left z)

small_fits : (z : ℤ) → unsigned_abs z < 2 ^ 127 → small z ≡ Some z
small_fits z h = cond-true (fits z) (Some z) None (lt-ltb (unsigned_abs z) (2 ^ 127) h)

small_den_fits : (n : ℕ) → n < 2 ^ 127 → small_den n ≡ Some n
small_den_fits n h = cond-true (nat_lt n (2 ^ 127)) (Some n) None (lt-ltb n (2 ^ 127) h)

-- ---- a sum with 0
steps_of_zero : (a : ℤ) (b : ℕ) → IsRat a b → sum_in_steps a b (pos 0) 1 1 ≡ Some (seen a b)
steps_of_zero a b r =
    ap₂ (λ x y. x >>= λ x. y >>= λ y. small (x +ℤ y) >>= λ s. small_den (b * (1 / 1)) >>= λ m. Some (lowest (seen s m))) (ap small (times_one a) ∙ small_fits a r.num_small) (ap small (zero_times (pos (b / 1))) ∙ small_fits (pos 0) (omega arith)) ∙ ap₂ (λ s m. s >>= λ s. m >>= λ m. Some (lowest (seen s m))) (ap small (plus_zero a) ∙ small_fits a r.num_small) (ap small_den (mul-one b) ∙ small_den_fits b r.den_small) ∙ ap Some (sym (seen-lowest_one a b r))
  where
    times_one : (z : ℤ) → z *ℤ pos (1 / 1) ≡ z
    times_one z = omega (arith, ints)

    zero_times : (z : ℤ) → pos 0 *ℤ z ≡ pos 0
    zero_times z = omega (arith, ints)

    plus_zero : (z : ℤ) → z +ℤ pos 0 ≡ z
    plus_zero z = omega (arith, ints)

pub sum_with_zero : (p : Fraction) → IsNarrow p → add_of p (whole_fraction (pos 0)) ≡ Some p
sum_with_zero p n =
    subst (λ q. add_of q (whole_fraction (pos 0)) ≡ Some q) (seen_back p) (sym (add_of_seen p.num (pos 0) (den p) 1 1 n narrow-zero (sym (gcd_one_right (den p)))) ∙ steps_of_zero p.num (den p) n)

-- a cell whose row has 0 in the pivot's column, or whose column has the share 0, stays, and no number passes
pub skipped : (own across share : Fraction) → IsNarrow own → IsNarrow across → IsNarrow share → (times across share).num ≡ pos 0 → new_number own across share ≡ Some own
unfolding new_number
skipped own across share n m k e =
    ap (λ o. and_then o (λ p. add_of own p)) (zero_product across share m k e) ∙ sum_with_zero own n

pub zero_left : (z : ℤ) → pos 0 *ℤ z ≡ pos 0
zero_left z = omega (arith, ints)

pub skipped_row : (own across share : Fraction) → IsNarrow own → IsNarrow across → IsNarrow share → across.num ≡ pos 0 → Some own ≡ new_number own across share
skipped_row own across share n m k e =
    sym (skipped own across share n m k (ap (λ z. z *ℤ share.num) e ∙ zero_left share.num))

pub skipped_column : (own across share : Fraction) → IsNarrow own → IsNarrow across → IsNarrow share → share.num ≡ pos 0 → Some own ≡ new_number own across share
skipped_column own across share n m k e =
    sym (skipped own across share n m k (ap (λ z. across.num *ℤ z) e ∙ zero_right across.num))
  where
    zero_right : (z : ℤ) → z *ℤ pos 0 ≡ pos 0
    zero_right z = omega (arith, ints)

-- ---- what a cell of fractions says of the numbers
pub value-new_number : (own across share r : Fraction) → new_number own across share ≡ Some r → value r ≡ value own +ℚ value across *ℚ value share
unfolding new_number
value-new_number own across share r e = cases (mul_of across share) refl e
  where
    cases : (o : Option Fraction) → mul_of across share ≡ o → and_then o (λ p. add_of own p) ≡ Some r → value r ≡ value own +ℚ value across *ℚ value share
    cases (Some p) is e = value-add_of own p r e ∙ ap (λ z. value own +ℚ z) (value-mul_of across share p is)
    cases None is e = absurd (none-some r e)

pub narrow-new_number : (own across share r : Fraction) → new_number own across share ≡ Some r → IsNarrow r
unfolding new_number
narrow-new_number own across share r e = cases (mul_of across share) e
  where
    cases : (o : Option Fraction) → and_then o (λ p. add_of own p) ≡ Some r → IsNarrow r
    cases (Some p) e = narrow-add_of own p r e
    cases None e = absurd (none-some r e)
