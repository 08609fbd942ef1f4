-- Comparisons of products: by halves of wide numbers, and by signs and sizes.
use Rattle.std.proofs.Common.{◌≡◌, ◌⊎◌, inl, inr, ℕ, suc, ◌+◌, ◌*◌, ◌<◌, ◌≤◌, Bool, true, false, ℤ, pos, negsuc, ◌*ℤ◌, neg_ℤ, ◌<ℤ◌, int_lt, unsigned_abs, refl, sym, ap, ap₂, ◌∙◌, subst, arith, Less, Equal, Greater, nat_cmp, int_cmp, mul-le-mul_right}
use Rattle.std.specs.Int.{int_div_euclid}
use Rattle.std.specs.Ordering.{MatchOrdering, ordering_then}
use Rattle.std.specs.Cmp.{nat_cmp_is, nat_cmp_total, int_cmp_is}
use Rattle.std.proofs.lemmas.Bool.{cases_order}
use Rattle.std.proofs.lemmas.Int.{ints, unsigned_abs-mul}
use borrow.Author.Differences.{up, down, product_is, true_is_lt, false_is_lt}
use Rattle.rat128.specs.Fractions.{Fraction, den, times, order_of, floor_of, ceil_of}
use Rattle.rat128.specs.Rationals.{value, den_is, ◌/ℚ◌, order_ℚ, value-times, MatchOrdering_weaker, int_cmp-scaled}
use Rattle.rat128.specs.Steps.{order_by_signs, seen}
use Rattle.rat128.proofs.Operations.{suc-less}
use Rattle.rat128.proofs.Rationals.{order_crossed, order_ℚ-/ℚ, value_positive}

nat_less : (x y : ℕ) → x < y → nat_cmp x y ≡ Less
nat_less x y h = sym (nat_cmp_is x y Less h)

nat_equal : (x y : ℕ) → x ≡ y → nat_cmp x y ≡ Equal
nat_equal x y h = sym (nat_cmp_is x y Equal h)

nat_ranks : (x y : ℕ) → MatchOrdering (nat_cmp x y) (x < y) (x ≡ y) (y < x)
nat_ranks x y = decided (cases_order x y)
  where
    decided : (x ≡ y) ⊎ ((x < y) ⊎ (y < x)) → MatchOrdering (nat_cmp x y) (x < y) (x ≡ y) (y < x)
    decided (inl e) = subst (λ o. MatchOrdering o (x < y) (x ≡ y) (y < x)) (sym (nat_equal x y e)) e
    decided (inr (inl l)) = subst (λ o. MatchOrdering o (x < y) (x ≡ y) (y < x)) (sym (nat_less x y l)) l
    decided (inr (inr l)) = subst (λ o. MatchOrdering o (x < y) (x ≡ y) (y < x)) (nat_cmp_is x y Greater l) l

nat_greater : (x y : ℕ) → y < x → nat_cmp x y ≡ Greater
nat_greater x y h = sym (nat_cmp_is x y Greater h)

-- the higher half decides, and the lower one where the higher are equal
pub cmp_halves : (b low high low' high' : ℕ) → low < b → low' < b → ordering_then (nat_cmp high high') (nat_cmp low low') ≡ nat_cmp (low + high * b) (low' + high' * b)
cmp_halves b low high low' high' h h' = decided (cases_order high high')
  where
    below : (p q x y : ℕ) → p < b → x < y → p + x * b < q + y * b
    below p q x y hp hx = let step : suc x * b ≤ y * b = mul-le-mul_right b hx in omega arith

    decided : (high ≡ high') ⊎ ((high < high') ⊎ (high' < high)) → ordering_then (nat_cmp high high') (nat_cmp low low') ≡ nat_cmp (low + high * b) (low' + high' * b)
    decided (inl e) = ap (λ o. ordering_then o (nat_cmp low low')) (nat_equal high high' e) ∙ lower (cases_order low low')
      where
        lower : (low ≡ low') ⊎ ((low < low') ⊎ (low' < low)) → nat_cmp low low' ≡ nat_cmp (low + high * b) (low' + high' * b)
        lower (inl f) = nat_equal low low' f ∙ sym (nat_equal _ _ (ap₂ (λ l h. l + h * b) f e))
        lower (inr (inl l)) = nat_less low low' l ∙ sym (nat_less _ _ (subst (λ x. low + high * b < low' + x * b) e (omega arith)))
        lower (inr (inr l)) = nat_greater low low' l ∙ sym (nat_greater _ _ (subst (λ x. low' + x * b < low + high * b) e (omega arith)))
    decided (inr (inl l)) = ap (λ o. ordering_then o (nat_cmp low low')) (nat_less high high' l) ∙ sym (nat_less _ _ (below low low' high high' h l))
    decided (inr (inr l)) = ap (λ o. ordering_then o (nat_cmp low low')) (nat_greater high high' l) ∙ sym (nat_greater _ _ (below low' low high' high h' l))

-- the product of two numbers of two digits in base b, as four products with what they carry
pub long_product : (b x x' y y' p c q o r m s t : ℕ) → p + c * b ≡ x * y + 0 → q + o * b ≡ x' * y + c → r + m * b ≡ x * y' + q → s + t * b ≡ x' * y' + o + m → (p + r * b) + (s + t * b) * (b * b) ≡ (x + x' * b) * (y + y' * b)
long_product b x x' y y' p c q o r m s t e f g h =
    omega (arith, e, ap (λ n. n * b) f, ap (λ n. n * b) g, ap (λ n. n * (b * b)) h)

-- ---- by signs and sizes
int_less : (a b : ℤ) → a <ℤ b → int_cmp a b ≡ Less
int_less a b h = sym (int_cmp_is a b Less h)

int_greater : (a b : ℤ) → b <ℤ a → int_cmp a b ≡ Greater
int_greater a b h = sym (int_cmp_is a b Greater h)

-- a number is negative by its sign alone
negative : ℤ → Bool
negative (pos n) = false
negative (negsuc n) = true

is_negative : (z : ℤ) → int_lt z (pos 0) ≡ negative z
unfolding negative
is_negative (pos n) = sym (false_is_lt (pos n) (pos 0) (omega arith))
is_negative (negsuc n) = refl

by_sizes : (x y : ℤ) → order_by_signs (negative x) (negative y) (nat_cmp (unsigned_abs x) (unsigned_abs y)) ≡ int_cmp x y
unfolding negative
by_sizes (pos m) (pos n) =
    int_cmp_is (pos m) (pos n) (nat_cmp m n) (MatchOrdering_weaker (nat_cmp m n) (λ h. omega (arith, ints)) (λ e. ap pos e) (λ h. omega (arith, ints)) (nat_ranks m n))
by_sizes (pos m) (negsuc n) = sym (int_greater (pos m) (negsuc n) (omega (arith, ints)))
by_sizes (negsuc m) (pos n) = sym (int_less (negsuc m) (pos n) (omega (arith, ints)))
by_sizes (negsuc m) (negsuc n) =
    sym (nat_cmp_total.antisymm (suc n) (suc m)) ∙ int_cmp_is (negsuc m) (negsuc n) (nat_cmp (suc n) (suc m)) (MatchOrdering_weaker (nat_cmp (suc n) (suc m)) (λ h. omega (arith, ints)) (λ e. same e) (λ h. omega (arith, ints)) (nat_ranks (suc n) (suc m)))
  where
    same : suc n ≡ suc m → negsuc m ≡ negsuc n
    same e = omega (arith, ints)

cmp_by_signs : (x y : ℤ) → order_by_signs (int_lt x (pos 0)) (int_lt y (pos 0)) (nat_cmp (unsigned_abs x) (unsigned_abs y)) ≡ int_cmp x y
cmp_by_signs x y =
    ap₂ (λ s t. order_by_signs s t (nat_cmp (unsigned_abs x) (unsigned_abs y))) (is_negative x) (is_negative y) ∙ by_sizes x y

-- a positive factor leaves the sign
product_sign : (a : ℤ) (d : ℕ) → 0 < d → int_lt (a *ℤ pos d) (pos 0) ≡ int_lt a (pos 0)
product_sign (pos n) d some =
    sym (false_is_lt (pos (n * d)) (pos 0) (omega arith)) ∙ false_is_lt (pos n) (pos 0) (omega arith)
product_sign (negsuc n) d some =
    let below : up (negsuc n *ℤ pos d) < down (negsuc n *ℤ pos d) = rw ((product_is (negsuc n) (pos d)).0, (product_is (negsuc n) (pos d)).1) (omega arith) in
    sym (true_is_lt (negsuc n *ℤ pos d) (pos 0) (omega arith)) ∙ true_is_lt (negsuc n) (pos 0) (omega arith)

pub cross_by_size : (a c : ℤ) (b d : ℕ) → 0 < b → 0 < d → order_by_signs (int_lt a (pos 0)) (int_lt c (pos 0)) (nat_cmp (unsigned_abs a * d) (unsigned_abs c * b)) ≡ int_cmp (a *ℤ pos d) (c *ℤ pos b)
cross_by_size a c b d some more =
    ap₂ (λ s t. order_by_signs s t (nat_cmp (unsigned_abs a * d) (unsigned_abs c * b))) (sym (product_sign a d more)) (sym (product_sign c b some)) ∙ ap₂ (λ m n. order_by_signs (int_lt (a *ℤ pos d) (pos 0)) (int_lt (c *ℤ pos b) (pos 0)) (nat_cmp m n)) (sym (unsigned_abs-mul a (pos d))) (sym (unsigned_abs-mul c (pos b))) ∙ cmp_by_signs (a *ℤ pos d) (c *ℤ pos b)

pub order_of_seen : (a c : ℤ) (b d : ℕ) → 0 < b → 0 < d → int_cmp (a *ℤ pos d) (c *ℤ pos b) ≡ order_of (seen a b) (seen c d)
unfolding order_of
order_of_seen a c b d some more =
    ap₂ (λ b d. int_cmp (a *ℤ pos d) (c *ℤ pos b)) (sym (suc-less b some)) (sym (suc-less d more))

-- fractions with one denominator are in the order of their numerators
pub same_den_order : (a c : ℤ) (b d : ℕ) → 0 < b → b ≡ d → int_cmp a c ≡ order_of (seen a b) (seen c d)
same_den_order a c b d some e =
    sym (int_cmp-scaled a c b some) ∙ ap (λ d. int_cmp (a *ℤ pos d) (c *ℤ pos b)) e ∙ order_of_seen a c b d some (subst (λ n. 0 < n) e some)

-- ---- quotients
positive_is : (z : ℤ) → pos 0 <ℤ z → z ≡ pos (unsigned_abs z)
positive_is (pos n) h = refl
positive_is (negsuc n) h = absurd (omega (arith, ints))

some_size : (z : ℤ) → pos 0 <ℤ z → 0 < unsigned_abs z
some_size (pos n) h = omega (arith, ints)
some_size (negsuc n) h = absurd (omega (arith, ints))

scaled_sign : (a z : ℤ) (m : ℕ) → pos 0 <ℤ z → 0 < m → int_lt ((a *ℤ z) *ℤ pos m) (pos 0) ≡ int_lt a (pos 0)
scaled_sign a z m h some =
    product_sign (a *ℤ z) m some ∙ ap (λ z. int_lt (a *ℤ z) (pos 0)) (positive_is z h) ∙ product_sign a (unsigned_abs z) (some_size z h)

scaled_size : (a z : ℤ) (m : ℕ) → unsigned_abs ((a *ℤ z) *ℤ pos m) ≡ unsigned_abs a * unsigned_abs z * m
scaled_size a z m =
    unsigned_abs-mul (a *ℤ z) (pos m) ∙ ap (λ n. n * m) (unsigned_abs-mul a z)

products_by_size : (p q z w : Fraction) → pos 0 <ℤ z.num → pos 0 <ℤ w.num → order_by_signs (int_lt p.num (pos 0)) (int_lt q.num (pos 0)) (nat_cmp (unsigned_abs p.num * unsigned_abs w.num * (den q * den z)) (unsigned_abs q.num * unsigned_abs z.num * (den p * den w))) ≡ int_cmp ((times p w).num *ℤ pos (den (times q z))) ((times q z).num *ℤ pos (den (times p w)))
products_by_size p q z w hz hw =
    let m = den q * den z in
    let n = den p * den w in
    let x = (p.num *ℤ w.num) *ℤ pos m in
    let y = (q.num *ℤ z.num) *ℤ pos n in
    ap₂ (λ s t. order_by_signs s t (nat_cmp (unsigned_abs p.num * unsigned_abs w.num * m) (unsigned_abs q.num * unsigned_abs z.num * n))) (sym (scaled_sign p.num w.num m hw (omega arith))) (sym (scaled_sign q.num z.num n hz (omega arith))) ∙ ap₂ (λ k l. order_by_signs (int_lt x (pos 0)) (int_lt y (pos 0)) (nat_cmp k l)) (sym (scaled_size p.num w.num m)) (sym (scaled_size q.num z.num n)) ∙ cmp_by_signs x y ∙ ap₂ (λ m n. int_cmp ((p.num *ℤ w.num) *ℤ pos m) ((q.num *ℤ z.num) *ℤ pos n)) (sym (den_is q.less_one z.less_one)) (sym (den_is p.less_one w.less_one))

pub quotients_by_size : (p q z w : Fraction) → pos 0 <ℤ z.num → pos 0 <ℤ w.num → order_by_signs (int_lt p.num (pos 0)) (int_lt q.num (pos 0)) (nat_cmp (unsigned_abs p.num * unsigned_abs w.num * (den q * den z)) (unsigned_abs q.num * unsigned_abs z.num * (den p * den w))) ≡ order_ℚ (value p /ℚ value z) (value q /ℚ value w)
quotients_by_size p q z w hz hw =
    products_by_size p q z w hz hw ∙ sym (order_crossed (times p w) (times q z)) ∙ ap₂ order_ℚ (sym (value-times p w)) (sym (value-times q z)) ∙ sym (order_ℚ-/ℚ (value p) (value q) (value z) (value w) (value_positive z hz) (value_positive w hw))

-- ---- the nearest whole numbers
pub floor_of_seen : (n : ℤ) (d : ℕ) → 0 < d → int_div_euclid n (pos d) ≡ floor_of (seen n d)
unfolding floor_of
floor_of_seen n d some = ap (λ d. int_div_euclid n (pos d)) (sym (suc-less d some))

pub ceil_of_seen : (n : ℤ) (d : ℕ) → neg_ℤ (floor_of (seen (neg_ℤ n) d)) ≡ ceil_of (seen n d)
unfolding ceil_of
ceil_of_seen n d = refl

-- the same of numbers as the code has them
pub quotients_seen : (a e z w : ℤ) (b f d h : ℕ) → 0 < b → 0 < f → 0 < d → 0 < h → pos 0 <ℤ z → pos 0 <ℤ w → order_by_signs (int_lt a (pos 0)) (int_lt e (pos 0)) (nat_cmp (unsigned_abs a * unsigned_abs w * (f * d)) (unsigned_abs e * unsigned_abs z * (b * h))) ≡ order_ℚ (value (seen a b) /ℚ value (seen z d)) (value (seen e f) /ℚ value (seen w h))
quotients_seen a e z w b f d h hb hf hd hh hz hw =
    ap₂ (λ m n. order_by_signs (int_lt a (pos 0)) (int_lt e (pos 0)) (nat_cmp (unsigned_abs a * unsigned_abs w * m) (unsigned_abs e * unsigned_abs z * n))) (ap₂ ◌*◌ (sym (suc-less f hf)) (sym (suc-less d hd))) (ap₂ ◌*◌ (sym (suc-less b hb)) (sym (suc-less h hh))) ∙ quotients_by_size (seen a b) (seen e f) (seen z d) (seen w h) hz hw
