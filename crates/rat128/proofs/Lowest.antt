-- Lowest terms: there is one such fraction of each number, and `lowest` is it.
use Rattle.std.proofs.Common.{◌≡◌, ℕ, zero, suc, pred, ◌-◌, ◌*◌, ◌/◌, ◌<◌, ◌≤◌, ℤ, pos, negsuc, ◌+ℤ◌, ◌*ℤ◌, neg_ℤ, unsigned_abs, int_div, refl, sym, ap, ap₂, ◌∙◌, subst, arith, mul_comm, mul-one, zero-lt-suc, mul-div_cancel, div-le_self, lt_of_le_of_lt, ◌^◌}
use Rattle.std.specs.Int.{◌∣◌}
use Rattle.std.proofs.lemmas.Int.{ints, unsigned_abs-mul}
use Rattle.std.proofs.Math.Nat.{dvd-mul_left, mul-div_cancel'}
use borrow.Author.Differences.{up, down, product_is, quot_is, same_in}
use Rattle.rat128.specs.Integers.{*ℤ_assoc, *ℤ_cancel, neg-*ℤ, +ℤ-*ℤ}
use Rattle.rat128.specs.Fractions.{Fraction, den, Same, whole_fraction}
use Rattle.rat128.specs.Rationals.{value, value_same}
use Rattle.rat128.specs.Divisors.{gcd, lowest}
use Rattle.rat128.specs.Operations.{IsRat}
use Rattle.rat128.specs.Steps.{seen}
use Rattle.rat128.proofs.Divisors.{gcd_left, gcd_right, gcd-mul, coprime_comm, coprime_divides, quotients_coprime, part_positive, gcd_one_right, gcd_at_most}
use Rattle.rat128.proofs.Rationals.{value_≡}

-- ---- division without a remainder
pub unsigned_abs-neg : (n : ℕ) → unsigned_abs (neg_ℤ (pos n)) ≡ n
unsigned_abs-neg zero = refl
unsigned_abs-neg (suc n) = refl

pub unsigned_abs-int_div : (n : ℤ) (g : ℕ) → unsigned_abs (int_div n (pos g)) ≡ unsigned_abs n / g
unsigned_abs-int_div (pos n) g = refl
unsigned_abs-int_div (negsuc n) g = unsigned_abs-neg (suc n / g)

pub int_div_exact : (n : ℤ) (g : ℕ) → g * (unsigned_abs n / g) ≡ unsigned_abs n → int_div n (pos g) *ℤ pos g ≡ n
int_div_exact (pos n) g e = ap pos (mul_comm (n / g) g ∙ e)
int_div_exact (negsuc n) g e =
    neg-*ℤ (pos (suc n / g)) (pos g) ∙ ap (λ m. neg_ℤ (pos m)) (mul_comm (suc n / g) g ∙ e)

pub int_div-mul : (n : ℤ) (k : ℕ) → 0 < k → int_div (n *ℤ pos k) (pos k) ≡ n
int_div-mul n k some =
    let u : up (int_div (n *ℤ pos k) (pos k)) ≡ up n = (quot_is (n *ℤ pos k) k).0 ∙ ap (λ m. m / k) ((product_is n (pos k)).0 ∙ omega arith) ∙ mul-div_cancel (up n) some in
    let v : down (int_div (n *ℤ pos k) (pos k)) ≡ down n = (quot_is (n *ℤ pos k) k).1 ∙ ap (λ m. m / k) ((product_is n (pos k)).1 ∙ omega arith) ∙ mul-div_cancel (down n) some in
    same_in (int_div (n *ℤ pos k) (pos k)) n (omega (arith, u, v))

pub suc-pred : (n : ℕ) → 0 < n → suc (pred n) ≡ n
suc-pred zero some = absurd (omega arith)
suc-pred (suc n) some = refl

-- ---- what `lowest` gives
part_of_den : (f : Fraction) → 0 < den f / gcd (unsigned_abs f.num) (den f)
part_of_den f =
    part_positive (gcd (unsigned_abs f.num) (den f)) (den f / gcd (unsigned_abs f.num) (den f)) (den f) (zero-lt-suc f.less_one) (gcd_right (unsigned_abs f.num) (den f))

den-lowest : (f : Fraction) → den (lowest f) ≡ den f / gcd (unsigned_abs f.num) (den f)
unfolding lowest
den-lowest f = suc-pred (den f / gcd (unsigned_abs f.num) (den f)) (part_of_den f)

num-lowest : (f : Fraction) → (lowest f).num ≡ int_div f.num (pos (gcd (unsigned_abs f.num) (den f)))
unfolding lowest
num-lowest f = refl

pub coprime-lowest : (f : Fraction) → gcd (unsigned_abs (lowest f).num) (den (lowest f)) ≡ 1
coprime-lowest f =
    ap₂ gcd (ap unsigned_abs (num-lowest f) ∙ unsigned_abs-int_div f.num (gcd (unsigned_abs f.num) (den f))) (den-lowest f) ∙ quotients_coprime (unsigned_abs f.num) (den f) (zero-lt-suc f.less_one)

pub Same-lowest : (f : Fraction) → Same (lowest f) f
Same-lowest f =
    let g = gcd (unsigned_abs f.num) (den f) in
    let part = den f / g in
    ap₂ (λ x y. x *ℤ pos y) (num-lowest f) (sym (gcd_right (unsigned_abs f.num) (den f))) ∙ sym (*ℤ_assoc (int_div f.num (pos g)) (pos g) (pos part)) ∙ ap (λ x. x *ℤ pos part) (int_div_exact f.num g (gcd_left (unsigned_abs f.num) (den f))) ∙ ap (λ y. f.num *ℤ pos y) (sym (den-lowest f))

pub value-lowest : (f : Fraction) → value (lowest f) ≡ value f
value-lowest f = value_same (lowest f) f (Same-lowest f)

-- a fraction in lowest terms is what `lowest` gives of each fraction that is the same number
pub lowest_unique : (r f : Fraction) → gcd (unsigned_abs r.num) (den r) ≡ 1 → Same r f → r ≡ lowest f
unfolding lowest
lowest_unique r f e same =
    let n = unsigned_abs r.num in
    let d = den r in
    let sizes : n * den f ≡ unsigned_abs f.num * d = sym (unsigned_abs-mul r.num (pos (den f))) ∙ ap unsigned_abs same ∙ unsigned_abs-mul f.num (pos d) in
    let divides : d ∣ den f = coprime_divides d n (den f) (coprime_comm n d e) (subst (λ m. d ∣ m) (sym sizes) (dvd-mul_left d (unsigned_abs f.num))) in
    let k = den f / d in
    let whole : d * k ≡ den f = mul-div_cancel' d divides in
    let some : 0 < k = part_positive d k (den f) (zero-lt-suc f.less_one) whole in
    let above : r.num *ℤ pos k ≡ f.num = *ℤ_cancel (r.num *ℤ pos k) f.num d (zero-lt-suc r.less_one) (*ℤ_assoc r.num (pos k) (pos d) ∙ ap (λ m. r.num *ℤ pos m) (mul_comm k d ∙ whole) ∙ same) in
    let g : gcd (unsigned_abs f.num) (den f) ≡ k = ap₂ gcd (ap unsigned_abs (sym above) ∙ unsigned_abs-mul r.num (pos k) ∙ mul_comm n k) (sym whole ∙ mul_comm d k) ∙ gcd-mul k n d some ∙ ap (λ m. k * m) e ∙ mul-one k in
    let top : r.num ≡ int_div f.num (pos (gcd (unsigned_abs f.num) (den f))) = sym (int_div-mul r.num k some) ∙ ap₂ (λ x y. int_div x (pos y)) above (sym g) in
    let bottom : r.less_one ≡ pred (den f / gcd (unsigned_abs f.num) (den f)) = ap pred (sym (mul-div_cancel d some) ∙ ap₂ (λ x y. x / y) whole (sym g)) in
    λ i. record { num = top i; less_one = bottom i }

pub lowest_self : (f : Fraction) → gcd (unsigned_abs f.num) (den f) ≡ 1 → lowest f ≡ f
lowest_self f e = sym (lowest_unique f f e refl)

-- fractions that are the same number have one lowest form
pub lowest_same : (f h : Fraction) → Same f h → lowest f ≡ lowest h
lowest_same f h same =
    lowest_unique (lowest f) h (coprime-lowest f) (value_≡ (lowest f) h (value-lowest f ∙ value_same f h same))

-- two fractions in lowest terms that are one number have the same two numbers
pub value_injective : (p q : Fraction) → gcd (unsigned_abs p.num) (den p) ≡ 1 → gcd (unsigned_abs q.num) (den q) ≡ 1 → value p ≡ value q → p ≡ q
value_injective p q e f h = lowest_unique p q e (value_≡ p q h) ∙ lowest_self q f

-- ---- divisors of the size of an integer
pub divides_from : (z w : ℤ) (k : ℕ) → z ≡ w *ℤ pos k → k ∣ unsigned_abs z
divides_from z w k e =
    subst (λ m. k ∣ m) (sym (unsigned_abs-mul w (pos k)) ∙ ap unsigned_abs (sym e)) (dvd-mul_left k (unsigned_abs w))

other_term : (x y s t k : ℤ) → s *ℤ k ≡ x +ℤ y → t *ℤ k ≡ x → y ≡ (s +ℤ neg_ℤ t) *ℤ k
other_term x y s t k e f =
    let e' : y ≡ s *ℤ k +ℤ neg_ℤ (t *ℤ k) = omega (arith, ints) in
    e' ∙ ap (λ z. s *ℤ k +ℤ z) (sym (neg-*ℤ t k)) ∙ sym (+ℤ-*ℤ s (neg_ℤ t) k)

-- what divides a sum and one term divides the other
pub divides_other : (x y : ℤ) (k : ℕ) → k ∣ unsigned_abs (x +ℤ y) → k ∣ unsigned_abs x → k ∣ unsigned_abs y
divides_other x y k p q =
    let s = int_div (x +ℤ y) (pos k) in
    let t = int_div x (pos k) in
    let whole : s *ℤ pos k ≡ x +ℤ y = int_div_exact (x +ℤ y) k (mul-div_cancel' k p) in
    let part : t *ℤ pos k ≡ x = int_div_exact x k (mul-div_cancel' k q) in
    divides_from y (s +ℤ neg_ℤ t) k (other_term x y s t (pos k) whole part)

-- ---- taking the common divisor out of two numbers
-- a fraction whose numbers can have only 1 in common
pub IsRat-from_one : (n : ℤ) (d k : ℕ) → 0 < d → unsigned_abs n < 2 ^ 127 → d < 2 ^ 127 → gcd (unsigned_abs n) d ≡ gcd (unsigned_abs n) k → k ≡ 1 → IsRat n d
IsRat-from_one n d k some above below e one = record {
  positive = some;
  num_small = above;
  den_small = below;
  coprime = e ∙ ap (gcd (unsigned_abs n)) one ∙ gcd_one_right (unsigned_abs n);
}

pub IsRat-lowest : (n : ℤ) (d k g : ℕ) → 0 < d → unsigned_abs n < 2 ^ 127 → d < 2 ^ 127 → gcd (unsigned_abs n) d ≡ gcd (unsigned_abs n) k → g ≡ gcd (unsigned_abs n) k → IsRat (int_div n (pos g)) (d / g)
IsRat-lowest n d k g some above below e f =
    let whole : g ≡ gcd (unsigned_abs n) d = f ∙ sym e in
    let parts : IsRat (int_div n (pos (gcd (unsigned_abs n) d))) (d / gcd (unsigned_abs n) d) = record {
      positive = part_positive (gcd (unsigned_abs n) d) (d / gcd (unsigned_abs n) d) d some (gcd_right (unsigned_abs n) d);
      num_small = subst (λ m. m < 2 ^ 127) (sym (unsigned_abs-int_div n (gcd (unsigned_abs n) d))) (lt_of_le_of_lt (div-le_self (unsigned_abs n) (gcd (unsigned_abs n) d)) above);
      den_small = lt_of_le_of_lt (div-le_self d (gcd (unsigned_abs n) d)) below;
      coprime = ap (λ m. gcd m (d / gcd (unsigned_abs n) d)) (unsigned_abs-int_div n (gcd (unsigned_abs n) d)) ∙ quotients_coprime (unsigned_abs n) d some;
    } in
    subst (λ g. IsRat (int_div n (pos g)) (d / g)) (sym whole) parts

pub seen-lowest : (n : ℤ) (d k g : ℕ) → 0 < d → gcd (unsigned_abs n) d ≡ gcd (unsigned_abs n) k → g ≡ gcd (unsigned_abs n) k → seen (int_div n (pos g)) (d / g) ≡ lowest (seen n d)
unfolding lowest
seen-lowest n d k g some e f =
    let bottom : d ≡ suc (d - 1) = omega arith in
    let whole : g ≡ gcd (unsigned_abs n) (suc (d - 1)) = f ∙ sym e ∙ ap (gcd (unsigned_abs n)) bottom in
    let under : d / g - 1 ≡ pred (suc (d - 1) / gcd (unsigned_abs n) (suc (d - 1))) = less_is_pred (d / g) ∙ ap₂ (λ m g. pred (m / g)) bottom whole in
    λ i. record { num = int_div n (pos (whole i)); less_one = under i }
  where
    less_is_pred : (m : ℕ) → m - 1 ≡ pred m
    less_is_pred zero = refl
    less_is_pred (suc m) = omega arith

pub seen-lowest_one : (n : ℤ) (d : ℕ) → IsRat n d → seen n d ≡ lowest (seen n d)
seen-lowest_one n d r =
    let bottom : d ≡ suc (d - 1) = let some = r.positive in omega arith in
    sym (lowest_self (seen n d) (ap (gcd (unsigned_abs n)) (sym bottom) ∙ r.coprime))

pub divisor_small : (n d k g : ℕ) → 0 < d → d < 2 ^ 127 → gcd n d ≡ gcd n k → g ≡ gcd n k → g < 2 ^ 127
divisor_small n d k g some below e f =
    let at_most : gcd n d ≤ d = gcd_at_most n d some in
    subst (λ m. m < 2 ^ 127) (e ∙ sym f) (lt_of_le_of_lt at_most below)

-- a whole number is in lowest terms
pub lowest-whole : (z : ℤ) → lowest (whole_fraction z) ≡ whole_fraction z
lowest-whole z = lowest_self (whole_fraction z) (gcd_one_right (unsigned_abs z))
