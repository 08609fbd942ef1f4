-- What the greatest common divisor by halving rests on: odd parts, at any width.
use Rattle.std.proofs.Common.{◌≡◌, ◌≢◌, ℕ, zero, suc, ◌+◌, ◌-◌, ◌*◌, ◌/◌, ◌%◌, ◌^◌, ◌<◌, ◌≤◌, min, ◌⊎◌, inl, inr, sym, ap, ap₂, ◌∙◌, subst, arith, mul_comm, mul_assoc, pow_pos, pow-suc, mod-eq_of_lt, mul-le-mul_right}
use Rattle.std.specs.Int.{IsGcd, Width, trailing_zeros, bit_at, abs_diff}
use Rattle.std.proofs.lemmas.Bool.{cases_lt}
use Rattle.std.proofs.lemmas.Nat.{mod-pow-add, shr_split, pow-add}
use Rattle.std.proofs.lemmas.Nat.Bits.{bit_at-trailing_zeros}
use Rattle.std.proofs.lemmas.Nat.Gcd.{IsGcd-from_mod, IsGcd-from_sub, le_of_dvd}
use Rattle.std.proofs.Math.Nat.{one-dvd}
use mir.Val.{bits}
use Rattle.rat128.specs.Divisors.{gcd}
use Rattle.rat128.proofs.Divisors.{gcd_is, gcd_from, gcd_comm, gcd-mul, gcd_drop, gcd_divides_left, coprime-mul_right, gcd_one_right}

-- a number with no 1 below bit k is a multiple of 2 ^ k
low_zeros : (k n : ℕ) → ((i : ℕ) → i < k → bit_at n i ≡ 0) → n % 2 ^ k ≡ 0
low_zeros zero n h = omega arith
low_zeros (suc k) n h =
    let one : suc k ≡ 1 + k = omega arith in
    let above : n / 2 ^ k % 2 ^ 1 ≡ 0 = h k (omega arith) in
    let below : n % 2 ^ k ≡ 0 = low_zeros k n (λ i p. h i (omega arith)) in
    ap (λ m. n % 2 ^ m) one ∙ mod-pow-add n 1 k ∙ ap₂ (λ x y. x * 2 ^ k + y) above below ∙ omega arith

pub odd_part_is_odd : (w : Width) (n : ℕ) → 0 < n → n < 2 ^ bits w → n / 2 ^ trailing_zeros w n % 2 ≡ 1
odd_part_is_odd w n some fits = (bit_at-trailing_zeros w n some fits).1

pub odd_part_is_part : (w : Width) (n : ℕ) → 0 < n → n < 2 ^ bits w → n ≡ 2 ^ trailing_zeros w n * (n / 2 ^ trailing_zeros w n)
odd_part_is_part w n some fits =
    let k = trailing_zeros w n in
    let rest = low_zeros k n ((bit_at-trailing_zeros w n some fits).2) in
    sym (shr_split n k) ∙ ap (λ m. n / 2 ^ k * 2 ^ k + m) rest ∙ omega arith

pub trailing_zeros_below : (w : Width) (n : ℕ) → 0 < n → n < 2 ^ bits w → trailing_zeros w n < bits w
trailing_zeros_below w n some fits = (bit_at-trailing_zeros w n some fits).0

-- an odd number has no divisor in common with a power of 2
odd_two : (y : ℕ) → y % 2 ≡ 1 → gcd y 2 ≡ 1
odd_two y odd =
    sym (gcd_from y 2 1 (IsGcd-from_mod y 2 1 (subst (λ r. IsGcd 2 r 1) (sym odd) (one-dvd 2, one-dvd 1, λ d p q. q))))

pub odd_pow : (y k : ℕ) → y % 2 ≡ 1 → gcd y (2 ^ k) ≡ 1
odd_pow y zero odd = gcd_one_right y
odd_pow y (suc k) odd =
    ap (gcd y) (pow-suc 2 k) ∙ coprime-mul_right y (2 ^ k) 2 (odd_pow y k odd) (odd_two y odd)

-- factors of 2 on one side do not count where the other is odd
gcd_odd : (y k r : ℕ) → y % 2 ≡ 1 → gcd y (2 ^ k * r) ≡ gcd y r
gcd_odd y k r odd = ap (gcd y) (mul_comm (2 ^ k) r) ∙ gcd_drop y r (2 ^ k) (odd_pow y k odd)

-- taking the lesser of two odd numbers from the greater, and its odd part for the rest, leaves the divisor
gcd_less : (x y k r : ℕ) → y % 2 ≡ 1 → y < x → x - y ≡ 2 ^ k * r → gcd y r ≡ gcd x y
gcd_less x y k r odd less e =
    sym (gcd_odd y k r odd) ∙ ap (gcd y) (sym e) ∙ gcd_comm y (x - y) ∙ gcd_from x y (gcd (x - y) y) (IsGcd-from_sub x y (gcd (x - y) y) (omega arith) (gcd_is (x - y) y))

pub gcd_turn : (x y k r : ℕ) → x % 2 ≡ 1 → y % 2 ≡ 1 → x ≢ y → abs_diff x y ≡ 2 ^ k * r → gcd (min x y) r ≡ gcd x y
gcd_turn x y k r p q ne e = decided (cases_lt x y)
  where
    decided : (x < y) ⊎ (y ≤ x) → gcd (min x y) r ≡ gcd x y
    decided (inl h) = let m : min x y ≡ x = omega arith in let d : y - x ≡ 2 ^ k * r = omega (arith, e) in ap (λ n. gcd n r) m ∙ gcd_less y x k r p h d ∙ gcd_comm y x
    decided (inr h) = let m : min x y ≡ y = omega arith in let l : y < x = omega (arith, ne) in let d : x - y ≡ 2 ^ k * r = omega (arith, e) in ap (λ n. gcd n r) m ∙ gcd_less x y k r q l d

-- the odd part of a positive number is positive and no greater
pub part_at_most : (n k r : ℕ) → 0 < n → n ≡ 2 ^ k * r → (0 < r) × (r ≤ n)
part_at_most n k zero some e = absurd (omega (arith, e))
part_at_most n k (suc r) some e =
    let p : 0 < 2 ^ k = pow_pos k in
    (omega arith, omega (arith, e, mul-le-mul_right (suc r) p))

-- the factors of 2 that two numbers share
gcd_twos_le : (i j x y : ℕ) → i ≤ j → x % 2 ≡ 1 → gcd (2 ^ i * x) (2 ^ j * y) ≡ 2 ^ i * gcd x y
gcd_twos_le i j x y le odd =
    let split : j ≡ i + (j - i) = omega arith in
    let e : 2 ^ j * y ≡ 2 ^ i * (2 ^ (j - i) * y) = ap (λ n. 2 ^ n * y) split ∙ ap (λ n. n * y) (pow-add 2 i (j - i)) ∙ mul_assoc (2 ^ i) (2 ^ (j - i)) y in
    ap (gcd (2 ^ i * x)) e ∙ gcd-mul (2 ^ i) x (2 ^ (j - i) * y) (pow_pos i) ∙ ap (λ n. 2 ^ i * n) (gcd_odd x (j - i) y odd)

pub gcd_twos : (i j x y : ℕ) → x % 2 ≡ 1 → y % 2 ≡ 1 → gcd (2 ^ i * x) (2 ^ j * y) ≡ gcd x y * 2 ^ min i j
gcd_twos i j x y p q = decided (cases_lt i j)
  where
    decided : (i < j) ⊎ (j ≤ i) → gcd (2 ^ i * x) (2 ^ j * y) ≡ gcd x y * 2 ^ min i j
    decided (inl h) = let m : min i j ≡ i = omega arith in gcd_twos_le i j x y (omega arith) p ∙ mul_comm (2 ^ i) (gcd x y) ∙ ap (λ n. gcd x y * 2 ^ n) (sym m)
    decided (inr h) = let m : min i j ≡ j = omega arith in gcd_comm (2 ^ i * x) (2 ^ j * y) ∙ gcd_twos_le j i y x h q ∙ ap (λ n. 2 ^ j * n) (gcd_comm y x) ∙ mul_comm (2 ^ j) (gcd x y) ∙ ap (λ n. gcd x y * 2 ^ n) (sym m)

-- what the loop leaves, shifted back, is the divisor of the two numbers, and fits their width
pub gcd_shifted : (w : Width) (a b x y z : ℕ) → 0 < a → a < 2 ^ bits w → x % 2 ≡ 1 → y % 2 ≡ 1 → a ≡ 2 ^ trailing_zeros w a * x → b ≡ 2 ^ trailing_zeros w b * y → gcd x y ≡ z → z * 2 ^ min (trailing_zeros w a) (trailing_zeros w b) % 2 ^ bits w ≡ gcd a b
gcd_shifted w a b x y z some fits p q e f is =
    let k = min (trailing_zeros w a) (trailing_zeros w b) in
    let whole : z * 2 ^ k ≡ gcd a b = ap (λ n. n * 2 ^ k) (sym is) ∙ sym (gcd_twos (trailing_zeros w a) (trailing_zeros w b) x y p q) ∙ ap₂ gcd (sym e) (sym f) in
    let small : gcd a b ≤ a = le_of_dvd some (gcd_divides_left a b) in
    ap (λ n. n % 2 ^ bits w) whole ∙ mod-eq_of_lt (omega arith)

pub odd_min : (x y : ℕ) → x % 2 ≡ 1 → y % 2 ≡ 1 → min x y % 2 ≡ 1
odd_min x y p q = decided (cases_lt x y)
  where
    decided : (x < y) ⊎ (y ≤ x) → min x y % 2 ≡ 1
    decided (inl h) = let m : min x y ≡ x = omega arith in ap (λ n. n % 2) m ∙ p
    decided (inr h) = let m : min x y ≡ y = omega arith in ap (λ n. n % 2) m ∙ q
