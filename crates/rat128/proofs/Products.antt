-- The short ways of the product: a factor of 0, and numbers of 64 bits.
use Rattle.std.proofs.Common.{◌≡◌, ◌⊎◌, inl, inr, ℕ, ◌*◌, ◌/◌, ◌^◌, ◌<◌, ◌≤◌, Some, ℤ, pos, ◌*ℤ◌, unsigned_abs, int_div, refl, sym, ap, ap₂, ◌∙◌, arith, mul-le-mul, div-one, div-le_self, lt_of_le_of_lt, le_trans, le_of_eq, FitsSigned, to_z, of_z, to_z-of_z}
use Rattle.std.specs.Int.{Width, w64, w128}
use Rattle.std.proofs.lemmas.Int.{unsigned_abs-mul, fits_signed_from_abs}
use Rattle.std.proofs.Math.IntN.{zero-*ℤ, *ℤ-zero}
use Rattle.std.proofs.Math.Nat.{div_self, zero-div}
use Rattle.rat128.specs.Divisors.{gcd}
use Rattle.rat128.specs.Operations.{IsRat, mul_of}
use Rattle.rat128.specs.Steps.{◌>>=◌, small, small_den, seen}
use Rattle.rat128.proofs.Divisors.{gcd_zero_left, gcd_one_right}
use Rattle.rat128.proofs.Lowest.{unsigned_abs-int_div}
use Rattle.rat128.proofs.Operations.{mul_of_seen}
use Rattle.rat128.proofs.Sums.{small_fits, small_den_fits, abs_64, den_below}

-- ---- a factor of 0
-- what is left of a factor of 0, and of the other denominator
zero_left : (a : ℤ) (g : ℕ) → a ≡ pos 0 → int_div a (pos g) ≡ pos 0
zero_left a g e = ap (λ a. int_div a (pos g)) e ∙ ap pos (zero-div g)

den_one : (a : ℤ) (b : ℕ) → IsRat a b → a ≡ pos 0 → b ≡ 1
den_one a b p e = sym (gcd_zero_left b) ∙ ap (λ z. gcd (unsigned_abs z) b) (sym e) ∙ p.coprime

over_zero : (a : ℤ) (d : ℕ) → 0 < d → a ≡ pos 0 → d / gcd (unsigned_abs a) d ≡ 1
over_zero a d some e = ap (λ z. d / gcd (unsigned_abs z) d) e ∙ ap (λ g. d / g) (gcd_zero_left d) ∙ div_self some

over_one : (c : ℤ) (b : ℕ) → b ≡ 1 → b / gcd (unsigned_abs c) b ≡ 1
over_one c b e = ap (λ b. b / gcd (unsigned_abs c) b) e ∙ ap (λ g. 1 / g) (gcd_one_right (unsigned_abs c)) ∙ div-one 1

steps_at : (n : ℤ) (m : ℕ) → n ≡ pos 0 → m ≡ 1 → (small n >>= λ n. small_den m >>= λ m. Some (seen n m)) ≡ Some (seen (pos 0) 1)
steps_at n m e f =
    ap₂ (λ n m. small n >>= λ n. small_den m >>= λ m. Some (seen n m)) e f ∙ ap₂ (λ n m. n >>= λ n. m >>= λ m. Some (seen n m)) (small_fits (pos 0) (omega arith)) (small_den_fits 1 (omega arith))

pub zero_gives : (a c : ℤ) (b d : ℕ) → IsRat a b → IsRat c d → (a ≡ pos 0) ⊎ (c ≡ pos 0) → Some (seen (pos 0) 1) ≡ mul_of (seen a b) (seen c d)
zero_gives a c b d p q (inl e) =
    let g = gcd (unsigned_abs a) d in
    let h = gcd (unsigned_abs c) b in
    let num : int_div a (pos g) *ℤ int_div c (pos h) ≡ pos 0 = ap (λ z. z *ℤ int_div c (pos h)) (zero_left a g e) ∙ zero-*ℤ (int_div c (pos h)) in
    let den : (b / h) * (d / g) ≡ 1 = ap₂ ◌*◌ (over_one c b (den_one a b p e)) (over_zero a d q.positive e) in
    sym (steps_at (int_div a (pos g) *ℤ int_div c (pos h)) ((b / h) * (d / g)) num den) ∙ mul_of_seen a c b d g h p q refl refl
zero_gives a c b d p q (inr e) =
    let g = gcd (unsigned_abs a) d in
    let h = gcd (unsigned_abs c) b in
    let num : int_div a (pos g) *ℤ int_div c (pos h) ≡ pos 0 = ap (λ z. int_div a (pos g) *ℤ z) (zero_left c h e) ∙ *ℤ-zero (int_div a (pos g)) in
    let den : (b / h) * (d / g) ≡ 1 = ap₂ ◌*◌ (over_zero c b p.positive e) (over_one a d (den_one c d q e)) in
    sym (steps_at (int_div a (pos g) *ℤ int_div c (pos h)) ((b / h) * (d / g)) num den) ∙ mul_of_seen a c b d g h p q refl refl

-- ---- numbers of 64 bits
pub product_below : (a c : ℤ) → unsigned_abs a ≤ 2 ^ 63 → unsigned_abs c ≤ 2 ^ 63 → unsigned_abs (a *ℤ c) < 2 ^ 127
product_below a c h k =
    let p : unsigned_abs a * unsigned_abs c ≤ 2 ^ 63 * 2 ^ 63 = mul-le-mul h k in
    lt_of_le_of_lt (le_trans (le_of_eq (unsigned_abs-mul a c)) p) (omega arith)

quotient_below : (a : ℤ) (g : ℕ) → unsigned_abs a ≤ 2 ^ 63 → unsigned_abs (int_div a (pos g)) ≤ 2 ^ 63
quotient_below a g h =
    le_trans (le_of_eq (unsigned_abs-int_div a g)) (le_trans (div-le_self (unsigned_abs a) g) h)

part_below : (n g : ℕ) → n < 2 ^ 63 → n / g < 2 ^ 63
part_below n g h = lt_of_le_of_lt (div-le_self n g) h

pub narrow_den : (b d g h : ℕ) → b < 2 ^ 63 → d < 2 ^ 63 → (b / h) * (d / g) < 2 ^ 127
narrow_den b d g h hb hd = den_below (b / h) (d / g) (part_below b h hb) (part_below d g hd)

pub narrow_product_gives : (a c : ℤ) (b d g h : ℕ) → IsRat a b → IsRat c d → unsigned_abs a ≤ 2 ^ 63 → unsigned_abs c ≤ 2 ^ 63 → b < 2 ^ 63 → d < 2 ^ 63 → g ≡ gcd (unsigned_abs a) d → h ≡ gcd (unsigned_abs c) b → Some (seen (int_div a (pos g) *ℤ int_div c (pos h)) ((b / h) * (d / g))) ≡ mul_of (seen a b) (seen c d)
narrow_product_gives a c b d g h p q ha hc hb hd eg eh =
    let n = int_div a (pos g) *ℤ int_div c (pos h) in
    let m = (b / h) * (d / g) in
    let en = small_fits n (product_below (int_div a (pos g)) (int_div c (pos h)) (quotient_below a g ha) (quotient_below c h hc)) in
    let em = small_den_fits m (narrow_den b d g h hb hd) in
    sym (ap₂ (λ n m. n >>= λ n. m >>= λ m. Some (seen n m)) en em) ∙ mul_of_seen a c b d g h p q eg eh

-- ---- what the code's bits are
pub product_bits : (a c x y : ℤ) → FitsSigned w64 a → FitsSigned w64 c → x ≡ to_z w64 (of_z w64 a) → y ≡ to_z w64 (of_z w64 c) → to_z w128 (of_z w128 (to_z w128 (of_z w128 x) *ℤ to_z w128 (of_z w128 y))) ≡ a *ℤ c
product_bits a c x y fa fc e k =
    let ha = abs_64 a fa in
    let hc = abs_64 c fc in
    let wide_a : FitsSigned w128 a = fits_signed_from_abs w128 a (lt_of_le_of_lt ha (omega arith)) in
    let wide_c : FitsSigned w128 c = fits_signed_from_abs w128 c (lt_of_le_of_lt hc (omega arith)) in
    ap₂ (λ x y. to_z w128 (of_z w128 (to_z w128 (of_z w128 x) *ℤ to_z w128 (of_z w128 y)))) (e ∙ to_z-of_z fa) (k ∙ to_z-of_z fc) ∙ ap₂ (λ x y. to_z w128 (of_z w128 (x *ℤ y))) (to_z-of_z wide_a) (to_z-of_z wide_c) ∙ to_z-of_z (fits_signed_from_abs w128 (a *ℤ c) (product_below a c ha hc))

-- the divisor of a numerator's size, as the code has it
pub divisor_of_bits : (w : Width) (a : ℤ) (d g u : ℕ) → FitsSigned w a → u ≡ unsigned_abs (to_z w (of_z w a)) → g ≡ gcd u d → g ≡ gcd (unsigned_abs a) d
divisor_of_bits w a d g u f e h = h ∙ ap (λ m. gcd m d) (e ∙ ap unsigned_abs (to_z-of_z f))

pub product_num : (a c q r n : ℤ) (g h : ℕ) → FitsSigned w64 a → FitsSigned w64 c → q ≡ int_div (to_z w64 (of_z w64 a)) (pos g) → r ≡ int_div (to_z w64 (of_z w64 c)) (pos h) → FitsSigned w64 q → FitsSigned w64 r → unsigned_abs n < 2 ^ 127 → n ≡ to_z w64 (of_z w64 q) *ℤ to_z w64 (of_z w64 r) → to_z w128 (of_z w128 n) ≡ int_div a (pos g) *ℤ int_div c (pos h)
product_num a c q r n g h fa fc eq er fq fr below e =
    to_z-of_z (fits_signed_from_abs w128 n below) ∙ e ∙ ap₂ ◌*ℤ◌ (to_z-of_z fq ∙ eq ∙ ap (λ a. int_div a (pos g)) (to_z-of_z fa)) (to_z-of_z fr ∙ er ∙ ap (λ c. int_div c (pos h)) (to_z-of_z fc))

pub IsRat-zero : IsRat (pos 0) 1
IsRat-zero = record {
  positive = omega arith;
  num_small = omega arith;
  den_small = omega arith;
  coprime = gcd_one_right 0;
}
