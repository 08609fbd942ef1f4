-- The short ways of the sum: whole numbers, one denominator, and numbers of 64 bits.
use Rattle.std.proofs.Common.{◌≡◌, ℕ, ◌-◌, ◌*◌, ◌/◌, ◌^◌, ◌<◌, ◌≤◌, nat_lt, Option, Some, None, ℤ, pos, ◌+ℤ◌, ◌*ℤ◌, unsigned_abs, sym, ap, ap₂, ◌∙◌, arith, mul-one, mul-le-mul, div-le_self, lt_of_le_of_lt, le_trans, le_of_eq, le_of_lt, lt-ltb, FitsSigned, to_z, of_z, to_z-of_z}
use Rattle.std.specs.Int.{w64, w128}
use Rattle.std.proofs.lemmas.Bool.{cond-true}
use Rattle.std.proofs.lemmas.Int.{ints, unsigned_abs-mul, fits_signed_from_abs, to_z_pos}
use Rattle.std.proofs.Math.Nat.{div_self}
use Rattle.rat128.specs.Divisors.{gcd, lowest}
use Rattle.rat128.specs.Operations.{fits, IsRat, add_of}
use Rattle.rat128.specs.Steps.{◌>>=◌, small, small_den, seen, sum_in_steps}
use Rattle.rat128.proofs.Divisors.{gcd_one_left, gcd_same}
use Rattle.rat128.proofs.Operations.{add_of_seen}

pub small_fits : (z : ℤ) → unsigned_abs z < 2 ^ 127 → small z ≡ Some z
small_fits z h = cond-true (fits z) (Some z) None (lt-ltb (unsigned_abs z) (2 ^ 127) h)

pub small_den_fits : (n : ℕ) → n < 2 ^ 127 → small_den n ≡ Some n
small_den_fits n h = cond-true (nat_lt n (2 ^ 127)) (Some n) None (lt-ltb n (2 ^ 127) h)

-- ---- whole numbers
times_one : (z : ℤ) → z *ℤ pos 1 ≡ z
times_one z = omega (arith, ints)

pub whole_steps : (a c : ℤ) (o : Option ℤ) → IsRat a 1 → IsRat c 1 → o ≡ small (a +ℤ c) → (o >>= λ s. Some (lowest (seen s 1))) ≡ add_of (seen a 1) (seen c 1)
whole_steps a c o p q e =
    let left : small (a *ℤ pos 1) ≡ Some a = ap small (times_one a) ∙ small_fits a p.num_small in
    let right : small (c *ℤ pos 1) ≡ Some c = ap small (times_one c) ∙ small_fits c q.num_small in
    let steps : sum_in_steps a 1 c 1 1 ≡ (small (a +ℤ c) >>= λ s. Some (lowest (seen s 1))) = ap₂ (λ x y. x >>= λ x. y >>= λ y. small (x +ℤ y) >>= λ s. Some (lowest (seen s 1))) left right in
    ap (λ o. o >>= λ s. Some (lowest (seen s 1))) e ∙ sym steps ∙ add_of_seen a c 1 1 1 p q (sym (gcd_one_left 1))

-- ---- numbers of 64 bits
pub scaled_below : (a : ℤ) (n : ℕ) → unsigned_abs a ≤ 2 ^ 63 → n < 2 ^ 63 → unsigned_abs (a *ℤ pos n) < 2 ^ 126
scaled_below a n h k =
    let k' : n ≤ 2 ^ 63 - 1 = omega arith in
    let p : unsigned_abs a * n ≤ 2 ^ 63 * (2 ^ 63 - 1) = mul-le-mul h k' in
    lt_of_le_of_lt (le_trans (le_of_eq (unsigned_abs-mul a (pos n))) p) (omega arith)

pub sum_below : (x y : ℤ) → unsigned_abs x < 2 ^ 126 → unsigned_abs y < 2 ^ 126 → unsigned_abs (x +ℤ y) < 2 ^ 127
sum_below x y h k = omega (arith, ints)

part_below : (n g : ℕ) → n < 2 ^ 63 → n / g < 2 ^ 63
part_below n g h = lt_of_le_of_lt (div-le_self n g) h

pub den_below : (b d : ℕ) → b < 2 ^ 63 → d < 2 ^ 63 → b * d < 2 ^ 127
den_below b d h k =
    let h' : b ≤ 2 ^ 63 = omega arith in
    let k' : d ≤ 2 ^ 63 = omega arith in
    let p : b * d ≤ 2 ^ 63 * 2 ^ 63 = mul-le-mul h' k' in
    omega arith

-- no step of the sum passes
narrow_steps : (a c : ℤ) (b d g : ℕ) → unsigned_abs a ≤ 2 ^ 63 → unsigned_abs c ≤ 2 ^ 63 → b < 2 ^ 63 → d < 2 ^ 63 → sum_in_steps a b c d g ≡ Some (lowest (seen (a *ℤ pos (d / g) +ℤ c *ℤ pos (b / g)) (b * (d / g))))
narrow_steps a c b d g ha hc hb hd =
    let x = a *ℤ pos (d / g) in
    let y = c *ℤ pos (b / g) in
    let hx : unsigned_abs x < 2 ^ 126 = scaled_below a (d / g) ha (part_below d g hd) in
    let hy : unsigned_abs y < 2 ^ 126 = scaled_below c (b / g) hc (part_below b g hb) in
    let ex = small_fits x (omega arith) in
    let ey = small_fits y (omega arith) in
    let es = small_fits (x +ℤ y) (sum_below x y hx hy) in
    let em = small_den_fits (b * (d / g)) (den_below b (d / g) hb (part_below d g hd)) in
    ap₂ (λ x y. x >>= λ x. y >>= λ y. small (x +ℤ y) >>= λ s. small_den (b * (d / g)) >>= λ m. Some (lowest (seen s m))) ex ey ∙ ap₂ (λ s m. s >>= λ s. m >>= λ m. Some (lowest (seen s m))) es em

pub narrow_gives : (a c : ℤ) (b d g : ℕ) → IsRat a b → IsRat c d → unsigned_abs a ≤ 2 ^ 63 → unsigned_abs c ≤ 2 ^ 63 → b < 2 ^ 63 → d < 2 ^ 63 → g ≡ gcd b d → Some (lowest (seen (a *ℤ pos (d / g) +ℤ c *ℤ pos (b / g)) (b * (d / g)))) ≡ add_of (seen a b) (seen c d)
narrow_gives a c b d g p q ha hc hb hd e =
    sym (narrow_steps a c b d g ha hc hb hd) ∙ add_of_seen a c b d g p q e

-- ---- one denominator
pub same_gives : (a c : ℤ) (b : ℕ) → IsRat a b → IsRat c b → unsigned_abs a ≤ 2 ^ 63 → unsigned_abs c ≤ 2 ^ 63 → b < 2 ^ 63 → Some (lowest (seen (a +ℤ c) b)) ≡ add_of (seen a b) (seen c b)
same_gives a c b p q ha hc hb =
    let one : b / b ≡ 1 = div_self p.positive in
    let left : a *ℤ pos (b / b) ≡ a = ap (λ n. a *ℤ pos n) one ∙ times_one a in
    let right : c *ℤ pos (b / b) ≡ c = ap (λ n. c *ℤ pos n) one ∙ times_one c in
    let bottom : b * (b / b) ≡ b = ap (λ n. b * n) one ∙ mul-one b in
    ap₂ (λ s m. Some (lowest (seen s m))) (ap₂ ◌+ℤ◌ (sym left) (sym right)) (sym bottom) ∙ narrow_gives a c b b b p q ha hc hb hb (sym (gcd_same b))

-- ---- what the code's bits are
pub abs_64 : (a : ℤ) → FitsSigned w64 a → unsigned_abs a ≤ 2 ^ 63
abs_64 a f = omega (arith, ints)

pub scaled_bits : (a : ℤ) (b : ℕ) (x y : ℤ) → FitsSigned w64 a → b < 2 ^ 63 → x ≡ to_z w64 (of_z w64 a) → y ≡ to_z w64 b → to_z w128 (of_z w128 (to_z w128 (of_z w128 x) *ℤ to_z w128 (of_z w128 y))) ≡ a *ℤ pos b
scaled_bits a b x y f h e k =
    let ex : x ≡ a = e ∙ to_z-of_z f in
    let ey : y ≡ pos b = k ∙ to_z_pos w64 b h in
    let fx : FitsSigned w128 a = fits_signed_from_abs w128 a (lt_of_le_of_lt (abs_64 a f) (omega arith)) in
    let fy : FitsSigned w128 (pos b) = fits_signed_from_abs w128 (pos b) (lt_of_le_of_lt (le_of_lt h) (omega arith)) in
    let below : unsigned_abs (a *ℤ pos b) < 2 ^ 126 = scaled_below a b (abs_64 a f) h in
    let fp : FitsSigned w128 (a *ℤ pos b) = fits_signed_from_abs w128 (a *ℤ pos b) (omega arith) in
    ap₂ (λ x y. to_z w128 (of_z w128 (to_z w128 (of_z w128 x) *ℤ to_z w128 (of_z w128 y)))) ex ey ∙ ap₂ (λ x y. to_z w128 (of_z w128 (x *ℤ y))) (to_z-of_z fx) (to_z-of_z fy) ∙ to_z-of_z fp

pub cross_num : (a c : ℤ) (b d l r g : ℕ) (num : ℤ) → FitsSigned w64 a → FitsSigned w64 c → unsigned_abs num < 2 ^ 127 → num ≡ to_z w64 (of_z w64 a) *ℤ pos r +ℤ to_z w64 (of_z w64 c) *ℤ pos l → r ≡ d / g → l ≡ b / g → to_z w128 (of_z w128 num) ≡ a *ℤ pos (d / g) +ℤ c *ℤ pos (b / g)
cross_num a c b d l r g num fa fc h e er el =
    to_z-of_z (fits_signed_from_abs w128 num h) ∙ e ∙ ap₂ ◌+ℤ◌ (ap₂ (λ a r. a *ℤ pos r) (to_z-of_z fa) er) (ap₂ (λ c l. c *ℤ pos l) (to_z-of_z fc) el)

pub sum_64 : (a c x y : ℤ) → FitsSigned w64 a → FitsSigned w64 c → x ≡ to_z w64 (of_z w64 a) → y ≡ to_z w64 (of_z w64 c) → to_z w128 (of_z w128 (to_z w128 (of_z w128 x) +ℤ to_z w128 (of_z w128 y))) ≡ a +ℤ c
sum_64 a c x y fa fc e k =
    let ha = abs_64 a fa in
    let hc = abs_64 c fc in
    let wide_a : FitsSigned w128 a = fits_signed_from_abs w128 a (lt_of_le_of_lt ha (omega arith)) in
    let wide_c : FitsSigned w128 c = fits_signed_from_abs w128 c (lt_of_le_of_lt hc (omega arith)) in
    let below : unsigned_abs (a +ℤ c) < 2 ^ 127 = sum_below a c (lt_of_le_of_lt ha (omega arith)) (lt_of_le_of_lt hc (omega arith)) in
    ap₂ (λ x y. to_z w128 (of_z w128 (to_z w128 (of_z w128 x) +ℤ to_z w128 (of_z w128 y)))) (e ∙ to_z-of_z fa) (k ∙ to_z-of_z fc) ∙ ap₂ (λ x y. to_z w128 (of_z w128 (x +ℤ y))) (to_z-of_z wide_a) (to_z-of_z wide_c) ∙ to_z-of_z (fits_signed_from_abs w128 (a +ℤ c) below)
