-- Lemmas on the greatest common divisor: it is one, it moves over a common factor, and what follows for numbers with no common divisor but 1.
use Rattle.std.proofs.Common.{◌≡◌, ℕ, zero, suc, ◌*◌, ◌/◌, ◌%◌, ◌<◌, ◌≤◌, Bool, true, false, cond, eqb, ◌⊎◌, inl, inr, refl, sym, ap, ap₂, ◌∙◌, subst, arith, eqb-true, mul_comm, mul-one}
use Rattle.std.specs.Int.{IsGcd, ◌∣◌}
use Rattle.std.proofs.lemmas.Bool.{eqb-false}
use Rattle.std.proofs.lemmas.Nat.Gcd.{dvd_refl, dvd-zero, dvd_trans, le_of_dvd, IsGcd-from_zero, IsGcd-swap, IsGcd-from_mod, same_from_IsGcd}
use Rattle.std.proofs.Math.Nat.{dvd-mul_left, dvd-mul_right, mul-div_cancel', dvd_of_mul-dvd-mul_left, mul-dvd-mul_left, eq-one_of_dvd-one, pos_of_dvd_of_pos, eq_of_mul-eq-mul_left}
use Rattle.rat128.specs.Divisors.{gcd, gcd_in}

gcd_step : (a b r : ℕ) → (0 < b → IsGcd b (a % b) r) → (t : Bool) → eqb b 0 ≡ t → IsGcd a b (cond t a r)
gcd_step a b r goes true e = IsGcd-from_zero a b (eqb-true b 0 e)
gcd_step a b r goes false e =
    let ne = eqb-false b 0 e in
    let some : 0 < b = omega arith in
    IsGcd-from_mod a b r (goes some)

gcd_in_is : (k a b : ℕ) → b ≤ k → IsGcd a b (gcd_in k a b)
unfolding gcd_in
gcd_in_is zero a b h = IsGcd-from_zero a b (omega arith)
gcd_in_is (suc k) a b h =
    gcd_step a b (gcd_in k b (a % b)) (λ some. let less : a % b < b = omega arith in gcd_in_is k b (a % b) (omega arith)) (eqb b 0) refl

pub gcd_is : (a b : ℕ) → IsGcd a b (gcd a b)
unfolding gcd
gcd_is a b = gcd_in_is b a b (omega arith)

pub gcd_from : (a b g : ℕ) → IsGcd a b g → g ≡ gcd a b
gcd_from a b g h = same_from_IsGcd a b g (gcd a b) h (gcd_is a b)

pub gcd_comm : (a b : ℕ) → gcd a b ≡ gcd b a
gcd_comm a b = gcd_from b a (gcd a b) (IsGcd-swap a b (gcd a b) (gcd_is a b))

pub gcd_divides_left : (a b : ℕ) → gcd a b ∣ a
gcd_divides_left a b = (gcd_is a b).0

pub gcd_divides_right : (a b : ℕ) → gcd a b ∣ b
gcd_divides_right a b = (gcd_is a b).1

pub gcd_left : (a b : ℕ) → gcd a b * (a / gcd a b) ≡ a
gcd_left a b = mul-div_cancel' (gcd a b) (gcd_divides_left a b)

pub gcd_right : (a b : ℕ) → gcd a b * (b / gcd a b) ≡ b
gcd_right a b = mul-div_cancel' (gcd a b) (gcd_divides_right a b)

pub gcd_positive : (a b : ℕ) → 0 < b → 0 < gcd a b
gcd_positive a b some = pos_of_dvd_of_pos (gcd_divides_right a b) some

pub gcd_at_most : (a b : ℕ) → 0 < b → gcd a b ≤ b
gcd_at_most a b some = le_of_dvd some (gcd_divides_right a b)

-- a part of a positive number is positive
pub part_positive : (g m n : ℕ) → 0 < n → g * m ≡ n → 0 < m
part_positive g zero n some e = omega (arith, e)
part_positive g (suc m) n some e = omega arith

pub quotient_positive : (a b : ℕ) → 0 < b → 0 < b / gcd a b
quotient_positive a b some = part_positive (gcd a b) (b / gcd a b) b some (gcd_right a b)

pub gcd_one_left : (b : ℕ) → gcd 1 b ≡ 1
gcd_one_left b = eq-one_of_dvd-one (gcd_divides_left 1 b)

pub gcd_one_right : (a : ℕ) → gcd a 1 ≡ 1
gcd_one_right a = eq-one_of_dvd-one (gcd_divides_right a 1)

pub gcd_zero_left : (b : ℕ) → gcd 0 b ≡ b
gcd_zero_left b = sym (gcd_from 0 b b (dvd-zero b, dvd_refl b, λ d p q. q))

pub gcd_zero_right : (a : ℕ) → gcd a 0 ≡ a
gcd_zero_right a = gcd_comm a 0 ∙ gcd_zero_left a

pub gcd_same : (a : ℕ) → gcd a a ≡ a
gcd_same a = sym (gcd_from a a a (dvd_refl a, dvd_refl a, λ d p q. q))

-- a factor common to both numbers
pub IsGcd-mul : (k a b : ℕ) → 0 < k → IsGcd (k * a) (k * b) (k * gcd a b)
IsGcd-mul k a b some =
    let g = gcd_is a b in
    let h = gcd_is (k * a) (k * b) in
    let front : k ∣ gcd (k * a) (k * b) = h.2 k (dvd-mul_right k a) (dvd-mul_right k b) in
    let is : k * (gcd (k * a) (k * b) / k) ≡ gcd (k * a) (k * b) = mul-div_cancel' k front in
    let m = gcd (k * a) (k * b) / k in
    let left : m ∣ a = dvd_of_mul-dvd-mul_left m some (subst (λ n. n ∣ k * a) (sym is) h.0) in
    let right : m ∣ b = dvd_of_mul-dvd-mul_left m some (subst (λ n. n ∣ k * b) (sym is) h.1) in
    (mul-dvd-mul_left _ k g.0, mul-dvd-mul_left _ k g.1, λ d p q. dvd_trans d (h.2 d p q) (subst (λ n. n ∣ k * gcd a b) is (mul-dvd-mul_left _ k (g.2 m left right))))

pub gcd-mul : (k a b : ℕ) → 0 < k → gcd (k * a) (k * b) ≡ k * gcd a b
gcd-mul k a b some = sym (gcd_from (k * a) (k * b) (k * gcd a b) (IsGcd-mul k a b some))

-- ---- numbers with no common divisor but 1
pub coprime_from : (a b : ℕ) → ((d : ℕ) → d ∣ a → d ∣ b → d ∣ 1) → gcd a b ≡ 1
coprime_from a b h =
    eq-one_of_dvd-one (h (gcd a b) (gcd_divides_left a b) (gcd_divides_right a b))

pub coprime_comm : (a b : ℕ) → gcd a b ≡ 1 → gcd b a ≡ 1
coprime_comm a b e = gcd_comm b a ∙ e

pub coprime_common : (a b d : ℕ) → gcd a b ≡ 1 → d ∣ a → d ∣ b → d ∣ 1
coprime_common a b d e p q = subst (λ m. d ∣ m) e ((gcd_is a b).2 d p q)

-- Gauss: what divides a product and has nothing in common with one factor divides the other
pub coprime_divides : (a b c : ℕ) → gcd a b ≡ 1 → a ∣ b * c → a ∣ c
coprime_divides a b zero e h = dvd-zero a
coprime_divides a b (suc n) e h =
    let c = suc n in
    let both : a ∣ c * gcd a b = (IsGcd-mul c a b (omega arith)).2 a (dvd-mul_left a c) (subst (λ m. a ∣ m) (mul_comm b c) h) in
    subst (λ m. a ∣ m) (ap (λ m. c * m) e ∙ mul-one c) both

-- a divisor of one of them has nothing in common with the other
pub coprime_part : (a b d : ℕ) → gcd a b ≡ 1 → d ∣ a → gcd d b ≡ 1
coprime_part a b d e p =
    coprime_from d b (λ k q r. coprime_common a b k e (dvd_trans k q p) r)

pub coprime_part_right : (a b d : ℕ) → gcd a b ≡ 1 → d ∣ b → gcd a d ≡ 1
coprime_part_right a b d e p = coprime_comm d a (coprime_part b a d (coprime_comm a b e) p)

pub coprime-mul : (a b c : ℕ) → gcd a c ≡ 1 → gcd b c ≡ 1 → gcd (a * b) c ≡ 1
coprime-mul a b c e f =
    coprime_from (a * b) c (λ d p q. let apart : gcd d a ≡ 1 = coprime_comm a d (coprime_part_right a c d e q) in coprime_common b c d f (coprime_divides d a b apart p) q)

pub coprime-mul_right : (a b c : ℕ) → gcd a b ≡ 1 → gcd a c ≡ 1 → gcd a (b * c) ≡ 1
coprime-mul_right a b c e f =
    coprime_comm (b * c) a (coprime-mul b c a (coprime_comm a b e) (coprime_comm a c f))

-- once the greatest common divisor is taken out of both
pub quotients_coprime : (a b : ℕ) → 0 < b → gcd (a / gcd a b) (b / gcd a b) ≡ 1
quotients_coprime a b some =
    let g = gcd a b in
    let above : 0 < g = gcd_positive a b some in
    let e : g * gcd (a / g) (b / g) ≡ g * 1 = sym (gcd-mul g (a / g) (b / g) above) ∙ ap₂ gcd (gcd_left a b) (gcd_right a b) ∙ sym (mul-one g) in
    eq_of_mul-eq-mul_left g above (gcd (a / g) (b / g)) 1 e

-- a factor that has nothing in common with a number changes no divisor in common with it
pub gcd_drop : (s g m : ℕ) → gcd s m ≡ 1 → gcd s (g * m) ≡ gcd s g
gcd_drop s g m e =
    gcd_from s g (gcd s (g * m)) (gcd_divides_left s (g * m), coprime_divides (gcd s (g * m)) m g (coprime_part s m (gcd s (g * m)) e (gcd_divides_left s (g * m))) (subst (λ n. gcd s (g * m) ∣ n) (mul_comm g m) (gcd_divides_right s (g * m))), λ d p q. (gcd_is s (g * m)).2 d p (dvd_trans d q (dvd-mul_right g m)))

-- where a number is 1 or 0, for `grind`
pub gcd_at_one : (a b : ℕ) → (a ≡ 1) ⊎ (b ≡ 1) → gcd a b ≡ 1
gcd_at_one a b (inl e) = ap (λ n. gcd n b) e ∙ gcd_one_left b
gcd_at_one a b (inr e) = ap (gcd a) e ∙ gcd_one_right a

pub gcd_at_zero_left : (a b : ℕ) → a ≡ 0 → gcd a b ≡ b
gcd_at_zero_left a b e = ap (λ n. gcd n b) e ∙ gcd_zero_left b

pub gcd_at_zero_right : (a b : ℕ) → b ≡ 0 → gcd a b ≡ a
gcd_at_zero_right a b e = ap (gcd a) e ∙ gcd_zero_right a

pub ruleset gcd_facts = (gcd_positive, gcd_at_most, gcd_at_one, gcd_at_zero_left, gcd_at_zero_right)
