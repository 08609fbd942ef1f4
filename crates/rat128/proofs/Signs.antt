-- Signs apart from sizes: what `new`, `negated` and `div` rest on.
use Rattle.std.proofs.Common.{◌≡◌, ◌≢◌, ◌⊎◌, inl, inr, ℕ, zero, suc, ◌-◌, ◌/◌, ◌^◌, ◌<◌, ◌≤◌, Bool, true, false, not, cond, ◌&&◌, [], ◌∷◌, Some, None, ℤ, pos, negsuc, ◌-ℤ◌, neg_ℤ, unsigned_abs, int_div, int_lt, refl, sym, ap, ap₂, ◌∙◌, subst, arith, le-ltb, lt-ltb, eqb, ne_eqb, FitsSigned, to_z, of_z, to_z-of_z}
use Rattle.std.specs.Int.{w128}
use Rattle.std.proofs.lemmas.Bool.{cond-true, cond-false, and_left, and_right, and_from}
use Rattle.std.proofs.lemmas.Int.{ints, fits_signed_from_abs}
use Rattle.std.proofs.Math.Nat.{zero-div}
use mathlib.Core.Bool.{beq}
use Rattle.rat128.specs.Fractions.{Fraction, den, inverse}
use Rattle.rat128.specs.Divisors.{gcd, lowest}
use Rattle.rat128.specs.Operations.{fits, IsRat, if_fit, reduced, new_of, mul_of, div_of}
use Rattle.rat128.specs.Steps.{signed, seen}
use Rattle.rat128.proofs.Divisors.{coprime_comm, quotient_positive, quotients_coprime}
use Rattle.rat128.proofs.Lowest.{unsigned_abs-neg, unsigned_abs-int_div, seen-lowest}
use Rattle.rat128.proofs.Operations.{suc-less}

one_less : (d : ℕ) → suc d - 1 ≡ d
one_less d = omega arith

-- ---- a sign and a size
pub unsigned_abs-signed : (n : ℕ) (b : Bool) → unsigned_abs (signed n b) ≡ n
unsigned_abs-signed n true = unsigned_abs-neg n
unsigned_abs-signed n false = refl

pub signed-int_div : (n g : ℕ) (b : Bool) → signed (n / g) b ≡ int_div (signed n b) (pos g)
signed-int_div n g false = refl
signed-int_div zero g true = ap (λ m. neg_ℤ (pos m)) (zero-div g) ∙ sym (ap pos (zero-div g))
signed-int_div (suc n) g true = refl

pub unsigned_abs-neg_ℤ : (a : ℤ) → unsigned_abs (neg_ℤ a) ≡ unsigned_abs a
unsigned_abs-neg_ℤ (pos n) = unsigned_abs-neg n
unsigned_abs-neg_ℤ (negsuc n) = refl

-- ---- the fraction of two sizes
reduced_is : (z : ℤ) (d g : ℕ) → 0 < d → g ≡ gcd (unsigned_abs z) d → reduced (seen z d) ≡ if_fit (int_div z (pos g) ∷ pos (d / g) ∷ []) (seen (int_div z (pos g)) (d / g))
reduced_is z d g some e =
    let low : lowest (seen z d) ≡ seen (int_div z (pos g)) (d / g) = sym (seen-lowest z d d g some refl e) in
    let part : 0 < d / g = subst (λ g. 0 < d / g) (sym e) (quotient_positive (unsigned_abs z) d some) in
    ap (λ r. if_fit (r.num ∷ pos (den r) ∷ []) r) low ∙ ap (λ m. if_fit (int_div z (pos g) ∷ pos m ∷ []) (seen (int_div z (pos g)) (d / g))) (suc-less (d / g) part)

pub reduced_some : (n d g : ℕ) (b : Bool) → 0 < d → g ≡ gcd n d → n / g < 2 ^ 127 → d / g < 2 ^ 127 → Some (seen (signed (n / g) b) (d / g)) ≡ reduced (seen (signed n b) d)
reduced_some n d g b some e h k =
    let size : unsigned_abs (int_div (signed n b) (pos g)) ≡ n / g = unsigned_abs-int_div (signed n b) g ∙ ap (λ m. m / g) (unsigned_abs-signed n b) in
    let top : fits (int_div (signed n b) (pos g)) ≡ true = lt-ltb _ (2 ^ 127) (subst (λ m. m < 2 ^ 127) (sym size) h) in
    let bottom : (fits (pos (d / g)) && true) ≡ true = and_from (fits (pos (d / g))) true (lt-ltb (d / g) (2 ^ 127) k) refl in
    ap (λ z. Some (seen z (d / g))) (signed-int_div n g b) ∙ sym (cond-true (fits (int_div (signed n b) (pos g)) && (fits (pos (d / g)) && true)) (Some (seen (int_div (signed n b) (pos g)) (d / g))) None (and_from (fits (int_div (signed n b) (pos g))) (fits (pos (d / g)) && true) top bottom)) ∙ sym (reduced_is (signed n b) d g some (e ∙ ap (λ m. gcd m d) (sym (unsigned_abs-signed n b))))

pub reduced_none : (n d g : ℕ) (b : Bool) → 0 < d → g ≡ gcd n d → (2 ^ 127 ≤ n / g) ⊎ (2 ^ 127 ≤ d / g) → None ≡ reduced (seen (signed n b) d)
reduced_none n d g b some e h =
    let size : unsigned_abs (int_div (signed n b) (pos g)) ≡ n / g = unsigned_abs-int_div (signed n b) g ∙ ap (λ m. m / g) (unsigned_abs-signed n b) in
    sym (cond-false (fits (int_div (signed n b) (pos g)) && (fits (pos (d / g)) && true)) (Some (seen (int_div (signed n b) (pos g)) (d / g))) None (failed size h)) ∙ sym (reduced_is (signed n b) d g some (e ∙ ap (λ m. gcd m d) (sym (unsigned_abs-signed n b))))
  where
    failed : unsigned_abs (int_div (signed n b) (pos g)) ≡ n / g → (2 ^ 127 ≤ n / g) ⊎ (2 ^ 127 ≤ d / g) → (fits (int_div (signed n b) (pos g)) && (fits (pos (d / g)) && true)) ≡ false
    failed size (inl above) = and_left (fits (int_div (signed n b) (pos g))) (fits (pos (d / g)) && true) (le-ltb _ (2 ^ 127) (subst (λ m. 2 ^ 127 ≤ m) (sym size) above))
    failed size (inr above) = and_right (fits (int_div (signed n b) (pos g))) (fits (pos (d / g)) && true) (and_left (fits (pos (d / g))) true (le-ltb (d / g) (2 ^ 127) above))

pub IsRat-signed : (n d g : ℕ) (b : Bool) → 0 < d → g ≡ gcd n d → n / g < 2 ^ 127 → d / g < 2 ^ 127 → IsRat (signed (n / g) b) (d / g)
IsRat-signed n d g b some e h k = record {
  positive = subst (λ g. 0 < d / g) (sym e) (quotient_positive n d some);
  num_small = subst (λ m. m < 2 ^ 127) (sym (unsigned_abs-signed (n / g) b)) h;
  den_small = k;
  coprime = ap (λ m. gcd m (d / g)) (unsigned_abs-signed (n / g) b) ∙ subst (λ g. gcd (n / g) (d / g) ≡ 1) (sym e) (quotients_coprime n d some);
}

-- ---- the sign of a quotient
negative : ℤ → Bool
negative (pos n) = false
negative (negsuc n) = true

is_negative : (z : ℤ) → int_lt z (pos 0) ≡ negative z
unfolding negative
is_negative (pos n) = le-ltb n 0 (omega arith)
is_negative (negsuc n) = refl

by_signs : (n d : ℤ) → d ≢ pos 0 → reduced (seen (signed (unsigned_abs n) (not (beq (negative n) (negative d)))) (unsigned_abs d)) ≡ new_of n d
unfolding new_of negative
by_signs n (pos zero) ne = absurd (ne refl)
by_signs (pos n) (pos (suc d)) ne = ap (λ m. reduced (record { num = pos n; less_one = m })) (one_less d)
by_signs (negsuc n) (pos (suc d)) ne = ap (λ m. reduced (record { num = negsuc n; less_one = m })) (one_less d)
by_signs (pos n) (negsuc d) ne = ap (λ m. reduced (record { num = neg_ℤ (pos n); less_one = m })) (one_less d)
by_signs (negsuc n) (negsuc d) ne = ap (λ m. reduced (record { num = pos (suc n); less_one = m })) (one_less d)

pub new_by_size : (n d : ℤ) → d ≢ pos 0 → reduced (seen (signed (unsigned_abs n) (not (beq (int_lt n (pos 0)) (int_lt d (pos 0))))) (unsigned_abs d)) ≡ new_of n d
new_by_size n d ne =
    ap₂ (λ s t. reduced (seen (signed (unsigned_abs n) (not (beq s t))) (unsigned_abs d))) (is_negative n) (is_negative d) ∙ by_signs n d ne

pub new_by_zero : (n d : ℤ) → d ≡ pos 0 → None ≡ new_of n d
unfolding new_of
new_by_zero n d e = ap (new_of n) (sym e)

-- ---- the negated fraction, and the inverse
pub IsRat-neg : (a : ℤ) (b : ℕ) → IsRat a b → IsRat (neg_ℤ a) b
IsRat-neg a b p = record {
  positive = p.positive;
  num_small = subst (λ m. m < 2 ^ 127) (sym (unsigned_abs-neg_ℤ a)) p.num_small;
  den_small = p.den_small;
  coprime = ap (λ m. gcd m b) (unsigned_abs-neg_ℤ a) ∙ p.coprime;
}

pub IsRat-inverse : (c : ℤ) (d : ℕ) (b : Bool) → IsRat c d → c ≢ pos 0 → IsRat (signed d b) (unsigned_abs c)
IsRat-inverse c d b p ne = record {
  positive = some c ne;
  num_small = subst (λ m. m < 2 ^ 127) (sym (unsigned_abs-signed d b)) p.den_small;
  den_small = p.num_small;
  coprime = ap (λ m. gcd m (unsigned_abs c)) (unsigned_abs-signed d b) ∙ coprime_comm (unsigned_abs c) d p.coprime;
}
  where
    some : (c : ℤ) → c ≢ pos 0 → 0 < unsigned_abs c
    some (pos zero) ne = absurd (ne refl)
    some (pos (suc n)) ne = omega arith
    some (negsuc n) ne = omega arith

pub inverse_by_size : (c : ℤ) (d : ℕ) → 0 < d → c ≢ pos 0 → seen (signed d (int_lt c (pos 0))) (unsigned_abs c) ≡ inverse (seen c d)
unfolding negative
inverse_by_size c d some ne =
    ap (λ b. seen (signed d b) (unsigned_abs c)) (is_negative c) ∙ by_sign c ne
  where
    by_sign : (c : ℤ) → c ≢ pos 0 → seen (signed d (negative c)) (unsigned_abs c) ≡ inverse (seen c d)
    by_sign (pos zero) ne = absurd (ne refl)
    by_sign (pos (suc n)) ne = ap₂ (λ d m. record { num = pos d; less_one = m }) (sym (suc-less d some)) (one_less n)
    by_sign (negsuc n) ne = ap₂ (λ d m. record { num = neg_ℤ (pos d); less_one = m }) (sym (suc-less d some)) (one_less n)

pub div_by_zero : (p q : Fraction) → q.num ≡ pos 0 → None ≡ div_of p q
unfolding div_of
div_by_zero p q e =
    ap (λ z. cond (eqb (unsigned_abs z) 0) None (mul_of p (inverse q))) (sym e)

pub div_by_inverse : (p q : Fraction) → q.num ≢ pos 0 → mul_of p (inverse q) ≡ div_of p q
unfolding div_of
div_by_inverse p q ne =
    sym (cond-false (eqb (unsigned_abs q.num) 0) None (mul_of p (inverse q)) (apart q.num ne))
  where
    apart : (z : ℤ) → z ≢ pos 0 → eqb (unsigned_abs z) 0 ≡ false
    apart z ne = ne_eqb (unsigned_abs z) 0 (λ e. ne (omega (arith, ints)))

-- ---- what the code's bits are
pub neg_bits : (a : ℤ) → unsigned_abs a < 2 ^ 127 → to_z w128 (of_z w128 (pos 0 -ℤ to_z w128 (of_z w128 a))) ≡ neg_ℤ a
neg_bits a h =
    let there : to_z w128 (of_z w128 a) ≡ a = to_z-of_z (fits_signed_from_abs w128 a h) in
    let turned : pos 0 -ℤ a ≡ neg_ℤ a = omega (arith, ints) in
    let fits : FitsSigned w128 (neg_ℤ a) = fits_signed_from_abs w128 (neg_ℤ a) (subst (λ m. m < 2 ^ 127) (sym (unsigned_abs-neg_ℤ a)) h) in
    ap (λ z. to_z w128 (of_z w128 (pos 0 -ℤ z))) there ∙ ap (λ z. to_z w128 (of_z w128 z)) turned ∙ to_z-of_z fits

pub zero_bits : (a : ℤ) → FitsSigned w128 a → of_z w128 a ≡ 0 → a ≡ pos 0
zero_bits a f e = sym (to_z-of_z f) ∙ ap (to_z w128) e

pub not_zero_bits : (a : ℤ) → (of_z w128 a ≡ 0 → ⊥) → a ≢ pos 0
not_zero_bits a ne e = ne (ap (of_z w128) e)
