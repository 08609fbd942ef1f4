-- The laws of what `new`, `add`, `sub`, `mul` and `div` give: the number is the exact one. And that the private steps give the same.
use Rattle.std.proofs.Common.{◌≡◌, ◌≢◌, ℕ, zero, suc, ◌-◌, ◌*◌, ◌/◌, ◌^◌, ◌<◌, Bool, true, false, cond, ◌&&◌, eqb, nat_lt, List, [], ◌∷◌, Option, Some, None, IfSome, ℤ, pos, negsuc, ◌+ℤ◌, ◌*ℤ◌, neg_ℤ, unsigned_abs, int_div, refl, sym, ap, ap₂, ◌∙◌, subst, subst₂, arith, mul_assoc, mul-pos, zero-lt-suc, to_z, of_z, to_z-of_z}
use Rattle.std.specs.Int.{◌∣◌, w128}
use Rattle.std.specs.List.{list_all}
use Rattle.std.proofs.Math.IntN.{+ℤ_comm, neg_ℤ-neg_ℤ}
use Rattle.std.proofs.lemmas.Bool.{eqb-false, ltb-true}
use Rattle.std.proofs.lemmas.Int.{ints, unsigned_abs-mul, fits_signed_from_abs}
use Rattle.std.proofs.lemmas.Nat.Gcd.{dvd_trans}
use Rattle.std.proofs.Math.Nat.{dvd-mul_left}
use Rattle.rat128.specs.Integers.{diffs, diff-same, by_diff6, neg-*ℤ}
use Rattle.rat128.specs.Fractions.{Fraction, den, plus, times, minus, inverse}
use Rattle.rat128.specs.Rationals.{value, value_same, den_is, ◌+ℚ◌, ◌-ℚ◌, ◌*ℚ◌, ◌/ℚ◌, zero_ℚ, whole, value-plus, value-times, value-minus, value-inverse}
use Rattle.rat128.specs.Divisors.{gcd, lowest}
use Rattle.rat128.specs.Operations.{fits, IsRat, IsNarrow, if_fit, reduced, new_of, sum_parts, add_of, sub_of, product_parts, mul_of, div_of}
use Rattle.rat128.specs.Steps.{◌>>=◌, small, small_den, seen, sum_in_steps, product_in_steps}
use Rattle.rat128.proofs.Divisors.{gcd_left, gcd_right, coprime_from, coprime_common, coprime_comm, coprime_divides, coprime_part, coprime_part_right, coprime-mul, coprime-mul_right, quotients_coprime, gcd_drop, part_positive}
use Rattle.rat128.proofs.Lowest.{unsigned_abs-int_div, int_div_exact, value-lowest, coprime-lowest, lowest_unique, lowest_same, divides_other}
use Rattle.rat128.proofs.Rationals.{num_zero}

-- ---- the laws
some_is : {A : Type 0} (b : Bool) (p r : A) → cond b (Some p) None ≡ Some r → r ≡ p
some_is true p r e = cc
some_is false p r e = cc

pub if_fit_is : (judged : List ℤ) (p r : Fraction) → if_fit judged p ≡ Some r → r ≡ p
if_fit_is judged p r e = some_is (list_all fits judged) p r e

pub value-add_of : (p q r : Fraction) → add_of p q ≡ Some r → value r ≡ value p +ℚ value q
unfolding add_of
value-add_of p q r e =
    ap value (if_fit_is (sum_parts p q) (lowest (plus p q)) r e) ∙ value-lowest (plus p q) ∙ sym (value-plus p q)

pub value-sub_of : (p q r : Fraction) → sub_of p q ≡ Some r → value r ≡ value p -ℚ value q
value-sub_of p q r e =
    value-add_of p (minus q) r e ∙ ap (λ x. value p +ℚ x) (sym (value-minus q))

pub value-mul_of : (p q r : Fraction) → mul_of p q ≡ Some r → value r ≡ value p *ℚ value q
unfolding mul_of
value-mul_of p q r e =
    ap value (if_fit_is (product_parts p q) (lowest (times p q)) r e) ∙ value-lowest (times p q) ∙ sym (value-times p q)

-- a quotient is there only for a divisor other than 0
pub div_of_some : (p q r : Fraction) → div_of p q ≡ Some r → (value q ≢ zero_ℚ) × (mul_of p (inverse q) ≡ Some r)
unfolding div_of
div_of_some p q r e = decided (eqb (unsigned_abs q.num) 0) refl e
  where
    decided : (b : Bool) → eqb (unsigned_abs q.num) 0 ≡ b → cond b None (mul_of p (inverse q)) ≡ Some r → (value q ≢ zero_ℚ) × (mul_of p (inverse q) ≡ Some r)
    decided true t f = cc
    decided false t f = (λ z. eqb-false (unsigned_abs q.num) 0 t (ap unsigned_abs (num_zero q z)), f)

pub value-div_of : (p q r : Fraction) → div_of p q ≡ Some r → value r ≡ value p /ℚ value q
value-div_of p q r e =
    value-mul_of p (inverse q) r ((div_of_some p q r e).1) ∙ ap (λ x. value p *ℚ x) (sym (value-inverse q))

reduced_is : (p r : Fraction) → reduced p ≡ Some r → value r ≡ value p
reduced_is p r e =
    ap value (if_fit_is ((lowest p).num ∷ pos (den (lowest p)) ∷ []) (lowest p) r e) ∙ value-lowest p

pub value-new_of : (n d : ℤ) (r : Fraction) → new_of n d ≡ Some r → value r *ℚ whole d ≡ whole n
unfolding new_of
value-new_of n (pos zero) r e = cc
value-new_of n (pos (suc d)) r e =
    let p : Fraction = record { num = n; less_one = d } in
    ap (λ x. x *ℚ whole (pos (suc d))) (reduced_is p r e) ∙ value-times p (record { num = pos (suc d); less_one = 0 }) ∙ value_same (times p (record { num = pos (suc d); less_one = 0 })) (record { num = n; less_one = 0 }) (omega (arith, ints))
value-new_of n (negsuc d) r e =
    let p : Fraction = record { num = neg_ℤ n; less_one = d } in
    let twice : neg_ℤ n *ℤ negsuc d ≡ n *ℤ pos (suc d) = neg-*ℤ n (negsuc d) ∙ ap neg_ℤ (turned n d) ∙ neg_ℤ-neg_ℤ (n *ℤ pos (suc d)) in
    ap (λ x. x *ℚ whole (negsuc d)) (reduced_is p r e) ∙ value-times p (record { num = negsuc d; less_one = 0 }) ∙ value_same (times p (record { num = negsuc d; less_one = 0 })) (record { num = n; less_one = 0 }) (ap (λ z. z *ℤ pos 1) twice ∙ omega (arith, ints))
  where
    turned : (n : ℤ) (d : ℕ) → n *ℤ negsuc d ≡ neg_ℤ (n *ℤ pos (suc d))
    turned n d = omega (arith, ints)

-- ---- the same as clauses on a result
pub if_some : {A : Type 0} (P : A → Type 0) (o r : Option A) → r ≡ o → ((x : A) → o ≡ Some x → P x) → IfSome r P
if_some P o None e h = tt
if_some P o (Some x) e h = h x (sym e)

-- ---- the private steps
bind_cond : {A B : Type 0} (b : Bool) (x : A) (f : A → Option B) → (cond b (Some x) None >>= f) ≡ cond b (f x) None
bind_cond true x f = refl
bind_cond false x f = refl

four_fit : (w x y z : Bool) (p : Fraction) → cond w (cond x (cond y (cond z (Some p) None) None) None) None ≡ cond (w && (x && (y && (z && true)))) (Some p) None
four_fit false x y z p = refl
four_fit true false y z p = refl
four_fit true true false z p = refl
four_fit true true true false p = refl
four_fit true true true true p = refl

two_fit : (x y : Bool) (p : Fraction) → cond x (cond y (Some p) None) None ≡ cond (x && (y && true)) (Some p) None
two_fit false y p = refl
two_fit true false p = refl
two_fit true true p = refl

pub suc-less : (n : ℕ) → 0 < n → suc (n - 1) ≡ n
suc-less n some = omega arith

-- numbers over a common divisor of the denominators
over_common : (a c b d g e : ℤ) → (a *ℤ d +ℤ c *ℤ b) *ℤ (e *ℤ (g *ℤ d)) ≡ (a *ℤ (g *ℤ d) +ℤ c *ℤ (g *ℤ b)) *ℤ (e *ℤ d)
over_common =
    by_diff6 (λ a c b d g e. (a *ℤ d +ℤ c *ℤ b) *ℤ (e *ℤ (g *ℤ d)) ≡ (a *ℤ (g *ℤ d) +ℤ c *ℤ (g *ℤ b)) *ℤ (e *ℤ d)) (λ u v x y z w s t p q m n. simp diffs (diff-same _ _ _ _ (omega arith)))

same_sum : (a c : ℤ) (b d g b' d' : ℕ) → g * b' ≡ b → g * d' ≡ d → (a *ℤ pos d' +ℤ c *ℤ pos b') *ℤ pos (b * d) ≡ (a *ℤ pos d +ℤ c *ℤ pos b) *ℤ pos (b * d')
same_sum a c b d g b' d' e f =
    subst₂ (λ b d. (a *ℤ pos d' +ℤ c *ℤ pos b') *ℤ pos (b * d) ≡ (a *ℤ pos d +ℤ c *ℤ pos b) *ℤ pos (b * d')) e f (over_common a c (pos b') (pos d') (pos g) (pos (g * b')))

-- the sum over the product of the denominators and the sum over one denominator are one number
pub lowest-plus : (p q : Fraction) → let g = gcd (den p) (den q) in let s = p.num *ℤ pos (den q / g) +ℤ q.num *ℤ pos (den p / g) in lowest (seen s (den p * (den q / g))) ≡ lowest (plus p q)
lowest-plus p q =
    let g = gcd (den p) (den q) in
    let s = p.num *ℤ pos (den q / g) +ℤ q.num *ℤ pos (den p / g) in
    let m = den p * (den q / g) in
    let some : 0 < den q / g = part_positive g (den q / g) (den q) (zero-lt-suc q.less_one) (gcd_right (den p) (den q)) in
    let bottom : suc (m - 1) ≡ m = suc-less m (mul-pos (zero-lt-suc p.less_one) some) in
    lowest_same (seen s m) (plus p q) (ap (λ n. s *ℤ pos n) (den_is p.less_one q.less_one) ∙ same_sum p.num q.num (den p) (den q) g (den p / g) (den q / g) (gcd_left (den p) (den q)) (gcd_right (den p) (den q)) ∙ ap (λ n. (plus p q).num *ℤ pos n) (sym bottom))

sum_steps_fit : (x y : ℤ) (m : ℕ) → (small x >>= λ x. small y >>= λ y. small (x +ℤ y) >>= λ s. small_den m >>= λ m. Some (lowest (seen s m))) ≡ if_fit (x ∷ y ∷ (x +ℤ y) ∷ pos m ∷ []) (lowest (seen (x +ℤ y) m))
sum_steps_fit x y m =
    bind_cond (fits x) x (λ x. small y >>= λ y. small (x +ℤ y) >>= λ s. small_den m >>= λ m. Some (lowest (seen s m))) ∙ ap (λ r. cond (fits x) r None) (bind_cond (fits y) y (λ y. small (x +ℤ y) >>= λ s. small_den m >>= λ m. Some (lowest (seen s m))) ∙ ap (λ r. cond (fits y) r None) (bind_cond (fits (x +ℤ y)) (x +ℤ y) (λ s. small_den m >>= λ m. Some (lowest (seen s m))) ∙ ap (λ r. cond (fits (x +ℤ y)) r None) (bind_cond (nat_lt m (2 ^ 127)) m (λ m. Some (lowest (seen (x +ℤ y) m)))))) ∙ four_fit (fits x) (fits y) (fits (x +ℤ y)) (nat_lt m (2 ^ 127)) (lowest (seen (x +ℤ y) m))

sum_steps_of : (p q : Fraction) → sum_in_steps p.num (den p) q.num (den q) (gcd (den p) (den q)) ≡ add_of p q
unfolding add_of
sum_steps_of p q =
    let g = gcd (den p) (den q) in
    sum_steps_fit (p.num *ℤ pos (den q / g)) (q.num *ℤ pos (den p / g)) (den p * (den q / g)) ∙ ap (if_fit (sum_parts p q)) (lowest-plus p q)

pub sum_in_steps_is : (p q : Fraction) (b d g : ℕ) → b ≡ den p → d ≡ den q → g ≡ gcd b d → sum_in_steps p.num b q.num d g ≡ add_of p q
sum_in_steps_is p q b d g e f h =
    ap (sum_in_steps p.num b q.num d) h ∙ ap₂ (λ b d. sum_in_steps p.num b q.num d (gcd b d)) e f ∙ sum_steps_of p q

-- Knuth: of the greatest common divisor with the denominator of a sum, only that of the denominators counts
sum_apart : (a c : ℤ) (d b' d' : ℕ) → gcd (unsigned_abs c) d ≡ 1 → gcd b' d' ≡ 1 → d' ∣ d → gcd (unsigned_abs (a *ℤ pos d' +ℤ c *ℤ pos b')) d' ≡ 1
sum_apart a c d b' d' e f part =
    let x = a *ℤ pos d' in
    let y = c *ℤ pos b' in
    coprime_from (unsigned_abs (x +ℤ y)) d' (λ k p q. let left : k ∣ unsigned_abs x = subst (λ m. k ∣ m) (sym (unsigned_abs-mul a (pos d'))) (dvd_trans k q (dvd-mul_left d' (unsigned_abs a))) in let right : k ∣ unsigned_abs c * b' = subst (λ m. k ∣ m) (unsigned_abs-mul c (pos b')) (divides_other x y k p left) in let apart : gcd k (unsigned_abs c) ≡ 1 = coprime_part d (unsigned_abs c) k (coprime_comm (unsigned_abs c) d e) (dvd_trans k q part) in coprime_common b' d' k f (coprime_divides k (unsigned_abs c) b' apart right) q)

common_over_gcd : (a c : ℤ) (b d : ℕ) → IsRat a b → IsRat c d → let g = gcd b d in let s = unsigned_abs (a *ℤ pos (d / g) +ℤ c *ℤ pos (b / g)) in gcd s (b * (d / g)) ≡ gcd s g
common_over_gcd a c b d p q =
    let g = gcd b d in
    let b' = b / g in
    let d' = d / g in
    let s = unsigned_abs (a *ℤ pos d' +ℤ c *ℤ pos b') in
    let parts : gcd b' d' ≡ 1 = quotients_coprime b d q.positive in
    let below : d' ∣ d = subst (λ m. d' ∣ m) (gcd_right b d) (dvd-mul_left d' g) in
    let left : b' ∣ b = subst (λ m. b' ∣ m) (gcd_left b d) (dvd-mul_left b' g) in
    let apart_d : gcd s d' ≡ 1 = sum_apart a c d b' d' q.coprime parts below in
    let apart_b : gcd s b' ≡ 1 = ap (λ z. gcd (unsigned_abs z) b') (+ℤ_comm (a *ℤ pos d') (c *ℤ pos b')) ∙ sum_apart c a b d' b' p.coprime (coprime_comm b' d' parts) left in
    let e : b * d' ≡ g * (b' * d') = ap (λ n. n * d') (sym (gcd_left b d)) ∙ mul_assoc g b' d' in
    ap (gcd s) e ∙ gcd_drop s g (b' * d') (coprime-mul_right s b' d' apart_b apart_d)

pub common_of_sum : (a c : ℤ) (b d g : ℕ) → IsRat a b → IsRat c d → g ≡ gcd b d → gcd (unsigned_abs (a *ℤ pos (d / g) +ℤ c *ℤ pos (b / g))) (b * (d / g)) ≡ gcd (unsigned_abs (a *ℤ pos (d / g) +ℤ c *ℤ pos (b / g))) g
common_of_sum a c b d g p q h =
    subst (λ g. gcd (unsigned_abs (a *ℤ pos (d / g) +ℤ c *ℤ pos (b / g))) (b * (d / g)) ≡ gcd (unsigned_abs (a *ℤ pos (d / g) +ℤ c *ℤ pos (b / g))) g) (sym h) (common_over_gcd a c b d p q)

-- ---- the product
-- taking common factors out of both numbers of a product changes no cross product
product_same : (a' c' b' d' g h : ℤ) → (a' *ℤ c') *ℤ ((h *ℤ b') *ℤ (g *ℤ d')) ≡ ((a' *ℤ g) *ℤ (c' *ℤ h)) *ℤ (b' *ℤ d')
product_same =
    by_diff6 (λ a' c' b' d' g h. (a' *ℤ c') *ℤ ((h *ℤ b') *ℤ (g *ℤ d')) ≡ ((a' *ℤ g) *ℤ (c' *ℤ h)) *ℤ (b' *ℤ d')) (λ u v x y z w s t p q m n. simp diffs (diff-same _ _ _ _ (omega arith)))

product_lowest : (p q : Fraction) → IsNarrow p → IsNarrow q → let g = gcd (unsigned_abs p.num) (den q) in let h = gcd (unsigned_abs q.num) (den p) in seen (int_div p.num (pos g) *ℤ int_div q.num (pos h)) ((den p / h) * (den q / g)) ≡ lowest (times p q)
product_lowest p q u v =
    let a = unsigned_abs p.num in
    let b = den p in
    let c = unsigned_abs q.num in
    let d = den q in
    let g = gcd a d in
    let h = gcd c b in
    let a' = int_div p.num (pos g) in
    let c' = int_div q.num (pos h) in
    let b' = b / h in
    let d' = d / g in
    let some : 0 < b' * d' = mul-pos (part_positive h b' b u.positive (gcd_right c b)) (part_positive g d' d v.positive (gcd_right a d)) in
    let bottom : suc (b' * d' - 1) ≡ b' * d' = suc-less (b' * d') some in
    let left : a / g ∣ a = subst (λ m. a / g ∣ m) (gcd_left a d) (dvd-mul_left (a / g) g) in
    let right : c / h ∣ c = subst (λ m. c / h ∣ m) (gcd_left c b) (dvd-mul_left (c / h) h) in
    let under : b' ∣ b = subst (λ m. b' ∣ m) (gcd_right c b) (dvd-mul_left b' h) in
    let below : d' ∣ d = subst (λ m. d' ∣ m) (gcd_right a d) (dvd-mul_left d' g) in
    let ab : gcd (a / g) b' ≡ 1 = coprime_part a b' (a / g) (coprime_part_right a b b' u.coprime under) left in
    let ad : gcd (a / g) d' ≡ 1 = quotients_coprime a d v.positive in
    let cb : gcd (c / h) b' ≡ 1 = quotients_coprime c b u.positive in
    let cd : gcd (c / h) d' ≡ 1 = coprime_part c d' (c / h) (coprime_part_right c d d' v.coprime below) right in
    let apart : gcd ((a / g) * (c / h)) (b' * d') ≡ 1 = coprime-mul (a / g) (c / h) (b' * d') (coprime-mul_right (a / g) b' d' ab ad) (coprime-mul_right (c / h) b' d' cb cd) in
    let size : unsigned_abs (a' *ℤ c') ≡ (a / g) * (c / h) = unsigned_abs-mul a' c' ∙ ap₂ ◌*◌ (unsigned_abs-int_div p.num g) (unsigned_abs-int_div q.num h) in
    let cross : (a' *ℤ c') *ℤ pos (b * d) ≡ (p.num *ℤ q.num) *ℤ pos (b' * d') = ap₂ (λ m n. (a' *ℤ c') *ℤ pos (m * n)) (sym (gcd_right c b)) (sym (gcd_right a d)) ∙ product_same a' c' (pos b') (pos d') (pos g) (pos h) ∙ ap₂ (λ x y. (x *ℤ y) *ℤ pos (b' * d')) (int_div_exact p.num g (gcd_left a d)) (int_div_exact q.num h (gcd_left c b)) in
    lowest_unique (seen (a' *ℤ c') (b' * d')) (times p q) (ap₂ gcd size bottom ∙ apart) (ap (λ n. (a' *ℤ c') *ℤ pos n) (den_is p.less_one q.less_one) ∙ cross ∙ ap (λ n. (p.num *ℤ q.num) *ℤ pos n) (sym bottom))

-- a product is none only where a number of it in lowest terms does not fit
pub mul_of-reduced : (p q : Fraction) → IsNarrow p → IsNarrow q → mul_of p q ≡ reduced (times p q)
unfolding mul_of
mul_of-reduced p q u v =
    let g = gcd (unsigned_abs p.num) (den q) in
    let h = gcd (unsigned_abs q.num) (den p) in
    let m = (den p / h) * (den q / g) in
    let some : 0 < m = mul-pos (part_positive h (den p / h) (den p) u.positive (gcd_right (unsigned_abs q.num) (den p))) (part_positive g (den q / g) (den q) v.positive (gcd_right (unsigned_abs p.num) (den q))) in
    let is = product_lowest p q u v in
    ap₂ (λ n m. if_fit (n ∷ pos m ∷ []) (lowest (times p q))) (ap (λ s. s.num) is) (sym (suc-less m some) ∙ ap den is)

product_steps_fit : (x : ℤ) (m : ℕ) → (small x >>= λ n. small_den m >>= λ m. Some (seen n m)) ≡ if_fit (x ∷ pos m ∷ []) (seen x m)
product_steps_fit x m =
    bind_cond (fits x) x (λ n. small_den m >>= λ m. Some (seen n m)) ∙ ap (λ r. cond (fits x) r None) (bind_cond (nat_lt m (2 ^ 127)) m (λ m. Some (seen x m))) ∙ two_fit (fits x) (nat_lt m (2 ^ 127)) (seen x m)

product_steps_of : (p q : Fraction) → IsNarrow p → IsNarrow q → product_in_steps p.num (den p) q.num (den q) (gcd (unsigned_abs p.num) (den q)) (gcd (unsigned_abs q.num) (den p)) ≡ mul_of p q
unfolding mul_of
product_steps_of p q u v =
    let g = gcd (unsigned_abs p.num) (den q) in
    let h = gcd (unsigned_abs q.num) (den p) in
    product_steps_fit (int_div p.num (pos g) *ℤ int_div q.num (pos h)) ((den p / h) * (den q / g)) ∙ ap (if_fit (product_parts p q)) (product_lowest p q u v)

pub product_in_steps_is : (p q : Fraction) (b d g h : ℕ) → b ≡ den p → d ≡ den q → g ≡ gcd (unsigned_abs p.num) d → h ≡ gcd (unsigned_abs q.num) b → IsRat p.num b → IsRat q.num d → product_in_steps p.num b q.num d g h ≡ mul_of p q
product_in_steps_is p q b d g h e f k l u v =
    ap₂ (product_in_steps p.num b q.num d) k l ∙ ap₂ (λ b d. product_in_steps p.num b q.num d (gcd (unsigned_abs p.num) d) (gcd (unsigned_abs q.num) b)) e f ∙ product_steps_of p q (subst (IsRat p.num) e u) (subst (IsRat q.num) f v)

-- ---- what a caller of `add`, `sub`, `mul` and `div` learns of the number
pub IfSome-add_of : (p q : Fraction) (r : Option Fraction) → r ≡ add_of p q → IfSome r (λ s. value s ≡ value p +ℚ value q)
IfSome-add_of p q r e =
    if_some (λ s. value s ≡ value p +ℚ value q) (add_of p q) r e (value-add_of p q)

pub IfSome-sub_of : (p q : Fraction) (r : Option Fraction) → r ≡ sub_of p q → IfSome r (λ s. value s ≡ value p -ℚ value q)
IfSome-sub_of p q r e =
    if_some (λ s. value s ≡ value p -ℚ value q) (sub_of p q) r e (value-sub_of p q)

pub IfSome-new_of : (n d : ℤ) (r : Option Fraction) → r ≡ new_of n d → IfSome r (λ s. value s *ℚ whole d ≡ whole n)
IfSome-new_of n d r e =
    if_some (λ s. value s *ℚ whole d ≡ whole n) (new_of n d) r e (value-new_of n d)

pub IfSome-mul_of : (p q : Fraction) (r : Option Fraction) → r ≡ mul_of p q → IfSome r (λ s. value s ≡ value p *ℚ value q)
IfSome-mul_of p q r e =
    if_some (λ s. value s ≡ value p *ℚ value q) (mul_of p q) r e (value-mul_of p q)

pub IfSome-div_of : (p q : Fraction) (r : Option Fraction) → r ≡ div_of p q → IfSome r (λ s. value s ≡ value p /ℚ value q)
IfSome-div_of p q r e =
    if_some (λ s. value s ≡ value p /ℚ value q) (div_of p q) r e (value-div_of p q)

-- ---- the private calls
pub small_is : (z x : ℤ) → small z ≡ Some x → x ≡ z
small_is z x e = some_is (fits z) z x e

pub small_below : (z x : ℤ) → small z ≡ Some x → unsigned_abs x < 2 ^ 127
small_below z x e =
    subst (λ x. unsigned_abs x < 2 ^ 127) (sym (small_is z x e)) (ltb-true (unsigned_abs z) (2 ^ 127) (passed (fits z) z x e))
  where
    passed : (b : Bool) (z x : ℤ) → cond b (Some z) None ≡ Some x → b ≡ true
    passed true z x e = refl
    passed false z x e = cc

pub small_den_below : (n m : ℕ) → small_den n ≡ Some m → m < 2 ^ 127
small_den_below n m e =
    subst (λ m. m < 2 ^ 127) (sym (some_is (nat_lt n (2 ^ 127)) n m e)) (ltb-true n (2 ^ 127) (passed (nat_lt n (2 ^ 127)) n m e))
  where
    passed : (b : Bool) (n m : ℕ) → cond b (Some n) None ≡ Some m → b ≡ true
    passed true n m e = refl
    passed false n m e = cc

-- a number that fits is read back from its bits
pub small_bits : (z x : ℤ) → small z ≡ Some x → to_z w128 (of_z w128 x) ≡ z
small_bits z x e =
    to_z-of_z (fits_signed_from_abs w128 x (small_below z x e)) ∙ small_is z x e

pub small_den_is : (n m : ℕ) → small_den n ≡ Some m → m ≡ n
small_den_is n m e = some_is (nat_lt n (2 ^ 127)) n m e

pub add_of_seen : (a c : ℤ) (b d g : ℕ) → IsRat a b → IsRat c d → g ≡ gcd b d → sum_in_steps a b c d g ≡ add_of (seen a b) (seen c d)
add_of_seen a c b d g p q e =
    sum_in_steps_is (seen a b) (seen c d) b d g (sym (suc-less b p.positive)) (sym (suc-less d q.positive)) e

pub mul_of_seen : (a c : ℤ) (b d g h : ℕ) → IsRat a b → IsRat c d → g ≡ gcd (unsigned_abs a) d → h ≡ gcd (unsigned_abs c) b → product_in_steps a b c d g h ≡ mul_of (seen a b) (seen c d)
mul_of_seen a c b d g h p q e f =
    product_in_steps_is (seen a b) (seen c d) b d g h (sym (suc-less b p.positive)) (sym (suc-less d q.positive)) e f p q

pub den_positive : (b d g : ℕ) → 0 < b → 0 < d → g ≡ gcd b d → 0 < b * (d / g)
den_positive b d g some more e =
    let part : 0 < d / gcd b d = part_positive (gcd b d) (d / gcd b d) d more (gcd_right b d) in
    subst (λ g. 0 < b * (d / g)) (sym e) (mul-pos some part)

-- the two numbers of a product are those of a `Rat`
pub IsRat-product : (a c : ℤ) (b d g h m : ℕ) (n : ℤ) → IsRat a b → IsRat c d → g ≡ gcd (unsigned_abs a) d → h ≡ gcd (unsigned_abs c) b → n ≡ int_div a (pos g) *ℤ int_div c (pos h) → m ≡ (b / h) * (d / g) → unsigned_abs n < 2 ^ 127 → m < 2 ^ 127 → IsRat n m
IsRat-product a c b d g h m n p q eg eh en em above below =
    let b' : b ≡ suc (b - 1) = sym (suc-less b p.positive) in
    let d' : d ≡ suc (d - 1) = sym (suc-less d q.positive) in
    let eg' : gcd (unsigned_abs a) (suc (d - 1)) ≡ g = ap (gcd (unsigned_abs a)) (sym d') ∙ sym eg in
    let eh' : gcd (unsigned_abs c) (suc (b - 1)) ≡ h = ap (gcd (unsigned_abs c)) (sym b') ∙ sym eh in
    let num : int_div a (pos (gcd (unsigned_abs a) (suc (d - 1)))) *ℤ int_div c (pos (gcd (unsigned_abs c) (suc (b - 1)))) ≡ n = ap₂ (λ g h. int_div a (pos g) *ℤ int_div c (pos h)) eg' eh' ∙ sym en in
    let den' : (suc (b - 1) / gcd (unsigned_abs c) (suc (b - 1))) * (suc (d - 1) / gcd (unsigned_abs a) (suc (d - 1))) ≡ m = ap₂ (λ m n. m * n) (ap₂ ◌/◌ (sym b') eh') (ap₂ ◌/◌ (sym d') eg') ∙ sym em in
    let whole = product_lowest (seen a b) (seen c d) (subst (IsRat a) b' p) (subst (IsRat c) d' q) in
    let lowest_is : seen n m ≡ lowest (times (seen a b) (seen c d)) = sym (ap₂ seen num den') ∙ whole in
    let some : 0 < m = subst (λ m. 0 < m) (sym em) (mul-pos (subst (λ h. 0 < b / h) (sym eh) (part_positive (gcd (unsigned_abs c) b) (b / gcd (unsigned_abs c) b) b p.positive (gcd_right (unsigned_abs c) b))) (subst (λ g. 0 < d / g) (sym eg) (part_positive (gcd (unsigned_abs a) d) (d / gcd (unsigned_abs a) d) d q.positive (gcd_right (unsigned_abs a) d)))) in
    record {
      positive = some;
      num_small = above;
      den_small = below;
      coprime = ap (gcd (unsigned_abs n)) (sym (suc-less m some)) ∙ subst (λ r. gcd (unsigned_abs r.num) (den r) ≡ 1) (sym lowest_is) (coprime-lowest (times (seen a b) (seen c d)));
    }
