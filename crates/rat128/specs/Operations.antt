-- What the calls of `Rat` give: the exact fraction in lowest terms, or None exactly where a number on which the call is judged passes 2 ^ 127 - 1 in size.
use Rattle.std.specs.Prelude.{◌≡◌, ℕ, zero, suc, ◌*◌, ◌/◌, ◌<◌, ◌^◌, cond, ◌==◌, nat_lt, Bool, List, [], ◌∷◌, ℤ, pos, negsuc, ◌+ℤ◌, ◌*ℤ◌, neg_ℤ, int_div, unsigned_abs, Option, Some, None}
use Rattle.std.specs.List.{list_all}
use Rattle.rat128.specs.Fractions.{Fraction, den, plus, times, minus, inverse}
use Rattle.rat128.specs.Divisors.{gcd, lowest}

-- at most 2 ^ 127 - 1 in size
abbrev pub fits : ℤ → Bool
fits z = nat_lt (unsigned_abs z) (2 ^ 127)

-- what every `Rat` is: a fraction in lowest terms whose two numbers fit
pub record IsRat (num : ℤ) (bottom : ℕ) : Type 0 where
  pub positive : 0 < bottom
  pub num_small : unsigned_abs num < 2 ^ 127
  pub den_small : bottom < 2 ^ 127
  pub coprime : gcd (unsigned_abs num) bottom ≡ 1

-- the same of a fraction
abbrev pub IsNarrow : Fraction → Type 0
IsNarrow p = IsRat p.num (den p)

-- the fraction, where the numbers on which it is judged fit
abbrev pub if_fit : List ℤ → Fraction → Option Fraction
if_fit judged p = cond (list_all fits judged) (Some p) None

-- a fraction in lowest terms, judged on its two numbers
abbrev pub reduced : Fraction → Option Fraction
reduced p = let r = lowest p in if_fit (r.num ∷ pos (den r) ∷ []) r

-- the quotient of two whole numbers: none by 0
unfoldable pub new_of : ℤ → ℤ → Option Fraction
new_of n (pos zero) = None
new_of n (pos (suc d)) = reduced (record { num = n; less_one = d })
new_of n (negsuc d) = reduced (record { num = neg_ℤ n; less_one = d })

-- the sum of a/b and c/d is judged on a(d/g), c(b/g), their sum and b(d/g), where g is the greatest common divisor of b and d
abbrev pub sum_parts : Fraction → Fraction → List ℤ
sum_parts p q =
    let g = gcd (den p) (den q) in
    let x = p.num *ℤ pos (den q / g) in
    let y = q.num *ℤ pos (den p / g) in
    x ∷ y ∷ (x +ℤ y) ∷ pos (den p * (den q / g)) ∷ []

unfoldable pub add_of : Fraction → Fraction → Option Fraction
add_of p q = if_fit (sum_parts p q) (lowest (plus p q))

-- the difference is the sum with the negated fraction
abbrev pub sub_of : Fraction → Fraction → Option Fraction
sub_of p q = add_of p (minus q)

-- the product of a/b and c/d is judged on its two numbers, once a and d, and c and b, are divided by their greatest common divisors
abbrev pub product_parts : Fraction → Fraction → List ℤ
product_parts p q =
    let g = gcd (unsigned_abs p.num) (den q) in
    let h = gcd (unsigned_abs q.num) (den p) in
    (int_div p.num (pos g) *ℤ int_div q.num (pos h)) ∷ pos ((den p / h) * (den q / g)) ∷ []

unfoldable pub mul_of : Fraction → Fraction → Option Fraction
mul_of p q = if_fit (product_parts p q) (lowest (times p q))

-- the quotient is the product with the inverse: none by 0
unfoldable pub div_of : Fraction → Fraction → Option Fraction
div_of p q = cond (unsigned_abs q.num == 0) None (mul_of p (inverse q))
