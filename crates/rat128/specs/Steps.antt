-- The operations step by step, as the private functions take them. Public contracts cite none of this.
use Rattle.std.specs.Prelude.{◌≡◌, ◌+◌, ◌<◌, ℕ, ◌*◌, ◌/◌, ◌%◌, ◌-◌, ◌^◌, cond, nat_lt, Bool, true, false, ℤ, pos, ◌+ℤ◌, ◌*ℤ◌, neg_ℤ, int_div, Option, Some, None, List, decimal}
use Rattle.std.proofs.Common.{arith}
use Rattle.std.specs.declared.cmp.Ordering.{Ordering}
use Rattle.std.specs.declared.cmp.Ordering.TheVariants.{Less, Greater}
use Rattle.std.specs.Fmt.{signed_decimal}
use Rattle.std.specs.Ordering.{ordering_reverse}
use Rattle.rat128.specs.Fractions.{Fraction, den}
use Rattle.rat128.specs.Divisors.{lowest}
use Rattle.rat128.specs.Operations.{fits}

infixl 10 ◌>>=◌
abbrev pub ◌>>=◌ : {A B : Type 0} → Option A → (A → Option B) → Option B
Some a >>= f = f a
None >>= f = None

-- a number, where it fits
abbrev pub small : ℤ → Option ℤ
small z = cond (fits z) (Some z) None

-- a denominator, where it fits
abbrev pub small_den : ℕ → Option ℕ
small_den n = cond (nat_lt n (2 ^ 127)) (Some n) None

-- the halves back from a number of 256 bits
pub high_back : (low high : ℕ) → low < 2 ^ 128 → (low + high * 2 ^ 128) / 2 ^ 128 ≡ high
high_back low high h = omega arith

pub low_back : (low high : ℕ) → low < 2 ^ 128 → (low + high * 2 ^ 128) % 2 ^ 128 ≡ low
low_back low high h = omega arith

-- a number of this size, negative where it is so marked
abbrev pub signed : ℕ → Bool → ℤ
signed n negative = cond negative (neg_ℤ (pos n)) (pos n)

-- how two numbers compare, by whether each is negative and by how their sizes compare
abbrev pub order_by_signs : Bool → Bool → Ordering → Ordering
order_by_signs false false sizes = sizes
order_by_signs false true sizes = Greater
order_by_signs true false sizes = Less
order_by_signs true true sizes = ordering_reverse sizes

-- the fraction that two numbers are seen as
abbrev pub seen : ℤ → ℕ → Fraction
seen n d = record { num = n; less_one = d - 1 }

-- the denominator back from a fraction that it is seen in
pub den_back : (d : ℕ) → 0 < d → d - 1 + 1 ≡ d
den_back d some = omega arith

-- the sum, over the greatest common divisor g of the denominators
abbrev pub sum_in_steps : ℤ → ℕ → ℤ → ℕ → ℕ → Option Fraction
sum_in_steps a b c d g = do
  x ← small (a *ℤ pos (d / g))
  y ← small (c *ℤ pos (b / g))
  s ← small (x +ℤ y)
  m ← small_den (b * (d / g))
  Some (lowest (seen s m))

-- the product, over the greatest common divisors g of a and d, and h of c and b
abbrev pub product_in_steps : ℤ → ℕ → ℤ → ℕ → ℕ → ℕ → Option Fraction
product_in_steps a b c d g h = do
  n ← small (int_div a (pos g) *ℤ int_div c (pos h))
  m ← small_den ((b / h) * (d / g))
  Some (seen n m)

-- the two numbers of a fraction are spelled so
pub record AreTexts (p : Fraction) (num bottom : List ℕ) : Type 0 where
  pub num_text : signed_decimal p.num ≡ num
  pub den_text : decimal (den p) ≡ bottom
