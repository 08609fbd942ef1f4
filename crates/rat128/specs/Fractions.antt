-- Fractions of any size as pairs of numbers: what `Rat` is seen as, and arithmetic on such pairs with no reduction.
use Rattle.std.specs.Prelude.{◌≡◌, ℕ, zero, suc, pred, ◌+◌, ◌*◌, ℤ, pos, negsuc, ◌+ℤ◌, ◌*ℤ◌, neg_ℤ, unsigned_abs}
use Rattle.std.specs.declared.cmp.Ordering.{Ordering}
use Rattle.std.specs.Ordering.{int_cmp}
use Rattle.std.specs.Int.{int_div_euclid}

-- a whole number over a positive one. The denominator is kept less one, so that no law asks whether it is 0
pub record Fraction : Type 0 where
  pub num : ℤ
  pub less_one : ℕ

-- the denominator
abbrev pub den : Fraction → ℕ
den p = suc p.less_one

-- a whole number over 1
abbrev pub whole_fraction : ℤ → Fraction
whole_fraction z = record { num = z; less_one = 0 }

-- two fractions are the same number: by cross products
abbrev pub Same : Fraction → Fraction → Type 0
Same p q = p.num *ℤ pos (den q) ≡ q.num *ℤ pos (den p)

-- which is the greater: by cross products
unfoldable pub order_of : Fraction → Fraction → Ordering
order_of p q = int_cmp (p.num *ℤ pos (den q)) (q.num *ℤ pos (den p))

-- the denominator of a product: suc (less_one of it) is the product of the two denominators
abbrev both : Fraction → Fraction → ℕ
both p q = p.less_one * q.less_one + p.less_one + q.less_one

-- the sum over the product of the denominators
abbrev pub plus : Fraction → Fraction → Fraction
plus p q = record { num = p.num *ℤ pos (den q) +ℤ q.num *ℤ pos (den p); less_one = both p q }

-- the product of the numerators over that of the denominators
abbrev pub times : Fraction → Fraction → Fraction
times p q = record { num = p.num *ℤ q.num; less_one = both p q }

-- the negated fraction
abbrev pub minus : Fraction → Fraction
minus p = record { num = neg_ℤ p.num; less_one = p.less_one }

-- d with the sign of z, and 0 where z is 0
abbrev pub with_sign : ℤ → ℕ → ℤ
with_sign (pos zero) d = pos zero
with_sign (pos (suc n)) d = pos d
with_sign (negsuc n) d = neg_ℤ (pos d)

-- the two numbers exchanged, with the sign above; that of 0 is 0
abbrev pub inverse : Fraction → Fraction
inverse p = record { num = with_sign p.num (den p); less_one = pred (unsigned_abs p.num) }

-- the greatest whole number that is at most p, and the least that is at least p
unfoldable pub floor_of : Fraction → ℤ
floor_of p = int_div_euclid p.num (pos (den p))

unfoldable pub ceil_of : Fraction → ℤ
ceil_of p = neg_ℤ (floor_of (minus p))
