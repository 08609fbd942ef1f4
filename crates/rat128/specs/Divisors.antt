-- The greatest common divisor, and lowest terms.
use Rattle.std.specs.Prelude.{ℕ, zero, suc, pred, ◌/◌, ◌%◌, cond, ◌==◌, pos, int_div, unsigned_abs}
use Rattle.rat128.specs.Fractions.{Fraction, den}

-- Euclid's remainders, at most the first number of them
unfoldable pub gcd_in : ℕ → ℕ → ℕ → ℕ
gcd_in zero a b = a
gcd_in (suc k) a b = cond (b == 0) a (gcd_in k b (a % b))

-- the greatest common divisor: b remainders are enough, since they fall
unfoldable pub gcd : ℕ → ℕ → ℕ
gcd a b = gcd_in b a b

-- the same number with the common divisor taken out of both numbers
unfoldable pub lowest : Fraction → Fraction
lowest p =
    let g = gcd (unsigned_abs p.num) (den p) in
    record { num = int_div p.num (pos g); less_one = pred (den p / g) }
