-- The order of whole numbers under products.
use Rattle.std.proofs.Common.{ℕ, ◌+◌, ◌*◌, ◌<◌, ◌≤◌, ℤ, pos, ◌*ℤ◌, ◌≤ℤ◌, ◌<ℤ◌, arith, mul-le-mul_right, mul-lt-mul_of_pos_right}
use Rattle.std.proofs.lemmas.Int.{ints}
use borrow.Author.Differences.{up, down}

pub ≤ℤ-*ℤ : (a b : ℤ) (k : ℕ) → a ≤ℤ b → (a *ℤ pos k) ≤ℤ (b *ℤ pos k)
≤ℤ-*ℤ a b k h =
    let e : up a + down b ≤ up b + down a = omega (arith, ints) in
    let f : (up a + down b) * k ≤ (up b + down a) * k = mul-le-mul_right k e in
    omega (arith, ints)

pub <ℤ-*ℤ : (a b : ℤ) (k : ℕ) → 0 < k → a <ℤ b → (a *ℤ pos k) <ℤ (b *ℤ pos k)
<ℤ-*ℤ a b k some h =
    let e : up a + down b < up b + down a = omega (arith, ints) in
    let f : (up a + down b) * k < (up b + down a) * k = mul-lt-mul_of_pos_right e some in
    omega (arith, ints)
