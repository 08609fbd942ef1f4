-- Products of two numbers of 64 bits fit 128 bits.
use Rattle.std.proofs.Common.{◌*◌, ◌≤◌, ◌^◌, ℤ, ◌*ℤ◌, unsigned_abs, arith, mul-le-mul_right, FitsSigned, w64}
use Rattle.std.proofs.Math.Nat.{mul-le-mul_left}
use Rattle.std.proofs.lemmas.Int.{ints, unsigned_abs-mul}
use mir.Syntax.{w128}

pub fits_product : (a b : ℤ) → FitsSigned w64 a → FitsSigned w64 b → FitsSigned w128 (a *ℤ b)
fits_product a b fits_a fits_b =
    let small_a : unsigned_abs a ≤ 2 ^ 63 = omega (arith, ints, fits_a) in
    let small_b : unsigned_abs b ≤ 2 ^ 63 = omega (arith, ints, fits_b) in
    let size = unsigned_abs-mul a b in
    let one : unsigned_abs a * unsigned_abs b ≤ unsigned_abs a * 2 ^ 63 = mul-le-mul_left (unsigned_abs a) small_b in
    let two : unsigned_abs a * 2 ^ 63 ≤ 2 ^ 63 * 2 ^ 63 = mul-le-mul_right (2 ^ 63) small_a in
    omega (arith, ints, size, one, two)
