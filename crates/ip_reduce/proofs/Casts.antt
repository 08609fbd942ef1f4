-- Numbers of 64 bits, as they are compared and as numbers of 128 bits.
use Rattle.std.proofs.Common.{◌≡◌, ◌≤◌, ◌^◌, ◌∙◌, ℤ, unsigned_abs, FitsSigned, to_z, of_z, w64, Bool, true, false, eqb, refl, sym, ap, arith}
use Rattle.std.proofs.Math.Facts.{to_z-of_z}
use Rattle.std.proofs.lemmas.Bool.{eq-eqb, ne_eqb, false≢true}
use Rattle.std.proofs.lemmas.Bool.Decides.{Decides-int_eq}
use Rattle.std.proofs.lemmas.Int.{ints, fits_signed_from_abs}
use Rattle.std.specs.Ordering.{int_eq}
use mir.Syntax.{w128}

module _ (x y : ℤ) (fits_x : FitsSigned w64 x) (fits_y : FitsSigned w64 y) where
  pub same_number : of_z w64 x ≡ of_z w64 y → x ≡ y
  same_number e = sym (to_z-of_z fits_x) ∙ ap (to_z w64) e ∙ to_z-of_z fits_y

  pub bits_equal : eqb (of_z w64 x) (of_z w64 y) ≡ int_eq x y
  bits_equal = by_test (int_eq x y) refl
    where
      by_test : (b : Bool) → int_eq x y ≡ b → eqb (of_z w64 x) (of_z w64 y) ≡ b
      by_test true e = eq-eqb (of_z w64 x) (of_z w64 y) (ap (of_z w64) ((Decides-int_eq x y).0 e))
      by_test false e = ne_eqb (of_z w64 x) (of_z w64 y) (λ same. false≢true (sym e ∙ (Decides-int_eq x y).1 (same_number same)))

-- what has 64 bits has 128
pub fits_wider : (x : ℤ) → FitsSigned w64 x → FitsSigned w128 x
fits_wider x fits = let small : unsigned_abs x ≤ 2 ^ 63 = omega (arith, ints, fits) in fits_signed_from_abs w128 x (omega arith)
