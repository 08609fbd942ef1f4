-- Numbers over a denominator.
use Rattle.std.proofs.Common.{◌≡◌, ◌∙◌, sym, refl, ℕ, ◌<◌, ℤ, pos, ◌+ℤ◌, ◌*ℤ◌, ◌≤ℤ◌, Bool, true, false, arith}
use Rattle.std.specs.Prelude.{int_le}
use Rattle.std.proofs.lemmas.Int.{ints}
use Rattle.std.proofs.Math.IntN.{*ℤ_comm, *ℤ-one, *ℤ-zero}
use Rattle.prov_fold.proofs.Rings.{+ℤ-*ℤ}
use Rattle.prov_fold.proofs.Products.{≤ℤ-*ℤ}

-- none of d is 0
pub zero_d : (d : ℕ) → pos 0 *ℤ pos d ≡ pos 0
zero_d d = *ℤ_comm (pos 0) (pos d) ∙ *ℤ-zero (pos d)

-- once d is d
pub one_times : (d : ℕ) → pos d ≡ pos 1 *ℤ pos d
unfolding lib.IntN.one
one_times d = sym (*ℤ_comm (pos 1) (pos d) ∙ *ℤ-one (pos d))

-- over 1 a number is itself
pub times_one : (n : ℤ) → n *ℤ pos 1 ≡ n
unfolding lib.IntN.one
times_one n = *ℤ-one n

no_more : (ad bd cd od : ℤ) (d : ℕ) → ad ≤ℤ bd → cd ≤ℤ ad → cd ≡ bd +ℤ od → od ≡ pos d → 0 < d → ⊥
no_more ad bd cd od d h more split one some = omega (arith, ints)

cancel_by : (a b : ℤ) (d : ℕ) (t : Bool) → int_le a b ≡ t → 0 < d → (a *ℤ pos d) ≤ℤ (b *ℤ pos d) → a ≤ℤ b
cancel_by a b d true e some h = grind (arith, ints)
cancel_by a b d false e some h =
    let less : (b +ℤ pos 1) ≤ℤ a = grind (arith, ints) in
    absurd (no_more (a *ℤ pos d) (b *ℤ pos d) ((b +ℤ pos 1) *ℤ pos d) (pos 1 *ℤ pos d) d h (≤ℤ-*ℤ (b +ℤ pos 1) a d less) (+ℤ-*ℤ b (pos 1) (pos d)) (sym (one_times d)) some)

-- what is not above over d is not above
pub cancel_le : (a b : ℤ) (d : ℕ) → 0 < d → (a *ℤ pos d) ≤ℤ (b *ℤ pos d) → a ≤ℤ b
cancel_le a b d some h = cancel_by a b d (int_le a b) refl some h

both_le : (a b : ℤ) → a ≤ℤ b → b ≤ℤ a → a ≡ b
both_le a b h k = omega (arith, ints)

same_le : (a b : ℤ) → a ≡ b → a ≤ℤ b
same_le a b h = omega (arith, ints)

-- what is equal over d is equal
pub cancel_is : (a b : ℤ) (d : ℕ) → 0 < d → a *ℤ pos d ≡ b *ℤ pos d → a ≡ b
cancel_is a b d some e = both_le a b (cancel_le a b d some (same_le _ _ e)) (cancel_le b a d some (same_le _ _ (sym e)))
