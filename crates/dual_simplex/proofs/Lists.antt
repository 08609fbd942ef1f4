-- The measure of the path: where the first numbers rise there is less room.
use Rattle.std.proofs.Common.{◌≡◌, ℕ, zero, suc, ◌<◌, inl, inr, length, refl, sym, ◌∙◌, ap, arith}
use Rattle.rat128.specs.Fractions.{Fraction}
use Rattle.rat128.specs.Rationals.{value, ◌<ℚ◌}
use Rattle.rat128.specs.Operations.{IsNarrow}
use Rattle.dual_simplex.specs.Rising.{Rises, AreNarrow, room, listed}
use Rattle.dual_simplex.specs.Path.{LexLess}
use Rattle.dual_simplex.proofs.Ranks.{room_falls}

length-listed : (h : ℕ) (f : ℕ → Fraction) → length (listed h f) ≡ h
unfolding listed
length-listed zero f = refl
length-listed (suc h) f = ap suc (length-listed h (λ i. f (suc i)))

narrow-listed : (h : ℕ) (f : ℕ → Fraction) → ((i : ℕ) → i < h → IsNarrow (f i)) → AreNarrow (listed h f)
unfolding listed AreNarrow
narrow-listed zero f n = tt
narrow-listed (suc h) f n = (n 0 (omega arith), narrow-listed h (λ i. f (suc i)) (λ i l. n (suc i) (omega arith)))

rises_at : (h at : ℕ) (f g : ℕ → Fraction) → at < h → value (f at) <ℚ value (g at) → ((k : ℕ) → k < at → value (f k) ≡ value (g k)) → Rises (listed h f) (listed h g)
unfolding listed Rises
rises_at zero at f g l less same = absurd (omega arith)
rises_at (suc h) zero f g l less same = inl less
rises_at (suc h) (suc at) f g l less same =
    inr (same 0 (omega arith), rises_at h at (λ i. f (suc i)) (λ i. g (suc i)) (omega arith) less (λ k m. same (suc k) (omega arith)))

-- the measure of the loop: where the first numbers rise there is less room
pub room_listed : (h : ℕ) (f g : ℕ → Fraction) → ((i : ℕ) → i < h → IsNarrow (f i)) → ((i : ℕ) → i < h → IsNarrow (g i)) → LexLess h (λ i. value (f i)) (λ i. value (g i)) → room (listed h g) < room (listed h f)
room_listed h f g n m l =
    room_falls (listed h f) (listed h g) (narrow-listed h f n) (narrow-listed h g m) (length-listed h f ∙ sym (length-listed h g)) (rises_at h l.at f g l.within l.less l.before)
