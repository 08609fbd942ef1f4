-- Fractions of 127 bits have ranks, so lists of them that rise leave less room above.
use Rattle.std.proofs.Common.{◌≡◌, ℕ, zero, suc, ◌+◌, ◌-◌, ◌*◌, ◌/◌, ◌^◌, ◌<◌, ◌≤◌, inl, inr, List, [], ◌∷◌, length, ℤ, pos, ◌+ℤ◌, ◌*ℤ◌, ◌<ℤ◌, unsigned_abs, sym, ◌∙◌, ap, subst, arith, mul-le-mul_right, le_of_mul-le-mul_right}
use Rattle.std.proofs.Math.Nat.{div-mul-le_self, pow-suc, pow-zero}
use Rattle.std.proofs.lemmas.Nat.{le-div, div_below}
use Rattle.std.proofs.lemmas.Int.{ints}
use Rattle.rat128.specs.Integers.{diffs, diff-same, by_diff3}
use Rattle.rat128.specs.Fractions.{Fraction, den}
use Rattle.rat128.specs.Rationals.{value, ◌<ℚ◌}
use Rattle.rat128.specs.Operations.{IsNarrow}
use Rattle.rat128.proofs.Rationals.{value_<ℚ, value_≡}
use Rattle.dual_simplex.specs.Rising.{Rises, AreNarrow, rank, ranks, weight, room}

-- ---- one fraction
-- n is at least the product of the denominators, so it stands between two different quotients
pub quotient_rises : (a b c d n : ℕ) → 0 < b → 0 < d → b * d ≤ n → a * d < c * b → a * n / b < c * n / d
quotient_rises a b c d n some some' fits less =
    let k = a * n / b in
    let k_le : k * b ≤ a * n = div-mul-le_self (a * n) b in
    let one : (k * b) * d ≤ (a * n) * d = mul-le-mul_right d k_le in
    let two : (a * d + 1) * n ≤ (c * b) * n = mul-le-mul_right n (next (a * d) (c * b) less) in
    let both : ((k + 1) * d) * b ≤ (c * n) * b = joined a b c d n k one two fits in
    let done : (k + 1) * d ≤ c * n = le_of_mul-le-mul_right both some in
    let up : k + 1 ≤ c * n / d = le-div (k + 1) (c * n) d some' done in
    back k (c * n / d) up
  where
    next : (x y : ℕ) → x < y → x + 1 ≤ y
    next x y h = omega arith

    back : (x y : ℕ) → x + 1 ≤ y → x < y
    back x y h = omega arith

    joined : (a b c d n k : ℕ) → (k * b) * d ≤ (a * n) * d → (a * d + 1) * n ≤ (c * b) * n → b * d ≤ n → ((k + 1) * d) * b ≤ (c * n) * b
    joined a b c d n k one two fits = omega (arith, one, two, fits)

pub quotient_stays : (a b c d n : ℕ) → 0 < b → 0 < d → a * d ≤ c * b → a * n / b ≤ c * n / d
quotient_stays a b c d n some some' le =
    let k = a * n / b in
    let k_le : k * b ≤ a * n = div-mul-le_self (a * n) b in
    let one : (k * b) * d ≤ (a * n) * d = mul-le-mul_right d k_le in
    let two : (a * d) * n ≤ (c * b) * n = mul-le-mul_right n le in
    let both : (k * d) * b ≤ (c * n) * b = joined a b c d n k one two in
    le-div k (c * n) d some' (le_of_mul-le-mul_right both some)
  where
    joined : (a b c d n k : ℕ) → (k * b) * d ≤ (a * n) * d → (a * d) * n ≤ (c * b) * n → (k * d) * b ≤ (c * n) * b
    joined a b c d n k one two = omega (arith, one, two)

-- moved up so far that no number is negative
moved : (a : ℤ) (b w : ℕ) → unsigned_abs a < w → 0 < b → pos (unsigned_abs (a +ℤ pos (w * b))) ≡ a +ℤ pos (w * b)
moved a b w small some =
    let k : 1 * w ≤ b * w = mul-le-mul_right w (one b some) in
    omega (arith, ints, k)
  where
    one : (b : ℕ) → 0 < b → 1 ≤ b
    one b h = omega arith

dist : (a b c : ℤ) → (a +ℤ b) *ℤ c ≡ a *ℤ c +ℤ b *ℤ c
dist =
    by_diff3 (λ a b c. (a +ℤ b) *ℤ c ≡ a *ℤ c +ℤ b *ℤ c) (λ u v x y z w. simp diffs (diff-same _ _ _ _ (omega arith)))

moved_times : (a : ℤ) (b d w x : ℕ) → pos x ≡ a +ℤ pos (w * b) → pos (x * d) ≡ a *ℤ pos d +ℤ pos (w * b * d)
moved_times a b d w x e = ap (λ z. z *ℤ pos d) e ∙ dist a (pos (w * b)) (pos d)

moved_less : (a c : ℤ) (b d w x y : ℕ) → pos x ≡ a +ℤ pos (w * b) → pos y ≡ c +ℤ pos (w * d) → (a *ℤ pos d) <ℤ (c *ℤ pos b) → x * d < y * b
moved_less a c b d w x y e f h =
    last (a *ℤ pos d) (c *ℤ pos b) b d w (x * d) (y * b) (moved_times a b d w x e) (moved_times c d b w y f) h
  where
    last : (s t : ℤ) (b d w x y : ℕ) → pos x ≡ s +ℤ pos (w * b * d) → pos y ≡ t +ℤ pos (w * d * b) → s <ℤ t → x < y
    last s t b d w x y e f h = omega (arith, ints, e, f, h)

moved_same : (a c : ℤ) (b d w x y : ℕ) → pos x ≡ a +ℤ pos (w * b) → pos y ≡ c +ℤ pos (w * d) → a *ℤ pos d ≡ c *ℤ pos b → x * d ≡ y * b
moved_same a c b d w x y e f h =
    last (a *ℤ pos d) (c *ℤ pos b) b d w (x * d) (y * b) (moved_times a b d w x e) (moved_times c d b w y f) h
  where
    last : (s t : ℤ) (b d w x y : ℕ) → pos x ≡ s +ℤ pos (w * b * d) → pos y ≡ t +ℤ pos (w * d * b) → s ≡ t → x ≡ y
    last s t b d w x y e f h = omega (arith, ints, e, f, h)

dens_fit : (b d w : ℕ) → b < w → d < w → b * d ≤ w * w
dens_fit b d w h k =
    let one : b * d ≤ w * d = mul-le-mul_right d (le b w h) in
    let two : d * w ≤ w * w = mul-le-mul_right w (le d w k) in
    omega (arith, one, two)
  where
    le : (x y : ℕ) → x < y → x ≤ y
    le x y h = omega arith

pub rank_rises : (p q : Fraction) → IsNarrow p → IsNarrow q → value p <ℚ value q → rank p < rank q
unfolding rank
rank_rises p q n m h =
    quotient_rises _ (den p) _ (den q) (2 ^ 254) n.positive m.positive (dens_fit (den p) (den q) (2 ^ 127) n.den_small m.den_small) (moved_less p.num q.num (den p) (den q) (2 ^ 127) _ _ (moved p.num (den p) (2 ^ 127) n.num_small n.positive) (moved q.num (den q) (2 ^ 127) m.num_small m.positive) (value_<ℚ p q h))

rank_stays : (p q : Fraction) → IsNarrow p → IsNarrow q → value p ≡ value q → rank p ≤ rank q
unfolding rank
rank_stays p q n m h =
    quotient_stays _ (den p) _ (den q) (2 ^ 254) n.positive m.positive (le _ _ (moved_same p.num q.num (den p) (den q) (2 ^ 127) _ _ (moved p.num (den p) (2 ^ 127) n.num_small n.positive) (moved q.num (den q) (2 ^ 127) m.num_small m.positive) (value_≡ p q h)))
  where
    le : (x y : ℕ) → x ≡ y → x ≤ y
    le x y h = omega arith

below : (a : ℤ) (b w n : ℕ) → unsigned_abs a < w → 0 < b → unsigned_abs (a +ℤ pos (w * b)) * (n + 1) / b < (w + w) * (n + 1)
below a b w n small some =
    let k : 1 * w ≤ b * w = mul-le-mul_right w (one b some) in
    let up : unsigned_abs (a +ℤ pos (w * b)) + 1 ≤ (w + w) * b = omega (arith, ints, k) in
    let times : (unsigned_abs (a +ℤ pos (w * b)) + 1) * (n + 1) ≤ ((w + w) * b) * (n + 1) = mul-le-mul_right (n + 1) up in
    div_below _ b ((w + w) * (n + 1)) some (last _ b w n times)
  where
    one : (b : ℕ) → 0 < b → 1 ≤ b
    one b h = omega arith

    last : (x b w n : ℕ) → (x + 1) * (n + 1) ≤ ((w + w) * b) * (n + 1) → x * (n + 1) < ((w + w) * (n + 1)) * b
    last x b w n h = omega (arith, h)

pub rank_below : (p : Fraction) → IsNarrow p → rank p < ranks
unfolding rank ranks
rank_below p n = below p.num (den p) (2 ^ 127) (2 ^ 254 - 1) n.num_small n.positive

-- ---- a list
single : (x : ℕ) → x ≡ 1 → 0 < x
single x e = omega arith

pub weight_below : (ps : List Fraction) → AreNarrow ps → weight ps < ranks ^ length ps
unfolding weight AreNarrow
weight_below [] n = single (ranks ^ zero) (pow-zero ranks)
weight_below (p ∷ ps) n = step (rank p) ranks (length ps) (weight ps) (rank_below p n.0) (weight_below ps n.1)
  where
    step : (k b m w : ℕ) → k < b → w < b ^ m → k * b ^ m + w < b ^ suc m
    step k b m w h l =
        let one : (k + 1) * b ^ m ≤ b * b ^ m = mul-le-mul_right (b ^ m) (next k b h) in
        subst (λ x. k * b ^ m + w < x) (sym (pow-suc b m)) (last k b (b ^ m) w one l)
      where
        next : (x y : ℕ) → x < y → x + 1 ≤ y
        next x y h = omega arith

        last : (k b p w : ℕ) → (k + 1) * p ≤ b * p → w < p → k * p + w < p * b
        last k b p w one l = omega (arith, one, l)

pub weight_rises : (ps qs : List Fraction) → AreNarrow ps → AreNarrow qs → length ps ≡ length qs → Rises ps qs → weight ps < weight qs
unfolding weight AreNarrow Rises
weight_rises [] qs n m e h = absurd h
weight_rises (p ∷ ps) [] n m e h = absurd h
weight_rises (p ∷ ps) (q ∷ qs) n m e (inl less) =
    first (rank p) (rank q) ranks (length ps) (length qs) (weight ps) (weight qs) (rank_rises p q n.0 m.0 less) (peel _ _ e) (weight_below ps n.1)
  where
    peel : (x y : ℕ) → suc x ≡ suc y → x ≡ y
    peel x y e = omega arith

    first : (k l b x y w v : ℕ) → k < l → x ≡ y → w < b ^ x → k * b ^ x + w < l * b ^ y + v
    first k l b x y w v h e u =
        let one : (k + 1) * b ^ x ≤ l * b ^ x = mul-le-mul_right (b ^ x) (next k l h) in
        subst (λ y. k * b ^ x + w < l * b ^ y + v) e (last k l (b ^ x) w v one u)
      where
        next : (x y : ℕ) → x < y → x + 1 ≤ y
        next x y h = omega arith

        last : (k l p w v : ℕ) → (k + 1) * p ≤ l * p → w < p → k * p + w < l * p + v
        last k l p w v one u = omega (arith, one, u)
weight_rises (p ∷ ps) (q ∷ qs) n m e (inr same) =
    later (rank p) (rank q) ranks (length ps) (length qs) (weight ps) (weight qs) (rank_stays p q n.0 m.0 same.0) (peel _ _ e) (weight_rises ps qs n.1 m.1 (peel _ _ e) same.1)
  where
    peel : (x y : ℕ) → suc x ≡ suc y → x ≡ y
    peel x y e = omega arith

    later : (k l b x y w v : ℕ) → k ≤ l → x ≡ y → w < v → k * b ^ x + w < l * b ^ y + v
    later k l b x y w v h e u =
        let one : k * b ^ x ≤ l * b ^ x = mul-le-mul_right (b ^ x) h in
        subst (λ y. k * b ^ x + w < l * b ^ y + v) e (last k l (b ^ x) w v one u)
      where
        last : (k l p w v : ℕ) → k * p ≤ l * p → w < v → k * p + w < l * p + v
        last k l p w v one u = omega (arith, one, u)

-- where the constants rise there is less room
pub room_falls : (ps qs : List Fraction) → AreNarrow ps → AreNarrow qs → length ps ≡ length qs → Rises ps qs → room qs < room ps
unfolding room
room_falls ps qs n m e h =
    last (ranks ^ length ps) (ranks ^ length qs) (weight ps) (weight qs) (ap (λ k. ranks ^ k) e) (weight_rises ps qs n m e h) (weight_below qs m)
  where
    last : (a b w v : ℕ) → a ≡ b → w < v → v < b → b - v < a - w
    last a b w v e h l = omega arith
