-- Lists of fractions that rise in lexicographic order, and how much room is left above one.
use Rattle.std.specs.Prelude.{◌≡◌, ℕ, zero, suc, ◌+◌, ◌-◌, ◌*◌, ◌/◌, ◌^◌, List, [], ◌∷◌, length, pos, ◌+ℤ◌, unsigned_abs, ◌⊎◌}
use Rattle.rat128.specs.Fractions.{Fraction, den}
use Rattle.rat128.specs.Rationals.{value, ◌<ℚ◌}
use Rattle.rat128.specs.Operations.{IsNarrow}

-- the first number that differs is less
unfoldable pub Rises : List Fraction → List Fraction → Type 0
Rises [] qs = ⊥
Rises (p ∷ ps) [] = ⊥
Rises (p ∷ ps) (q ∷ qs) = (value p <ℚ value q) ⊎ ((value p ≡ value q) × Rises ps qs)

unfoldable pub AreNarrow : List Fraction → Type 0
AreNarrow [] = Unit {0}
AreNarrow (p ∷ ps) = IsNarrow p × AreNarrow ps

-- the rank of a fraction of 127 bits among them: (value + 2 ^ 127) * 2 ^ 254, rounded down
unfoldable pub rank : Fraction → ℕ
rank p = unsigned_abs (p.num +ℤ pos (2 ^ 127 * den p)) * 2 ^ 254 / den p

-- how many ranks there are
unfoldable pub ranks : ℕ
ranks = 2 ^ 382

-- the ranks of a list as the digits of one number
unfoldable pub weight : List Fraction → ℕ
weight [] = 0
weight (p ∷ ps) = rank p * ranks ^ length ps + weight ps

-- how many lists of the same length stand above
unfoldable pub room : List Fraction → ℕ
room ps = ranks ^ length ps - weight ps

-- h numbers as a list
unfoldable pub listed : {A : Type 0} → ℕ → (ℕ → A) → List A
listed zero f = []
listed (suc h) f = f 0 ∷ listed h (λ i. f (suc i))
