-- The ring rules of ℤ, and its order under products. An integer is read as a difference of two naturals: sums and products of differences are differences, and arithmetic on naturals decides each rule.
use Rattle.std.specs.Prelude.{◌≡◌, ℕ, ◌+◌, ◌*◌, ◌<◌, ◌≤◌, ℤ, pos, ◌+ℤ◌, ◌-ℤ◌, ◌*ℤ◌, neg_ℤ, ◌≤ℤ◌, ◌<ℤ◌}
use Rattle.std.proofs.Common.{sym, ◌∙◌, ap, subst, arith, le_of_mul-le-mul_right, lt_of_mul-lt-mul_right, mul-le-mul_right, mul-lt-mul_of_pos_right}
use Rattle.std.proofs.lemmas.Int.{ints}
use Rattle.std.proofs.Math.Nat.{eq_of_mul-eq-mul_right}
use borrow.Author.Differences.{up, down, product_is, same_in}

-- u less v
unfoldable pub diff : ℕ → ℕ → ℤ
diff u v = pos u -ℤ pos v

pub is_diff : (a : ℤ) → a ≡ diff (up a) (down a)
unfolding diff
is_diff a = omega (arith, ints)

pub diff-add : (u v x y : ℕ) → diff u v +ℤ diff x y ≡ diff (u + x) (v + y)
unfolding diff
diff-add u v x y = omega (arith, ints)

pub diff-neg : (u v : ℕ) → neg_ℤ (diff u v) ≡ diff v u
unfolding diff
diff-neg u v = omega (arith, ints)

pub diff-same : (u v x y : ℕ) → u + y ≡ x + v → diff u v ≡ diff x y
unfolding diff
diff-same u v x y e = omega (arith, ints)

pub diff_pos : (n : ℕ) → diff n 0 ≡ pos n
unfolding diff
diff_pos n = omega (arith, ints)

ends : (u v : ℕ) → up (diff u v) + v ≡ u + down (diff u v)
unfolding diff
ends u v = omega (arith, ints)

cross : (a b c d u v x y : ℕ) → a + v ≡ u + b → c + y ≡ x + d → a * c + b * d + (u * y + v * x) ≡ u * x + v * y + (a * d + b * c)
cross a b c d u v x y p q =
    omega (arith, ap (λ n. n * c) p, ap (λ n. n * d) p, ap (λ n. u * n) q, ap (λ n. v * n) q)

pub diff-mul : (u v x y : ℕ) → diff u v *ℤ diff x y ≡ diff (u * x + v * y) (u * y + v * x)
diff-mul u v x y =
    let e : up (diff u v *ℤ diff x y) + (u * y + v * x) ≡ u * x + v * y + down (diff u v *ℤ diff x y) = rw ((product_is (diff u v) (diff x y)).0, (product_is (diff u v) (diff x y)).1) (cross _ _ _ _ u v x y (ends u v) (ends x y)) in
    is_diff (diff u v *ℤ diff x y) ∙ diff-same _ _ _ _ e

-- the equations by which `simp` turns sums and products into one difference
pub ruleset diffs = (diff-add, diff-neg, diff-mul)

-- what holds of differences holds of integers
pub by_diff1 : (P : ℤ → Type 0) → ((u v : ℕ) → P (diff u v)) → (a : ℤ) → P a
by_diff1 P h a = subst P (sym (is_diff a)) (h (up a) (down a))

pub by_diff2 : (P : ℤ → ℤ → Type 0) → ((u v x y : ℕ) → P (diff u v) (diff x y)) → (a b : ℤ) → P a b
by_diff2 P h a b = by_diff1 (λ a. P a b) (λ u v. by_diff1 (λ b. P (diff u v) b) (h u v) b) a

pub by_diff3 : (P : ℤ → ℤ → ℤ → Type 0) → ((u v x y z w : ℕ) → P (diff u v) (diff x y) (diff z w)) → (a b c : ℤ) → P a b c
by_diff3 P h a b c =
    by_diff1 (λ a. P a b c) (λ u v. by_diff2 (λ b c. P (diff u v) b c) (h u v) b c) a

pub by_diff4 : (P : ℤ → ℤ → ℤ → ℤ → Type 0) → ((u v x y z w s t : ℕ) → P (diff u v) (diff x y) (diff z w) (diff s t)) → (a b c d : ℤ) → P a b c d
by_diff4 P h a b c d =
    by_diff1 (λ a. P a b c d) (λ u v. by_diff3 (λ b c d. P (diff u v) b c d) (h u v) b c d) a

pub by_diff5 : (P : ℤ → ℤ → ℤ → ℤ → ℤ → Type 0) → ((u v x y z w s t p q : ℕ) → P (diff u v) (diff x y) (diff z w) (diff s t) (diff p q)) → (a b c d e : ℤ) → P a b c d e
by_diff5 P h a b c d e =
    by_diff1 (λ a. P a b c d e) (λ u v. by_diff4 (λ b c d e. P (diff u v) b c d e) (h u v) b c d e) a

pub by_diff6 : (P : ℤ → ℤ → ℤ → ℤ → ℤ → ℤ → Type 0) → ((u v x y z w s t p q m n : ℕ) → P (diff u v) (diff x y) (diff z w) (diff s t) (diff p q) (diff m n)) → (a b c d e f : ℤ) → P a b c d e f
by_diff6 P h a b c d e f =
    by_diff1 (λ a. P a b c d e f) (λ u v. by_diff5 (λ b c d e f. P (diff u v) b c d e f) (h u v) b c d e f) a

pub *ℤ_assoc : (a b c : ℤ) → (a *ℤ b) *ℤ c ≡ a *ℤ (b *ℤ c)
*ℤ_assoc =
    by_diff3 (λ a b c. (a *ℤ b) *ℤ c ≡ a *ℤ (b *ℤ c)) (λ u v x y z w. simp diffs (diff-same _ _ _ _ (omega arith)))

-- the product moves its last factor over the one before
pub *ℤ_right_comm : (a b c : ℤ) → (a *ℤ b) *ℤ c ≡ (a *ℤ c) *ℤ b
*ℤ_right_comm =
    by_diff3 (λ a b c. (a *ℤ b) *ℤ c ≡ (a *ℤ c) *ℤ b) (λ u v x y z w. simp diffs (diff-same _ _ _ _ (omega arith)))

pub *ℤ-+ℤ : (a b c : ℤ) → a *ℤ (b +ℤ c) ≡ a *ℤ b +ℤ a *ℤ c
*ℤ-+ℤ =
    by_diff3 (λ a b c. a *ℤ (b +ℤ c) ≡ a *ℤ b +ℤ a *ℤ c) (λ u v x y z w. simp diffs (diff-same _ _ _ _ (omega arith)))

pub +ℤ-*ℤ : (a b c : ℤ) → (a +ℤ b) *ℤ c ≡ a *ℤ c +ℤ b *ℤ c
+ℤ-*ℤ =
    by_diff3 (λ a b c. (a +ℤ b) *ℤ c ≡ a *ℤ c +ℤ b *ℤ c) (λ u v x y z w. simp diffs (diff-same _ _ _ _ (omega arith)))

pub neg-*ℤ : (a b : ℤ) → neg_ℤ a *ℤ b ≡ neg_ℤ (a *ℤ b)
neg-*ℤ =
    by_diff2 (λ a b. neg_ℤ a *ℤ b ≡ neg_ℤ (a *ℤ b)) (λ u v x y. simp diffs (diff-same _ _ _ _ (omega arith)))

-- ---- the order, and equality, under a positive factor
pub ≤ℤ-*ℤ : (a b : ℤ) (k : ℕ) → a ≤ℤ b → (a *ℤ pos k) ≤ℤ (b *ℤ pos k)
≤ℤ-*ℤ a b k h =
    let e : up a + down b ≤ up b + down a = omega (arith, ints) in
    let f : (up a + down b) * k ≤ (up b + down a) * k = mul-le-mul_right k e in
    omega (arith, ints)

pub <ℤ-*ℤ : (a b : ℤ) (k : ℕ) → 0 < k → a <ℤ b → (a *ℤ pos k) <ℤ (b *ℤ pos k)
<ℤ-*ℤ a b k some h =
    let e : up a + down b < up b + down a = omega (arith, ints) in
    let f : (up a + down b) * k < (up b + down a) * k = mul-lt-mul_of_pos_right e some in
    omega (arith, ints)

pub ≤ℤ-*ℤ_back : (a b : ℤ) (k : ℕ) → 0 < k → (a *ℤ pos k) ≤ℤ (b *ℤ pos k) → a ≤ℤ b
≤ℤ-*ℤ_back a b k some h =
    let e : (up a + down b) * k ≤ (up b + down a) * k = omega (arith, ints) in
    let f : up a + down b ≤ up b + down a = le_of_mul-le-mul_right e some in
    omega (arith, ints)

pub <ℤ-*ℤ_back : (a b : ℤ) (k : ℕ) → (a *ℤ pos k) <ℤ (b *ℤ pos k) → a <ℤ b
<ℤ-*ℤ_back a b k h =
    let e : (up a + down b) * k < (up b + down a) * k = omega (arith, ints) in
    let f : up a + down b < up b + down a = lt_of_mul-lt-mul_right k e in
    omega (arith, ints)

pub *ℤ_cancel : (a b : ℤ) (k : ℕ) → 0 < k → a *ℤ pos k ≡ b *ℤ pos k → a ≡ b
*ℤ_cancel a b k some h =
    let e : (up a + down b) * k ≡ (up b + down a) * k = omega (arith, ints) in
    same_in a b (eq_of_mul-eq-mul_right k some _ _ e)
