-- The rational numbers: fractions of any size, of which those that are the same number are equal. Sums, products, the inverse and the order are those of the pairs of numbers, and `value` leads from a pair to its number.
use Rattle.std.specs.Prelude.{◌≡◌, ℕ, zero, suc, ◌+◌, ◌*◌, ◌<◌, ℤ, pos, negsuc, ◌+ℤ◌, ◌-ℤ◌, ◌*ℤ◌, neg_ℤ, T}
use Rattle.std.proofs.Common.{refl, sym, ◌∙◌, ap, ap₂, subst, arith, zero-lt-suc}
use Rattle.std.proofs.lemmas.Int.{ints}
use Rattle.std.proofs.Math.IntN.{*ℤ_comm}
use Rattle.std.specs.declared.cmp.Ordering.{Ordering}
use Rattle.std.specs.declared.cmp.Ordering.TheVariants.{Less, Equal, Greater}
use Rattle.std.specs.Ordering.{int_cmp, is_le, is_lt, ordering_reverse, MatchOrdering, Ordering-set}
use Rattle.std.specs.Cmp.{int_cmp_is, int_ranks, int_cmp_total}
use mathlib.Core.Quot.{Quot, mk, sound, ind, lift, Quot-set}
use Rattle.rat128.specs.Integers.{diffs, diff-same, by_diff4, by_diff5, <ℤ-*ℤ_back, *ℤ_cancel, *ℤ_right_comm, neg-*ℤ}
use Rattle.rat128.specs.Fractions.{Fraction, den, Same, plus, times, minus, inverse, order_of, whole_fraction}

-- ---- the numbers

pub ℚ : Type 0
ℚ = Quot Same

pub ℚ_set : IsSet ℚ
unfolding ℚ
ℚ_set = Quot-set

-- the number that a fraction is
pub value : Fraction → ℚ
unfolding ℚ
value p = mk p

-- fractions with equal cross products are one number
pub value_same : (p q : Fraction) → Same p q → value p ≡ value q
unfolding ℚ value
value_same p q h = sound h

-- what holds of every fraction's number holds of every number
pub by_value : (P : ℚ → Type 0) → ((x : ℚ) → IsProp (P x)) → ((p : Fraction) → P (value p)) → (x : ℚ) → P x
unfolding ℚ value
by_value P prop h x = ind prop h x

-- ---- operations on pairs that do not tell equal numbers apart
module _ (op : Fraction → Fraction) (moves : (p q : Fraction) → Same p q → Same (op p) (op q)) where
  lifted_one : ℚ → ℚ
  unfolding ℚ
  lifted_one x =
      lift ℚ_set (λ p. value (op p)) (λ p q h. value_same (op p) (op q) (moves p q h)) x

  lifted_one-value : (p : Fraction) → lifted_one (value p) ≡ value (op p)
  unfolding ℚ value lifted_one
  lifted_one-value p = refl

module _ (op : Fraction → Fraction → Fraction) (comm : (p q : Fraction) → op p q ≡ op q p) (moves : (p q r : Fraction) → Same p q → Same (op p r) (op q r)) where
  moves_right : (r p q : Fraction) → Same p q → Same (op r p) (op r q)
  moves_right r p q h =
      subst (λ s. Same s (op r q)) (comm p r) (subst (λ s. Same (op p r) s) (comm q r) (moves p q r h))

  with_fraction : Fraction → ℚ → ℚ
  unfolding ℚ
  with_fraction r x =
      lift ℚ_set (λ p. value (op r p)) (λ p q h. value_same (op r p) (op r q) (moves_right r p q h)) x

  with_fraction_moves : (p q : Fraction) → Same p q → (x : ℚ) → with_fraction p x ≡ with_fraction q x
  unfolding ℚ value with_fraction
  with_fraction_moves p q h =
      by_value (λ x. with_fraction p x ≡ with_fraction q x) (λ x. ℚ_set (with_fraction p x) (with_fraction q x)) (λ r. value_same (op p r) (op q r) (moves p q r h))

  lifted_two : ℚ → ℚ → ℚ
  unfolding ℚ
  lifted_two x y =
      lift ℚ_set (λ p. with_fraction p y) (λ p q h. with_fraction_moves p q h y) x

  lifted_two-value : (p q : Fraction) → lifted_two (value p) (value q) ≡ value (op p q)
  unfolding ℚ value with_fraction lifted_two
  lifted_two-value p q = refl

-- ---- the sum
-- the denominator of a sum or a product is the product of the denominators
pub den_is : (a b : ℕ) → suc (a * b + a + b) ≡ suc a * suc b
den_is a b = omega arith

pub plus_comm : (p q : Fraction) → plus p q ≡ plus q p
plus_comm p q =
    let up : p.num *ℤ pos (den q) +ℤ q.num *ℤ pos (den p) ≡ q.num *ℤ pos (den p) +ℤ p.num *ℤ pos (den q) = omega (arith, ints) in
    let below : p.less_one * q.less_one + p.less_one + q.less_one ≡ q.less_one * p.less_one + q.less_one + p.less_one = omega arith in
    λ i. record { num = up i; less_one = below i }

-- the cross products of two sums with one summand in common
pub plus_over : (a b d e f : ℤ) → (a *ℤ f +ℤ e *ℤ b) *ℤ (d *ℤ f) ≡ a *ℤ d *ℤ (f *ℤ f) +ℤ e *ℤ (b *ℤ (d *ℤ f))
plus_over =
    by_diff5 (λ a b d e f. (a *ℤ f +ℤ e *ℤ b) *ℤ (d *ℤ f) ≡ a *ℤ d *ℤ (f *ℤ f) +ℤ e *ℤ (b *ℤ (d *ℤ f))) (λ u v x y z w s t p q. simp diffs (diff-same _ _ _ _ (omega arith)))

pub plus_under : (b c d e f : ℤ) → (c *ℤ f +ℤ e *ℤ d) *ℤ (b *ℤ f) ≡ c *ℤ b *ℤ (f *ℤ f) +ℤ e *ℤ (b *ℤ (d *ℤ f))
plus_under =
    by_diff5 (λ b c d e f. (c *ℤ f +ℤ e *ℤ d) *ℤ (b *ℤ f) ≡ c *ℤ b *ℤ (f *ℤ f) +ℤ e *ℤ (b *ℤ (d *ℤ f))) (λ u v x y z w s t p q. simp diffs (diff-same _ _ _ _ (omega arith)))

ring_plus : (a b c d e f : ℤ) → a *ℤ d ≡ c *ℤ b → (a *ℤ f +ℤ e *ℤ b) *ℤ (d *ℤ f) ≡ (c *ℤ f +ℤ e *ℤ d) *ℤ (b *ℤ f)
ring_plus a b c d e f h =
    plus_over a b d e f ∙ ap (λ z. z *ℤ (f *ℤ f) +ℤ e *ℤ (b *ℤ (d *ℤ f))) h ∙ sym (plus_under b c d e f)

plus_moves : (p q r : Fraction) → Same p q → Same (plus p r) (plus q r)
plus_moves p q r h =
    rw (den_is q.less_one r.less_one, den_is p.less_one r.less_one) (ring_plus p.num (pos (den p)) q.num (pos (den q)) r.num (pos (den r)) h)

infixl 60 ◌+ℚ◌
pub ◌+ℚ◌ : ℚ → ℚ → ℚ
◌+ℚ◌ = lifted_two plus plus_comm plus_moves

pub value-plus : (p q : Fraction) → value p +ℚ value q ≡ value (plus p q)
unfolding ◌+ℚ◌
value-plus = lifted_two-value plus plus_comm plus_moves

-- ---- the product
pub times_comm : (p q : Fraction) → times p q ≡ times q p
times_comm p q =
    let up : p.num *ℤ q.num ≡ q.num *ℤ p.num = *ℤ_comm p.num q.num in
    let below : p.less_one * q.less_one + p.less_one + q.less_one ≡ q.less_one * p.less_one + q.less_one + p.less_one = omega arith in
    λ i. record { num = up i; less_one = below i }

-- the cross product of two products with one factor in common
pub times_over : (a d e f : ℤ) → (a *ℤ e) *ℤ (d *ℤ f) ≡ (a *ℤ d) *ℤ (e *ℤ f)
times_over =
    by_diff4 (λ a d e f. (a *ℤ e) *ℤ (d *ℤ f) ≡ (a *ℤ d) *ℤ (e *ℤ f)) (λ u v x y z w s t. simp diffs (diff-same _ _ _ _ (omega arith)))

ring_times : (a b c d e f : ℤ) → a *ℤ d ≡ c *ℤ b → (a *ℤ e) *ℤ (d *ℤ f) ≡ (c *ℤ e) *ℤ (b *ℤ f)
ring_times a b c d e f h =
    times_over a d e f ∙ ap (λ z. z *ℤ (e *ℤ f)) h ∙ sym (times_over c b e f)

times_moves : (p q r : Fraction) → Same p q → Same (times p r) (times q r)
times_moves p q r h =
    rw (den_is q.less_one r.less_one, den_is p.less_one r.less_one) (ring_times p.num (pos (den p)) q.num (pos (den q)) r.num (pos (den r)) h)

infixl 70 ◌*ℚ◌
pub ◌*ℚ◌ : ℚ → ℚ → ℚ
◌*ℚ◌ = lifted_two times times_comm times_moves

pub value-times : (p q : Fraction) → value p *ℚ value q ≡ value (times p q)
unfolding ◌*ℚ◌
value-times = lifted_two-value times times_comm times_moves

-- ---- the negated number, and the difference
minus_moves : (p q : Fraction) → Same p q → Same (minus p) (minus q)
minus_moves p q h =
    neg-*ℤ p.num (pos (den q)) ∙ ap neg_ℤ h ∙ sym (neg-*ℤ q.num (pos (den p)))

pub neg_ℚ : ℚ → ℚ
neg_ℚ = lifted_one minus minus_moves

pub value-minus : (p : Fraction) → neg_ℚ (value p) ≡ value (minus p)
unfolding neg_ℚ
value-minus = lifted_one-value minus minus_moves

infixl 60 ◌-ℚ◌
abbrev pub ◌-ℚ◌ : ℚ → ℚ → ℚ
x -ℚ y = x +ℚ neg_ℚ y

-- ---- the inverse, and the quotient: that of 0 is 0
inverse_moves : (p q : Fraction) → Same p q → Same (inverse p) (inverse q)
inverse_moves p q h = moved p.num q.num p.less_one q.less_one h
  where
    moved : (a c : ℤ) (b d : ℕ) → a *ℤ pos (suc d) ≡ c *ℤ pos (suc b) → Same (inverse (record { num = a; less_one = b })) (inverse (record { num = c; less_one = d }))
    moved (pos zero) (pos zero) b d e = refl
    moved (pos zero) (pos (suc n)) b d e = absurd (omega (arith, ints))
    moved (pos zero) (negsuc n) b d e = absurd (omega (arith, ints))
    moved (pos (suc m)) (pos zero) b d e = absurd (omega (arith, ints))
    moved (pos (suc m)) (pos (suc n)) b d e = omega (arith, ints)
    moved (pos (suc m)) (negsuc n) b d e = absurd (omega (arith, ints))
    moved (negsuc m) (pos zero) b d e = absurd (omega (arith, ints))
    moved (negsuc m) (pos (suc n)) b d e = absurd (omega (arith, ints))
    moved (negsuc m) (negsuc n) b d e = omega (arith, ints)

pub inv_ℚ : ℚ → ℚ
inv_ℚ = lifted_one inverse inverse_moves

pub value-inverse : (p : Fraction) → inv_ℚ (value p) ≡ value (inverse p)
unfolding inv_ℚ
value-inverse = lifted_one-value inverse inverse_moves

infixl 70 ◌/ℚ◌
abbrev pub ◌/ℚ◌ : ℚ → ℚ → ℚ
x /ℚ y = x *ℚ inv_ℚ y

-- ---- the whole numbers among them
abbrev pub whole : ℤ → ℚ
whole z = value (whole_fraction z)

abbrev pub zero_ℚ : ℚ
zero_ℚ = whole (pos 0)

abbrev pub one_ℚ : ℚ
one_ℚ = whole (pos 1)

-- ---- the order
pub MatchOrdering_weaker : {P Q R P' Q' R' : Type 0} (o : Ordering) → (P → P') → (Q → Q') → (R → R') → MatchOrdering o P Q R → MatchOrdering o P' Q' R'
MatchOrdering_weaker Less f g h m = f m
MatchOrdering_weaker Equal f g h m = g m
MatchOrdering_weaker Greater f g h m = h m

-- a positive factor leaves the order
pub int_cmp-scaled : (x y : ℤ) (k : ℕ) → 0 < k → int_cmp (x *ℤ pos k) (y *ℤ pos k) ≡ int_cmp x y
int_cmp-scaled x y k some =
    int_cmp_is x y (int_cmp (x *ℤ pos k) (y *ℤ pos k)) (MatchOrdering_weaker (int_cmp (x *ℤ pos k) (y *ℤ pos k)) (<ℤ-*ℤ_back x y k) (*ℤ_cancel x y k some) (<ℤ-*ℤ_back y x k) (int_ranks (x *ℤ pos k) (y *ℤ pos k)))

order_moves : (p q r : Fraction) → Same p q → order_of p r ≡ order_of q r
unfolding order_of
order_moves p q r h =
    let left : (p.num *ℤ pos (den r)) *ℤ pos (den q) ≡ (q.num *ℤ pos (den r)) *ℤ pos (den p) = *ℤ_right_comm p.num (pos (den r)) (pos (den q)) ∙ ap (λ z. z *ℤ pos (den r)) h ∙ *ℤ_right_comm q.num (pos (den p)) (pos (den r)) in
    let right : (r.num *ℤ pos (den p)) *ℤ pos (den q) ≡ (r.num *ℤ pos (den q)) *ℤ pos (den p) = *ℤ_right_comm r.num (pos (den p)) (pos (den q)) in
    sym (int_cmp-scaled (p.num *ℤ pos (den r)) (r.num *ℤ pos (den p)) (den q) (zero-lt-suc q.less_one)) ∙ ap₂ int_cmp left right ∙ int_cmp-scaled (q.num *ℤ pos (den r)) (r.num *ℤ pos (den q)) (den p) (zero-lt-suc p.less_one)

order_reverse : (p q : Fraction) → order_of p q ≡ ordering_reverse (order_of q p)
unfolding order_of
order_reverse p q = int_cmp_total.antisymm (p.num *ℤ pos (den q)) (q.num *ℤ pos (den p))

order_moves_right : (r p q : Fraction) → Same p q → order_of r p ≡ order_of r q
order_moves_right r p q h =
    order_reverse r p ∙ ap ordering_reverse (order_moves p q r h) ∙ sym (order_reverse r q)

order_with : Fraction → ℚ → Ordering
unfolding ℚ
order_with r x =
    lift Ordering-set (λ p. order_of r p) (λ p q h. order_moves_right r p q h) x

order_with_moves : (p q : Fraction) → Same p q → (x : ℚ) → order_with p x ≡ order_with q x
unfolding ℚ value order_with
order_with_moves p q h =
    by_value (λ x. order_with p x ≡ order_with q x) (λ x. Ordering-set (order_with p x) (order_with q x)) (λ r. order_moves p q r h)

-- which of two numbers is the greater
pub order_ℚ : ℚ → ℚ → Ordering
unfolding ℚ
order_ℚ x y = lift Ordering-set (λ p. order_with p y) (λ p q h. order_with_moves p q h y) x

pub order_ℚ-value : (p q : Fraction) → order_ℚ (value p) (value q) ≡ order_of p q
unfolding ℚ value order_with order_ℚ
order_ℚ-value p q = refl

infix 50 ◌≤ℚ◌ ◌<ℚ◌
pub record ◌≤ℚ◌ (x y : ℚ) : Type 0 where
  pub le : T (is_le (order_ℚ x y))

pub record ◌<ℚ◌ (x y : ℚ) : Type 0 where
  pub lt : T (is_lt (order_ℚ x y))

-- ---- the nearest whole numbers
-- n is the greatest whole number that is at most x
pub record IsFloor (x : ℚ) (n : ℤ) : Type 0 where
  pub at_most : whole n ≤ℚ x
  pub below : x <ℚ whole (n +ℤ pos 1)

-- n is the least whole number that is at least x
pub record IsCeiling (x : ℚ) (n : ℤ) : Type 0 where
  pub at_least : x ≤ℚ whole n
  pub above : whole (n -ℤ pos 1) <ℚ x
