-- The laws of the rational numbers: of the ring, of the inverse, of the order, of whole numbers among them, and of their nearest whole numbers. Each is shown of pairs of numbers by a ring identity, and carried over.
use Rattle.std.proofs.Common.{◌≡◌, ◌≢◌, ◌⊎◌, inl, inr, ℕ, zero, suc, ◌+◌, ◌*◌, ◌/◌, ◌<◌, ℤ, pos, negsuc, ◌+ℤ◌, ◌-ℤ◌, ◌*ℤ◌, neg_ℤ, ◌≤ℤ◌, ◌<ℤ◌, T, refl, sym, ◌∙◌, ap, ap₂, subst, arith, Ordering, Less, Equal, Greater, int_cmp, is_le, is_lt, zero-lt-suc, subst₂, div-add-mod', mod-lt}
use Rattle.std.proofs.lemmas.Int.{ints}
use Rattle.std.specs.Int.{int_div_euclid}
use Rattle.std.specs.Ordering.{MatchOrdering, ordering_reverse, Ordering-set}
use Rattle.std.specs.Cmp.{int_cmp_is, int_ranks, int_cmp_total, IsTotalOrder}
use Rattle.std.proofs.Math.IntN.{neg_ℤ-neg_ℤ}
use lib.Dec.{T_prop}
use lib.Signed.{<ℤ-≤ℤ_trans}
use mathlib.Core.HLevel.{Π_prop}
use Rattle.rat128.specs.Integers
use Rattle.rat128.specs.Integers.{diff, diffs, diff-same, diff_pos, by_diff2, by_diff3, by_diff4, by_diff5, by_diff6}
use Rattle.rat128.specs.Fractions.{Fraction, den, Same, plus, times, minus, inverse, order_of, whole_fraction, floor_of, ceil_of}
use Rattle.rat128.specs.Rationals.{ℚ, ℚ_set, value, value_same, by_value, den_is, plus_comm, times_comm, ◌+ℚ◌, ◌*ℚ◌, neg_ℚ, ◌-ℚ◌, inv_ℚ, ◌/ℚ◌, whole, zero_ℚ, one_ℚ, value-plus, value-times, value-minus, value-inverse, order_ℚ, order_ℚ-value, MatchOrdering_weaker, int_cmp-scaled, plus_over, plus_under, times_over, ◌≤ℚ◌, ◌<ℚ◌, IsFloor, IsCeiling}

-- the sums, products and negations of pairs, in place of those of their numbers
pub ruleset values = (value-plus, value-times, value-minus)

-- ---- an equation that holds of every fraction's number
by_value1 : (f g : ℚ → ℚ) → ((p : Fraction) → f (value p) ≡ g (value p)) → (x : ℚ) → f x ≡ g x
by_value1 f g = by_value (λ x. f x ≡ g x) (λ x. ℚ_set (f x) (g x))

by_value2 : (f g : ℚ → ℚ → ℚ) → ((p q : Fraction) → f (value p) (value q) ≡ g (value p) (value q)) → (x y : ℚ) → f x y ≡ g x y
by_value2 f g h x y =
    by_value1 (λ x. f x y) (λ x. g x y) (λ p. by_value1 (f (value p)) (g (value p)) (h p) y) x

by_value3 : (f g : ℚ → ℚ → ℚ → ℚ) → ((p q r : Fraction) → f (value p) (value q) (value r) ≡ g (value p) (value q) (value r)) → (x y z : ℚ) → f x y z ≡ g x y z
by_value3 f g h x y z =
    by_value1 (λ x. f x y z) (λ x. g x y z) (λ p. by_value2 (f (value p)) (g (value p)) (h p) y z) x

-- ---- the ring
pub +ℚ_comm : (x y : ℚ) → x +ℚ y ≡ y +ℚ x
+ℚ_comm =
    by_value2 (λ x y. x +ℚ y) (λ x y. y +ℚ x) (λ p q. simp values (ap value (plus_comm p q)))

pub *ℚ_comm : (x y : ℚ) → x *ℚ y ≡ y *ℚ x
*ℚ_comm =
    by_value2 (λ x y. x *ℚ y) (λ x y. y *ℚ x) (λ p q. simp values (ap value (times_comm p q)))

plus_assoc : (p q r : Fraction) → Same (plus (plus p q) r) (plus p (plus q r))
plus_assoc p q r =
    rw (den_is p.less_one (q.less_one * r.less_one + q.less_one + r.less_one), den_is q.less_one r.less_one, den_is (p.less_one * q.less_one + p.less_one + q.less_one) r.less_one, den_is p.less_one q.less_one) (ring p.num (pos (den p)) q.num (pos (den q)) r.num (pos (den r)))
  where
    ring : (a b c d e f : ℤ) → ((a *ℤ d +ℤ c *ℤ b) *ℤ f +ℤ e *ℤ (b *ℤ d)) *ℤ (b *ℤ (d *ℤ f)) ≡ (a *ℤ (d *ℤ f) +ℤ (c *ℤ f +ℤ e *ℤ d) *ℤ b) *ℤ ((b *ℤ d) *ℤ f)
    ring = by_diff6 (λ a b c d e f. ((a *ℤ d +ℤ c *ℤ b) *ℤ f +ℤ e *ℤ (b *ℤ d)) *ℤ (b *ℤ (d *ℤ f)) ≡ (a *ℤ (d *ℤ f) +ℤ (c *ℤ f +ℤ e *ℤ d) *ℤ b) *ℤ ((b *ℤ d) *ℤ f)) (λ u v x y z w s t p q m n. simp diffs (diff-same _ _ _ _ (omega arith)))

pub +ℚ_assoc : (x y z : ℚ) → (x +ℚ y) +ℚ z ≡ x +ℚ (y +ℚ z)
+ℚ_assoc =
    by_value3 (λ x y z. (x +ℚ y) +ℚ z) (λ x y z. x +ℚ (y +ℚ z)) (λ p q r. simp values (value_same (plus (plus p q) r) (plus p (plus q r)) (plus_assoc p q r)))

times_assoc : (p q r : Fraction) → Same (times (times p q) r) (times p (times q r))
times_assoc p q r =
    rw (den_is p.less_one (q.less_one * r.less_one + q.less_one + r.less_one), den_is q.less_one r.less_one, den_is (p.less_one * q.less_one + p.less_one + q.less_one) r.less_one, den_is p.less_one q.less_one) (ring p.num (pos (den p)) q.num (pos (den q)) r.num (pos (den r)))
  where
    ring : (a b c d e f : ℤ) → ((a *ℤ c) *ℤ e) *ℤ (b *ℤ (d *ℤ f)) ≡ (a *ℤ (c *ℤ e)) *ℤ ((b *ℤ d) *ℤ f)
    ring = by_diff6 (λ a b c d e f. ((a *ℤ c) *ℤ e) *ℤ (b *ℤ (d *ℤ f)) ≡ (a *ℤ (c *ℤ e)) *ℤ ((b *ℤ d) *ℤ f)) (λ u v x y z w s t p q m n. simp diffs (diff-same _ _ _ _ (omega arith)))

pub *ℚ_assoc : (x y z : ℚ) → (x *ℚ y) *ℚ z ≡ x *ℚ (y *ℚ z)
*ℚ_assoc =
    by_value3 (λ x y z. (x *ℚ y) *ℚ z) (λ x y z. x *ℚ (y *ℚ z)) (λ p q r. simp values (value_same (times (times p q) r) (times p (times q r)) (times_assoc p q r)))

distributed : (p q r : Fraction) → Same (times p (plus q r)) (plus (times p q) (times p r))
distributed p q r =
    rw (den_is (p.less_one * q.less_one + p.less_one + q.less_one) (p.less_one * r.less_one + p.less_one + r.less_one), den_is p.less_one (q.less_one * r.less_one + q.less_one + r.less_one), den_is q.less_one r.less_one, den_is p.less_one q.less_one, den_is p.less_one r.less_one) (ring p.num (pos (den p)) q.num (pos (den q)) r.num (pos (den r)))
  where
    ring : (a b c d e f : ℤ) → (a *ℤ (c *ℤ f +ℤ e *ℤ d)) *ℤ ((b *ℤ d) *ℤ (b *ℤ f)) ≡ ((a *ℤ c) *ℤ (b *ℤ f) +ℤ (a *ℤ e) *ℤ (b *ℤ d)) *ℤ (b *ℤ (d *ℤ f))
    ring = by_diff6 (λ a b c d e f. (a *ℤ (c *ℤ f +ℤ e *ℤ d)) *ℤ ((b *ℤ d) *ℤ (b *ℤ f)) ≡ ((a *ℤ c) *ℤ (b *ℤ f) +ℤ (a *ℤ e) *ℤ (b *ℤ d)) *ℤ (b *ℤ (d *ℤ f))) (λ u v x y z w s t p q m n. simp diffs (diff-same _ _ _ _ (omega arith)))

pub *ℚ-+ℚ : (x y z : ℚ) → x *ℚ (y +ℚ z) ≡ x *ℚ y +ℚ x *ℚ z
*ℚ-+ℚ =
    by_value3 (λ x y z. x *ℚ (y +ℚ z)) (λ x y z. x *ℚ y +ℚ x *ℚ z) (λ p q r. simp values (value_same (times p (plus q r)) (plus (times p q) (times p r)) (distributed p q r)))

pub +ℚ-*ℚ : (x y z : ℚ) → (x +ℚ y) *ℚ z ≡ x *ℚ z +ℚ y *ℚ z
+ℚ-*ℚ x y z = *ℚ_comm (x +ℚ y) z ∙ *ℚ-+ℚ z x y ∙ ap₂ ◌+ℚ◌ (*ℚ_comm z x) (*ℚ_comm z y)

plus_zero : (p : Fraction) → plus p (whole_fraction (pos 0)) ≡ p
plus_zero p =
    let above : p.num *ℤ pos 1 +ℤ pos 0 *ℤ pos (den p) ≡ p.num = omega (arith, ints) in
    let below : p.less_one * 0 + p.less_one + 0 ≡ p.less_one = omega arith in
    λ i. record { num = above i; less_one = below i }

pub +ℚ_zero : (x : ℚ) → x +ℚ zero_ℚ ≡ x
+ℚ_zero =
    by_value1 (λ x. x +ℚ zero_ℚ) (λ x. x) (λ p. simp values (ap value (plus_zero p)))

pub zero-+ℚ : (x : ℚ) → zero_ℚ +ℚ x ≡ x
zero-+ℚ x = +ℚ_comm zero_ℚ x ∙ +ℚ_zero x

times_one : (p : Fraction) → times p (whole_fraction (pos 1)) ≡ p
times_one p =
    let above : p.num *ℤ pos 1 ≡ p.num = omega (arith, ints) in
    let below : p.less_one * 0 + p.less_one + 0 ≡ p.less_one = omega arith in
    λ i. record { num = above i; less_one = below i }

pub *ℚ_one : (x : ℚ) → x *ℚ one_ℚ ≡ x
*ℚ_one = by_value1 (λ x. x *ℚ one_ℚ) (λ x. x) (λ p. simp values (ap value (times_one p)))

pub one-*ℚ : (x : ℚ) → one_ℚ *ℚ x ≡ x
one-*ℚ x = *ℚ_comm one_ℚ x ∙ *ℚ_one x

pub *ℚ_zero : (x : ℚ) → x *ℚ zero_ℚ ≡ zero_ℚ
*ℚ_zero =
    by_value1 (λ x. x *ℚ zero_ℚ) (λ _. zero_ℚ) (λ p. simp values (value_same (times p (whole_fraction (pos 0))) (whole_fraction (pos 0)) (omega (arith, ints))))

pub zero-*ℚ : (x : ℚ) → zero_ℚ *ℚ x ≡ zero_ℚ
zero-*ℚ x = *ℚ_comm zero_ℚ x ∙ *ℚ_zero x

pub +ℚ_neg : (x : ℚ) → x +ℚ neg_ℚ x ≡ zero_ℚ
+ℚ_neg =
    by_value1 (λ x. x +ℚ neg_ℚ x) (λ _. zero_ℚ) (λ p. simp values (value_same (plus p (minus p)) (whole_fraction (pos 0)) (rw (gone p.num (pos (den p))) (omega (arith, ints)))))
  where
    nothing : (a b : ℤ) → a *ℤ b +ℤ neg_ℤ a *ℤ b ≡ diff 0 0
    nothing = by_diff2 (λ a b. a *ℤ b +ℤ neg_ℤ a *ℤ b ≡ diff 0 0) (λ u v x y. simp diffs (diff-same _ _ 0 0 (omega arith)))

    gone : (a b : ℤ) → a *ℤ b +ℤ neg_ℤ a *ℤ b ≡ pos 0
    gone a b = nothing a b ∙ diff_pos 0

pub neg_ℚ-neg_ℚ : (x : ℚ) → neg_ℚ (neg_ℚ x) ≡ x
neg_ℚ-neg_ℚ =
    by_value1 (λ x. neg_ℚ (neg_ℚ x)) (λ x. x) (λ p. simp values (ap (λ z. value (record { num = z; less_one = p.less_one })) (neg_ℤ-neg_ℤ p.num)))

pub neg_ℚ-*ℚ : (x y : ℚ) → neg_ℚ x *ℚ y ≡ neg_ℚ (x *ℚ y)
neg_ℚ-*ℚ =
    by_value2 (λ x y. neg_ℚ x *ℚ y) (λ x y. neg_ℚ (x *ℚ y)) (λ p q. simp values (ap (λ z. value (record { num = z; less_one = p.less_one * q.less_one + p.less_one + q.less_one })) (Integers.neg-*ℤ p.num q.num)))

pub *ℚ-neg_ℚ : (x y : ℚ) → x *ℚ neg_ℚ y ≡ neg_ℚ (x *ℚ y)
*ℚ-neg_ℚ x y = *ℚ_comm x (neg_ℚ y) ∙ neg_ℚ-*ℚ y x ∙ ap neg_ℚ (*ℚ_comm y x)

pub neg_ℚ-+ℚ : (x y : ℚ) → neg_ℚ (x +ℚ y) ≡ neg_ℚ x +ℚ neg_ℚ y
neg_ℚ-+ℚ =
    by_value2 (λ x y. neg_ℚ (x +ℚ y)) (λ x y. neg_ℚ x +ℚ neg_ℚ y) (λ p q. simp values (ap (λ z. value (record { num = z; less_one = p.less_one * q.less_one + p.less_one + q.less_one })) (ring p.num (pos (den p)) q.num (pos (den q)))))
  where
    ring : (a b c d : ℤ) → neg_ℤ (a *ℤ d +ℤ c *ℤ b) ≡ neg_ℤ a *ℤ d +ℤ neg_ℤ c *ℤ b
    ring = by_diff4 (λ a b c d. neg_ℤ (a *ℤ d +ℤ c *ℤ b) ≡ neg_ℤ a *ℤ d +ℤ neg_ℤ c *ℤ b) (λ u v x y z w s t. simp diffs (diff-same _ _ _ _ (omega arith)))

pub +ℚ-neg_ℚ : (x y : ℚ) → (x +ℚ y) +ℚ neg_ℚ y ≡ x
+ℚ-neg_ℚ x y = +ℚ_assoc x y (neg_ℚ y) ∙ ap (λ z. x +ℚ z) (+ℚ_neg y) ∙ +ℚ_zero x

pub +ℚ_cancel : (x y z : ℚ) → x +ℚ z ≡ y +ℚ z → x ≡ y
+ℚ_cancel x y z e = sym (+ℚ-neg_ℚ x z) ∙ ap (λ w. w +ℚ neg_ℚ z) e ∙ +ℚ-neg_ℚ y z

-- ---- the inverse
pub *ℚ_inverse : (x : ℚ) → x ≢ zero_ℚ → x *ℚ inv_ℚ x ≡ one_ℚ
*ℚ_inverse =
    by_value (λ x. x ≢ zero_ℚ → x *ℚ inv_ℚ x ≡ one_ℚ) (λ x. Π_prop (λ _. ℚ_set (x *ℚ inv_ℚ x) one_ℚ)) (λ p ne. rw (value-inverse p, value-times p (inverse p)) (inverted p.num p.less_one ne))
  where
    inverted : (a : ℤ) (b : ℕ) → value (record { num = a; less_one = b }) ≢ zero_ℚ → value (times (record { num = a; less_one = b }) (inverse (record { num = a; less_one = b }))) ≡ one_ℚ
    inverted (pos zero) b ne = absurd (ne (value_same (record { num = pos 0; less_one = b }) (whole_fraction (pos 0)) (omega (arith, ints))))
    inverted (pos (suc n)) b ne = value_same (times (record { num = pos (suc n); less_one = b }) (record { num = pos (suc b); less_one = n })) (whole_fraction (pos 1)) (omega (arith, ints))
    inverted (negsuc n) b ne = value_same (times (record { num = negsuc n; less_one = b }) (record { num = negsuc b; less_one = n })) (whole_fraction (pos 1)) (omega (arith, ints))

pub /ℚ-*ℚ : (x y : ℚ) → y ≢ zero_ℚ → (x /ℚ y) *ℚ y ≡ x
/ℚ-*ℚ x y ne =
    *ℚ_assoc x (inv_ℚ y) y ∙ ap (λ z. x *ℚ z) (*ℚ_comm (inv_ℚ y) y ∙ *ℚ_inverse y ne) ∙ *ℚ_one x

pub *ℚ-/ℚ : (x y : ℚ) → y ≢ zero_ℚ → (x *ℚ y) /ℚ y ≡ x
*ℚ-/ℚ x y ne =
    *ℚ_assoc x y (inv_ℚ y) ∙ ap (λ z. x *ℚ z) (*ℚ_inverse y ne) ∙ *ℚ_one x

pub *ℚ_cancel : (x y z : ℚ) → z ≢ zero_ℚ → x *ℚ z ≡ y *ℚ z → x ≡ y
*ℚ_cancel x y z ne e = sym (*ℚ-/ℚ x z ne) ∙ ap (λ w. w /ℚ z) e ∙ *ℚ-/ℚ y z ne

-- ---- tests of the order
less_is : (o : Ordering) → T (is_lt o) → o ≡ Less
less_is Less h = refl
less_is Equal h = absurd h
less_is Greater h = absurd h

is_less : (o : Ordering) → o ≡ Less → T (is_lt o)
is_less o e = subst (λ o. T (is_lt o)) (sym e) tt

not_greater : (o : Ordering) → T (is_le o) → (o ≡ Less) ⊎ (o ≡ Equal)
not_greater Less h = inl refl
not_greater Equal h = inr refl
not_greater Greater h = absurd h

at_most : (o : Ordering) → (o ≡ Less) ⊎ (o ≡ Equal) → T (is_le o)
at_most o (inl e) = subst (λ o. T (is_le o)) (sym e) tt
at_most o (inr e) = subst (λ o. T (is_le o)) (sym e) tt

pub <ℚ_is : {x y : ℚ} → x <ℚ y → order_ℚ x y ≡ Less
<ℚ_is {x} {y} h = less_is (order_ℚ x y) h.lt

pub is_<ℚ : {x y : ℚ} → order_ℚ x y ≡ Less → x <ℚ y
is_<ℚ {x} {y} e = record { lt = is_less (order_ℚ x y) e }

pub ≤ℚ_prop : (x y : ℚ) → IsProp (x ≤ℚ y)
≤ℚ_prop x y h k i = record { le = T_prop (is_le (order_ℚ x y)) h.le k.le i }

pub <ℚ_prop : (x y : ℚ) → IsProp (x <ℚ y)
<ℚ_prop x y h k i = record { lt = T_prop (is_lt (order_ℚ x y)) h.lt k.lt i }

-- ---- equality and order by cross products
pub order_crossed : (p q : Fraction) → order_ℚ (value p) (value q) ≡ int_cmp (p.num *ℤ pos (den q)) (q.num *ℤ pos (den p))
unfolding order_of
order_crossed p q = order_ℚ-value p q

pub same_of_order : (x y : ℚ) → order_ℚ x y ≡ Equal → x ≡ y
same_of_order x y =
    by_value (λ x. order_ℚ x y ≡ Equal → x ≡ y) (λ x. Π_prop (λ _. ℚ_set x y)) (λ p. by_value (λ y. order_ℚ (value p) y ≡ Equal → value p ≡ y) (λ y. Π_prop (λ _. ℚ_set (value p) y)) (λ q e. value_same p q (crossed (p.num *ℤ pos (den q)) (q.num *ℤ pos (den p)) (sym (order_crossed p q) ∙ e))) y) x
  where
    crossed : (a b : ℤ) → int_cmp a b ≡ Equal → a ≡ b
    crossed a b e = subst (λ o. MatchOrdering o (a <ℤ b) (a ≡ b) (b <ℤ a)) e (int_ranks a b)

int_less : (a b : ℤ) → a <ℤ b → int_cmp a b ≡ Less
int_less a b h = sym (int_cmp_is a b Less h)

int_equal : (a b : ℤ) → a ≡ b → int_cmp a b ≡ Equal
int_equal a b h = sym (int_cmp_is a b Equal h)

less_int : (a b : ℤ) → int_cmp a b ≡ Less → a <ℤ b
less_int a b e = subst (λ o. MatchOrdering o (a <ℤ b) (a ≡ b) (b <ℤ a)) e (int_ranks a b)

at_most_int : (a b : ℤ) → T (is_le (int_cmp a b)) → a ≤ℤ b
at_most_int a b h = decided (int_cmp a b) (int_ranks a b) h
  where
    decided : (o : Ordering) → MatchOrdering o (a <ℤ b) (a ≡ b) (b <ℤ a) → T (is_le o) → a ≤ℤ b
    decided Less m t = omega (arith, ints)
    decided Equal m t = omega (arith, ints)
    decided Greater m t = absurd t

int_at_most : (a b : ℤ) → a ≤ℤ b → T (is_le (int_cmp a b))
int_at_most a b h = decided (int_cmp a b) (int_ranks a b)
  where
    decided : (o : Ordering) → MatchOrdering o (a <ℤ b) (a ≡ b) (b <ℤ a) → T (is_le o)
    decided Less m = tt
    decided Equal m = tt
    decided Greater m = absurd (omega (arith, ints))

pub value_≡ : (p q : Fraction) → value p ≡ value q → Same p q
value_≡ p q e =
    subst (λ o. MatchOrdering o ((p.num *ℤ pos (den q)) <ℤ (q.num *ℤ pos (den p))) (Same p q) ((q.num *ℤ pos (den p)) <ℤ (p.num *ℤ pos (den q)))) (sym (order_crossed p q) ∙ ap (λ x. order_ℚ x (value q)) e ∙ order_crossed q q ∙ int_equal (q.num *ℤ pos (den q)) (q.num *ℤ pos (den q)) refl) (int_ranks (p.num *ℤ pos (den q)) (q.num *ℤ pos (den p)))

pub ≤ℚ_value : (p q : Fraction) → (p.num *ℤ pos (den q)) ≤ℤ (q.num *ℤ pos (den p)) → value p ≤ℚ value q
≤ℚ_value p q h =
    record { le = subst (λ o. T (is_le o)) (sym (order_crossed p q)) (int_at_most _ _ h) }

pub value_≤ℚ : (p q : Fraction) → value p ≤ℚ value q → (p.num *ℤ pos (den q)) ≤ℤ (q.num *ℤ pos (den p))
value_≤ℚ p q h = at_most_int _ _ (subst (λ o. T (is_le o)) (order_crossed p q) h.le)

pub <ℚ_value : (p q : Fraction) → (p.num *ℤ pos (den q)) <ℤ (q.num *ℤ pos (den p)) → value p <ℚ value q
<ℚ_value p q h = is_<ℚ (order_crossed p q ∙ int_less _ _ h)

pub value_<ℚ : (p q : Fraction) → value p <ℚ value q → (p.num *ℤ pos (den q)) <ℤ (q.num *ℤ pos (den p))
value_<ℚ p q h = less_int _ _ (sym (order_crossed p q) ∙ <ℚ_is h)

-- ---- the order is total
pub order_ℚ_reverse : (x y : ℚ) → order_ℚ x y ≡ ordering_reverse (order_ℚ y x)
order_ℚ_reverse x y =
    by_value (λ x. order_ℚ x y ≡ ordering_reverse (order_ℚ y x)) (λ x. Ordering-set (order_ℚ x y) (ordering_reverse (order_ℚ y x))) (λ p. by_value (λ y. order_ℚ (value p) y ≡ ordering_reverse (order_ℚ y (value p))) (λ y. Ordering-set (order_ℚ (value p) y) (ordering_reverse (order_ℚ y (value p)))) (λ q. order_crossed p q ∙ int_cmp_total.antisymm (p.num *ℤ pos (den q)) (q.num *ℤ pos (den p)) ∙ ap ordering_reverse (sym (order_crossed q p))) y) x

pub order_ℚ_same : (x y : ℚ) → x ≡ y → order_ℚ x y ≡ Equal
order_ℚ_same x y e =
    ap (λ x. order_ℚ x y) e ∙ by_value (λ y. order_ℚ y y ≡ Equal) (λ y. Ordering-set (order_ℚ y y) Equal) (λ q. order_crossed q q ∙ int_equal (q.num *ℤ pos (den q)) (q.num *ℤ pos (den q)) refl) y

-- each answer of the order, with what it says
pub order_ℚ_ranks : (x y : ℚ) → MatchOrdering (order_ℚ x y) (x <ℚ y) (x ≡ y) (y <ℚ x)
order_ℚ_ranks x y = ranked (order_ℚ x y) refl
  where
    ranked : (o : Ordering) → order_ℚ x y ≡ o → MatchOrdering o (x <ℚ y) (x ≡ y) (y <ℚ x)
    ranked Less e = is_<ℚ e
    ranked Equal e = same_of_order x y e
    ranked Greater e = is_<ℚ (order_ℚ_reverse y x ∙ ap ordering_reverse e)

-- a number below a second is below each that is at least the second
chained : (p q r : Fraction) → value p <ℚ value q → value q ≤ℚ value r → value p <ℚ value r
chained p q r h k =
    let a = p.num *ℤ pos (den r) in
    let c = r.num *ℤ pos (den p) in
    let left : (a *ℤ pos (den q)) <ℤ ((q.num *ℤ pos (den r)) *ℤ pos (den p)) = subst₂ ◌<ℤ◌ (Integers.*ℤ_right_comm p.num (pos (den q)) (pos (den r))) (Integers.*ℤ_right_comm q.num (pos (den p)) (pos (den r))) (Integers.<ℤ-*ℤ (p.num *ℤ pos (den q)) (q.num *ℤ pos (den p)) (den r) (zero-lt-suc r.less_one) (value_<ℚ p q h)) in
    let right : ((q.num *ℤ pos (den r)) *ℤ pos (den p)) ≤ℤ (c *ℤ pos (den q)) = subst (λ z. ((q.num *ℤ pos (den r)) *ℤ pos (den p)) ≤ℤ z) (Integers.*ℤ_right_comm r.num (pos (den q)) (pos (den p))) (Integers.≤ℤ-*ℤ (q.num *ℤ pos (den r)) (r.num *ℤ pos (den q)) (den p) (value_≤ℚ q r k)) in
    <ℚ_value p r (Integers.<ℤ-*ℤ_back a c (den q) (<ℤ-≤ℤ_trans left right))

pub <ℚ-≤ℚ_trans : (x y z : ℚ) → x <ℚ y → y ≤ℚ z → x <ℚ z
<ℚ-≤ℚ_trans x y z =
    by_value (λ x. x <ℚ y → y ≤ℚ z → x <ℚ z) (λ x. Π_prop (λ _. Π_prop (λ _. <ℚ_prop x z))) (λ p. by_value (λ y. value p <ℚ y → y ≤ℚ z → value p <ℚ z) (λ y. Π_prop (λ _. Π_prop (λ _. <ℚ_prop (value p) z))) (λ q. by_value (λ z. value p <ℚ value q → value q ≤ℚ z → value p <ℚ z) (λ z. Π_prop (λ _. Π_prop (λ _. <ℚ_prop (value p) z))) (λ r. chained p q r) z) y) x

pub ≤ℚ_from_<ℚ : (x y : ℚ) → x <ℚ y → x ≤ℚ y
≤ℚ_from_<ℚ x y h = record { le = at_most (order_ℚ x y) (inl (<ℚ_is h)) }

pub ≤ℚ_from_≡ : (x y : ℚ) → x ≡ y → x ≤ℚ y
≤ℚ_from_≡ x y e = record { le = at_most (order_ℚ x y) (inr (order_ℚ_same x y e)) }

pub ≤ℚ_refl : (x : ℚ) → x ≤ℚ x
≤ℚ_refl x = ≤ℚ_from_≡ x x refl

-- what is at most a number is below it, or that number
pub ≤ℚ_cases : (x y : ℚ) → x ≤ℚ y → (x <ℚ y) ⊎ (x ≡ y)
≤ℚ_cases x y h =
    elim (not_greater (order_ℚ x y) h.le) [ inl e ↦ inl (is_<ℚ e) | inr e ↦ inr (same_of_order x y e) ]

pub <ℚ_irrefl : (x : ℚ) → ¬ (x <ℚ x)
<ℚ_irrefl x h =
    let e : Equal ≡ Less = sym (order_ℚ_same x x refl) ∙ <ℚ_is h in cc

pub ≤ℚ_total : (x y : ℚ) → (x ≤ℚ y) ⊎ (y <ℚ x)
≤ℚ_total x y = decided (order_ℚ x y) (order_ℚ_ranks x y)
  where
    decided : (o : Ordering) → MatchOrdering o (x <ℚ y) (x ≡ y) (y <ℚ x) → (x ≤ℚ y) ⊎ (y <ℚ x)
    decided Less m = inl (≤ℚ_from_<ℚ x y m)
    decided Equal m = inl (≤ℚ_from_≡ x y m)
    decided Greater m = inr m

pub ≤ℚ-<ℚ_trans : (x y z : ℚ) → x ≤ℚ y → y <ℚ z → x <ℚ z
≤ℚ-<ℚ_trans x y z h k =
    elim (≤ℚ_cases x y h) [ inl l ↦ <ℚ-≤ℚ_trans x y z l (≤ℚ_from_<ℚ y z k) | inr e ↦ subst (λ w. w <ℚ z) (sym e) k ]

pub <ℚ_trans : (x y z : ℚ) → x <ℚ y → y <ℚ z → x <ℚ z
<ℚ_trans x y z h k = <ℚ-≤ℚ_trans x y z h (≤ℚ_from_<ℚ y z k)

pub ≤ℚ_trans : (x y z : ℚ) → x ≤ℚ y → y ≤ℚ z → x ≤ℚ z
≤ℚ_trans x y z h k =
    elim (≤ℚ_cases x y h) [ inl l ↦ ≤ℚ_from_<ℚ x z (<ℚ-≤ℚ_trans x y z l k) | inr e ↦ subst (λ w. w ≤ℚ z) (sym e) k ]

-- two facts that cannot both hold
pub clash_ℚ : (x y : ℚ) → x <ℚ y → y ≤ℚ x → ⊥
clash_ℚ x y h k = <ℚ_irrefl x (<ℚ-≤ℚ_trans x y x h k)

pub ≤ℚ_antisymm : (x y : ℚ) → x ≤ℚ y → y ≤ℚ x → x ≡ y
≤ℚ_antisymm x y h k =
    elim (≤ℚ_cases x y h) [ inl l ↦ absurd (clash_ℚ x y l k) | inr e ↦ e ]

pub order_ℚ_total : IsTotalOrder order_ℚ
order_ℚ_total = record {
  antisymm = order_ℚ_reverse;
  trans = λ x y z h k. <ℚ_is (<ℚ_trans x y z (is_<ℚ h) (is_<ℚ k));
  congr = λ x y z e. ap (λ w. order_ℚ w z) (same_of_order x y e);
}

-- ---- the order and sums, products and negation
int_cmp-shifted : (a b k : ℤ) → int_cmp (a +ℤ k) (b +ℤ k) ≡ int_cmp a b
int_cmp-shifted a b k =
    int_cmp_is a b (int_cmp (a +ℤ k) (b +ℤ k)) (MatchOrdering_weaker (int_cmp (a +ℤ k) (b +ℤ k)) (λ h. lower a b h) (λ h. same h) (λ h. lower b a h) (int_ranks (a +ℤ k) (b +ℤ k)))
  where
    lower : (a b : ℤ) → (a +ℤ k) <ℤ (b +ℤ k) → a <ℤ b
    lower a b h = omega (arith, ints)

    same : a +ℤ k ≡ b +ℤ k → a ≡ b
    same h = omega (arith, ints)

int_cmp-neg : (a b : ℤ) → int_cmp (neg_ℤ a) (neg_ℤ b) ≡ int_cmp b a
int_cmp-neg a b =
    int_cmp_is b a (int_cmp (neg_ℤ a) (neg_ℤ b)) (MatchOrdering_weaker (int_cmp (neg_ℤ a) (neg_ℤ b)) (λ h. turned a b h) (λ h. same h) (λ h. turned b a h) (int_ranks (neg_ℤ a) (neg_ℤ b)))
  where
    turned : (a b : ℤ) → neg_ℤ a <ℤ neg_ℤ b → b <ℤ a
    turned a b h = omega (arith, ints)

    same : neg_ℤ a ≡ neg_ℤ b → b ≡ a
    same h = omega (arith, ints)

order_ℚ_by_value3 : (f g : ℚ → ℚ → ℚ → Ordering) → ((p q r : Fraction) → f (value p) (value q) (value r) ≡ g (value p) (value q) (value r)) → (x y z : ℚ) → f x y z ≡ g x y z
order_ℚ_by_value3 f g h x y z =
    by_value (λ x. f x y z ≡ g x y z) (λ x. Ordering-set (f x y z) (g x y z)) (λ p. by_value (λ y. f (value p) y z ≡ g (value p) y z) (λ y. Ordering-set (f (value p) y z) (g (value p) y z)) (λ q. by_value (λ z. f (value p) (value q) z ≡ g (value p) (value q) z) (λ z. Ordering-set (f (value p) (value q) z) (g (value p) (value q) z)) (λ r. h p q r) z) y) x

order_plus : (p q r : Fraction) → int_cmp ((plus p r).num *ℤ pos (den (plus q r))) ((plus q r).num *ℤ pos (den (plus p r))) ≡ int_cmp (p.num *ℤ pos (den q)) (q.num *ℤ pos (den p))
order_plus p q r =
    rw (den_is p.less_one r.less_one, den_is q.less_one r.less_one) (ap₂ int_cmp (plus_over p.num (pos (den p)) (pos (den q)) r.num (pos (den r))) (plus_under (pos (den p)) q.num (pos (den q)) r.num (pos (den r))) ∙ int_cmp-shifted (p.num *ℤ pos (den q) *ℤ pos (den r * den r)) (q.num *ℤ pos (den p) *ℤ pos (den r * den r)) (r.num *ℤ pos (den p * (den q * den r))) ∙ int_cmp-scaled (p.num *ℤ pos (den q)) (q.num *ℤ pos (den p)) (den r * den r) (omega arith))

-- the same number added on both sides leaves the order
pub order_ℚ-+ℚ : (x y z : ℚ) → order_ℚ (x +ℚ z) (y +ℚ z) ≡ order_ℚ x y
order_ℚ-+ℚ =
    order_ℚ_by_value3 (λ x y z. order_ℚ (x +ℚ z) (y +ℚ z)) (λ x y z. order_ℚ x y) (λ p q r. ap₂ order_ℚ (value-plus p r) (value-plus q r) ∙ order_crossed (plus p r) (plus q r) ∙ order_plus p q r ∙ sym (order_crossed p q))

pub ≤ℚ-+ℚ : (x y z : ℚ) → x ≤ℚ y → (x +ℚ z) ≤ℚ (y +ℚ z)
≤ℚ-+ℚ x y z h = record { le = subst (λ o. T (is_le o)) (sym (order_ℚ-+ℚ x y z)) h.le }

pub <ℚ-+ℚ : (x y z : ℚ) → x <ℚ y → (x +ℚ z) <ℚ (y +ℚ z)
<ℚ-+ℚ x y z h = is_<ℚ (order_ℚ-+ℚ x y z ∙ <ℚ_is h)

pub ≤ℚ-+ℚ_both : (x y z w : ℚ) → x ≤ℚ y → z ≤ℚ w → (x +ℚ z) ≤ℚ (y +ℚ w)
≤ℚ-+ℚ_both x y z w h k =
    ≤ℚ_trans (x +ℚ z) (y +ℚ z) (y +ℚ w) (≤ℚ-+ℚ x y z h) (subst₂ ◌≤ℚ◌ (+ℚ_comm z y) (+ℚ_comm w y) (≤ℚ-+ℚ z w y k))

pub <ℚ-+ℚ_both : (x y z w : ℚ) → x <ℚ y → z ≤ℚ w → (x +ℚ z) <ℚ (y +ℚ w)
<ℚ-+ℚ_both x y z w h k =
    <ℚ-≤ℚ_trans (x +ℚ z) (y +ℚ z) (y +ℚ w) (<ℚ-+ℚ x y z h) (subst₂ ◌≤ℚ◌ (+ℚ_comm z y) (+ℚ_comm w y) (≤ℚ-+ℚ z w y k))

-- negation turns the order
pub order_ℚ-neg_ℚ : (x y : ℚ) → order_ℚ (neg_ℚ x) (neg_ℚ y) ≡ order_ℚ y x
order_ℚ-neg_ℚ x y =
    order_ℚ_by_value3 (λ x y z. order_ℚ (neg_ℚ x) (neg_ℚ y)) (λ x y z. order_ℚ y x) (λ p q r. ap₂ order_ℚ (value-minus p) (value-minus q) ∙ order_crossed (minus p) (minus q) ∙ ap₂ int_cmp (Integers.neg-*ℤ p.num (pos (den q))) (Integers.neg-*ℤ q.num (pos (den p))) ∙ int_cmp-neg (p.num *ℤ pos (den q)) (q.num *ℤ pos (den p)) ∙ sym (order_crossed q p)) x y x

pub ≤ℚ-neg_ℚ : (x y : ℚ) → x ≤ℚ y → neg_ℚ y ≤ℚ neg_ℚ x
≤ℚ-neg_ℚ x y h = record { le = subst (λ o. T (is_le o)) (sym (order_ℚ-neg_ℚ y x)) h.le }

pub <ℚ-neg_ℚ : (x y : ℚ) → x <ℚ y → neg_ℚ y <ℚ neg_ℚ x
<ℚ-neg_ℚ x y h = is_<ℚ (order_ℚ-neg_ℚ y x ∙ <ℚ_is h)

-- ---- signs: a fraction's number has the sign of its numerator
pub order_ℚ-zero : (p : Fraction) → order_ℚ (value p) zero_ℚ ≡ int_cmp p.num (pos 0)
order_ℚ-zero p =
    let left : p.num *ℤ pos 1 ≡ p.num = omega (arith, ints) in
    let right : pos 0 *ℤ pos (den p) ≡ pos 0 = omega (arith, ints) in
    order_crossed p (whole_fraction (pos 0)) ∙ ap₂ int_cmp left right

pub zero-order_ℚ : (p : Fraction) → order_ℚ zero_ℚ (value p) ≡ int_cmp (pos 0) p.num
zero-order_ℚ p =
    let left : pos 0 *ℤ pos (den p) ≡ pos 0 = omega (arith, ints) in
    let right : p.num *ℤ pos 1 ≡ p.num = omega (arith, ints) in
    order_crossed (whole_fraction (pos 0)) p ∙ ap₂ int_cmp left right

pub num_positive : (p : Fraction) → zero_ℚ <ℚ value p → pos 0 <ℤ p.num
num_positive p h = less_int (pos 0) p.num (sym (zero-order_ℚ p) ∙ <ℚ_is h)

pub value_positive : (p : Fraction) → pos 0 <ℤ p.num → zero_ℚ <ℚ value p
value_positive p h = is_<ℚ (zero-order_ℚ p ∙ int_less (pos 0) p.num h)

pub num_negative : (p : Fraction) → value p <ℚ zero_ℚ → p.num <ℤ pos 0
num_negative p h = less_int p.num (pos 0) (sym (order_ℚ-zero p) ∙ <ℚ_is h)

pub value_negative : (p : Fraction) → p.num <ℤ pos 0 → value p <ℚ zero_ℚ
value_negative p h = is_<ℚ (order_ℚ-zero p ∙ int_less p.num (pos 0) h)

pub num_zero : (p : Fraction) → value p ≡ zero_ℚ → p.num ≡ pos 0
num_zero p e = let h = value_≡ p (whole_fraction (pos 0)) e in omega (arith, ints)

pub value_zero : (p : Fraction) → p.num ≡ pos 0 → value p ≡ zero_ℚ
value_zero p e = value_same p (whole_fraction (pos 0)) (omega (arith, ints))

-- ---- positive factors
order_times : (p q r : Fraction) (k : ℕ) → r.num ≡ pos k → 0 < k → int_cmp ((times p r).num *ℤ pos (den (times q r))) ((times q r).num *ℤ pos (den (times p r))) ≡ int_cmp (p.num *ℤ pos (den q)) (q.num *ℤ pos (den p))
order_times p q r k e some =
    rw (den_is p.less_one r.less_one, den_is q.less_one r.less_one, e) (ap₂ int_cmp (times_over p.num (pos (den q)) (pos k) (pos (den r))) (times_over q.num (pos (den p)) (pos k) (pos (den r))) ∙ int_cmp-scaled (p.num *ℤ pos (den q)) (q.num *ℤ pos (den p)) (k * den r) (omega arith))

-- a positive factor on both sides leaves the order
pub order_ℚ-*ℚ : (x y z : ℚ) → zero_ℚ <ℚ z → order_ℚ (x *ℚ z) (y *ℚ z) ≡ order_ℚ x y
order_ℚ-*ℚ x y z =
    by_value (λ x. zero_ℚ <ℚ z → order_ℚ (x *ℚ z) (y *ℚ z) ≡ order_ℚ x y) (λ x. Π_prop (λ _. Ordering-set (order_ℚ (x *ℚ z) (y *ℚ z)) (order_ℚ x y))) (λ p. by_value (λ y. zero_ℚ <ℚ z → order_ℚ (value p *ℚ z) (y *ℚ z) ≡ order_ℚ (value p) y) (λ y. Π_prop (λ _. Ordering-set (order_ℚ (value p *ℚ z) (y *ℚ z)) (order_ℚ (value p) y))) (λ q. by_value (λ z. zero_ℚ <ℚ z → order_ℚ (value p *ℚ z) (value q *ℚ z) ≡ order_ℚ (value p) (value q)) (λ z. Π_prop (λ _. Ordering-set (order_ℚ (value p *ℚ z) (value q *ℚ z)) (order_ℚ (value p) (value q)))) (λ r h. ap₂ order_ℚ (value-times p r) (value-times q r) ∙ order_crossed (times p r) (times q r) ∙ some_factor p q r r.num refl (num_positive r h) ∙ sym (order_crossed p q)) z) y) x
  where
    some_factor : (p q r : Fraction) (e : ℤ) → r.num ≡ e → pos 0 <ℤ r.num → int_cmp ((times p r).num *ℤ pos (den (times q r))) ((times q r).num *ℤ pos (den (times p r))) ≡ int_cmp (p.num *ℤ pos (den q)) (q.num *ℤ pos (den p))
    some_factor p q r (pos k) e h = order_times p q r k e (omega (arith, ints))
    some_factor p q r (negsuc k) e h = absurd (omega (arith, ints))

pub <ℚ-*ℚ : (x y z : ℚ) → zero_ℚ <ℚ z → x <ℚ y → (x *ℚ z) <ℚ (y *ℚ z)
<ℚ-*ℚ x y z some h = is_<ℚ (order_ℚ-*ℚ x y z some ∙ <ℚ_is h)

pub <ℚ-*ℚ_back : (x y z : ℚ) → zero_ℚ <ℚ z → (x *ℚ z) <ℚ (y *ℚ z) → x <ℚ y
<ℚ-*ℚ_back x y z some h = is_<ℚ (sym (order_ℚ-*ℚ x y z some) ∙ <ℚ_is h)

pub ≤ℚ-*ℚ : (x y z : ℚ) → zero_ℚ ≤ℚ z → x ≤ℚ y → (x *ℚ z) ≤ℚ (y *ℚ z)
≤ℚ-*ℚ x y z some h = decided (≤ℚ_cases zero_ℚ z some)
  where
    decided : (zero_ℚ <ℚ z) ⊎ (zero_ℚ ≡ z) → (x *ℚ z) ≤ℚ (y *ℚ z)
    decided (inl above) = record { le = subst (λ o. T (is_le o)) (sym (order_ℚ-*ℚ x y z above)) h.le }
    decided (inr e) = ≤ℚ_from_≡ (x *ℚ z) (y *ℚ z) (ap (λ w. x *ℚ w) (sym e) ∙ *ℚ_zero x ∙ sym (*ℚ_zero y) ∙ ap (λ w. y *ℚ w) e)

pub ≤ℚ-*ℚ_back : (x y z : ℚ) → zero_ℚ <ℚ z → (x *ℚ z) ≤ℚ (y *ℚ z) → x ≤ℚ y
≤ℚ-*ℚ_back x y z some h =
    record { le = subst (λ o. T (is_le o)) (order_ℚ-*ℚ x y z some) h.le }

-- a factor that is not positive turns the order
pub ≤ℚ-*ℚ_turned : (x y z : ℚ) → z ≤ℚ zero_ℚ → x ≤ℚ y → (y *ℚ z) ≤ℚ (x *ℚ z)
≤ℚ-*ℚ_turned x y z below h =
    let none : zero_ℚ ≤ℚ neg_ℚ z = subst (λ w. w ≤ℚ neg_ℚ z) neg_ℚ-zero (≤ℚ-neg_ℚ z zero_ℚ below) in
    subst₂ ◌≤ℚ◌ (twice y) (twice x) (≤ℚ-neg_ℚ (x *ℚ neg_ℚ z) (y *ℚ neg_ℚ z) (≤ℚ-*ℚ x y (neg_ℚ z) none h))
  where
    neg_ℚ-zero : neg_ℚ zero_ℚ ≡ zero_ℚ
    neg_ℚ-zero = value-minus (whole_fraction (pos 0))

    twice : (w : ℚ) → neg_ℚ (w *ℚ neg_ℚ z) ≡ w *ℚ z
    twice w = ap neg_ℚ (*ℚ-neg_ℚ w z) ∙ neg_ℚ-neg_ℚ (w *ℚ z)

pub positive-*ℚ : (x y : ℚ) → zero_ℚ <ℚ x → zero_ℚ <ℚ y → zero_ℚ <ℚ (x *ℚ y)
positive-*ℚ x y h k =
    subst (λ w. w <ℚ (x *ℚ y)) (zero-*ℚ y) (<ℚ-*ℚ zero_ℚ x y k h)

pub not_negative-*ℚ : (x y : ℚ) → zero_ℚ ≤ℚ x → zero_ℚ ≤ℚ y → zero_ℚ ≤ℚ (x *ℚ y)
not_negative-*ℚ x y h k =
    subst (λ w. w ≤ℚ (x *ℚ y)) (zero-*ℚ y) (≤ℚ-*ℚ zero_ℚ x y k h)

pub not_zero : (x : ℚ) → zero_ℚ <ℚ x → x ≢ zero_ℚ
not_zero x h e = <ℚ_irrefl zero_ℚ (subst (λ w. zero_ℚ <ℚ w) e h)

pub positive-inv_ℚ : (x : ℚ) → zero_ℚ <ℚ x → zero_ℚ <ℚ inv_ℚ x
positive-inv_ℚ x h =
    <ℚ-*ℚ_back zero_ℚ (inv_ℚ x) x h (subst₂ ◌<ℚ◌ (sym (zero-*ℚ x)) (sym (*ℚ_inverse x (not_zero x h)) ∙ *ℚ_comm x (inv_ℚ x)) one_positive)
  where
    one_positive : zero_ℚ <ℚ one_ℚ
    one_positive = <ℚ_value (whole_fraction (pos 0)) (whole_fraction (pos 1)) (omega (arith, ints))

-- quotients by positive numbers are in the order of their cross products
pub order_ℚ-/ℚ : (x y z w : ℚ) → zero_ℚ <ℚ z → zero_ℚ <ℚ w → order_ℚ (x /ℚ z) (y /ℚ w) ≡ order_ℚ (x *ℚ w) (y *ℚ z)
order_ℚ-/ℚ x y z w h k =
    sym (order_ℚ-*ℚ (x /ℚ z) (y /ℚ w) z h) ∙ sym (order_ℚ-*ℚ ((x /ℚ z) *ℚ z) ((y /ℚ w) *ℚ z) w k) ∙ ap₂ order_ℚ (ap (λ v. v *ℚ w) (/ℚ-*ℚ x z (not_zero z h))) (*ℚ_assoc (y /ℚ w) z w ∙ ap (λ v. (y /ℚ w) *ℚ v) (*ℚ_comm z w) ∙ sym (*ℚ_assoc (y /ℚ w) w z) ∙ ap (λ v. v *ℚ z) (/ℚ-*ℚ y w (not_zero w k)))

-- ---- whole numbers
pub whole-+ℤ : (a b : ℤ) → whole (a +ℤ b) ≡ whole a +ℚ whole b
whole-+ℤ a b =
    let e : a *ℤ pos 1 +ℤ b *ℤ pos 1 ≡ a +ℤ b = omega (arith, ints) in
    ap whole (sym e) ∙ sym (value-plus (whole_fraction a) (whole_fraction b))

pub whole-*ℤ : (a b : ℤ) → whole (a *ℤ b) ≡ whole a *ℚ whole b
whole-*ℤ a b = sym (value-times (whole_fraction a) (whole_fraction b))

pub whole-neg_ℤ : (a : ℤ) → whole (neg_ℤ a) ≡ neg_ℚ (whole a)
whole-neg_ℤ a = sym (value-minus (whole_fraction a))

pub order_ℚ-whole : (a b : ℤ) → order_ℚ (whole a) (whole b) ≡ int_cmp a b
order_ℚ-whole a b =
    order_crossed (whole_fraction a) (whole_fraction b) ∙ int_cmp-scaled a b 1 (zero-lt-suc 0)

pub ≤ℚ_whole : (a b : ℤ) → a ≤ℤ b → whole a ≤ℚ whole b
≤ℚ_whole a b h =
    record { le = subst (λ o. T (is_le o)) (sym (order_ℚ-whole a b)) (int_at_most a b h) }

pub whole_≤ℚ : (a b : ℤ) → whole a ≤ℚ whole b → a ≤ℤ b
whole_≤ℚ a b h = at_most_int a b (subst (λ o. T (is_le o)) (order_ℚ-whole a b) h.le)

pub <ℚ_whole : (a b : ℤ) → a <ℤ b → whole a <ℚ whole b
<ℚ_whole a b h = is_<ℚ (order_ℚ-whole a b ∙ int_less a b h)

pub whole_<ℚ : (a b : ℤ) → whole a <ℚ whole b → a <ℤ b
whole_<ℚ a b h = less_int a b (sym (order_ℚ-whole a b) ∙ <ℚ_is h)

pub whole_injective : (a b : ℤ) → whole a ≡ whole b → a ≡ b
whole_injective a b e =
    let h = value_≡ (whole_fraction a) (whole_fraction b) e in omega (arith, ints)

-- a fraction's number is its numerator over its denominator
pub value-num : (p : Fraction) → value p *ℚ whole (pos (den p)) ≡ whole p.num
value-num p =
    value-times p (whole_fraction (pos (den p))) ∙ value_same (times p (whole_fraction (pos (den p)))) (whole_fraction p.num) (omega (arith, ints))

pub value_is_quotient : (p : Fraction) → value p ≡ whole p.num /ℚ whole (pos (den p))
value_is_quotient p =
    sym (*ℚ-/ℚ (value p) (whole (pos (den p))) (not_zero _ (<ℚ_whole (pos 0) (pos (den p)) (omega (arith, ints))))) ∙ ap (λ x. x /ℚ whole (pos (den p))) (value-num p)

-- ---- the nearest whole numbers
part_at_most : (a : ℤ) (d : ℕ) → 0 < d → (int_div_euclid a (pos d) *ℤ pos d) ≤ℤ a
part_at_most (pos n) d some = omega (arith, ints, div-add-mod' n d)
part_at_most (negsuc n) d some = omega (arith, ints, div-add-mod' n d, mod-lt n some)

part_below : (a : ℤ) (d : ℕ) → 0 < d → a <ℤ ((int_div_euclid a (pos d) +ℤ pos 1) *ℤ pos d)
part_below (pos n) d some = omega (arith, ints, div-add-mod' n d, mod-lt n some)
part_below (negsuc n) d some =
    let e : negsuc (n / d) +ℤ pos 1 ≡ neg_ℤ (pos (n / d)) = omega (arith, ints) in
    let below : negsuc n <ℤ neg_ℤ (pos (n / d * d)) = omega (arith, ints, div-add-mod' n d) in
    subst (λ z. negsuc n <ℤ z) (sym (Integers.neg-*ℤ (pos (n / d)) (pos d)) ∙ ap (λ z. z *ℤ pos d) (sym e)) below

pub IsFloor-floor_of : (p : Fraction) → IsFloor (value p) (floor_of p)
unfolding floor_of
IsFloor-floor_of p =
    let one : p.num *ℤ pos 1 ≡ p.num = omega (arith, ints) in
    record {
      at_most = ≤ℚ_value (whole_fraction (floor_of p)) p (subst (λ z. (floor_of p *ℤ pos (den p)) ≤ℤ z) (sym one) (part_at_most p.num (den p) (zero-lt-suc p.less_one)));
      below = <ℚ_value p (whole_fraction (floor_of p +ℤ pos 1)) (subst (λ z. z <ℤ ((floor_of p +ℤ pos 1) *ℤ pos (den p))) (sym one) (part_below p.num (den p) (zero-lt-suc p.less_one)));
    }

-- the floor is the greatest whole number that is at most the number
pub floor_greatest : (x : ℚ) (n m : ℤ) → IsFloor x n → whole m ≤ℚ x → m ≤ℤ n
floor_greatest x n m f h =
    let k : m <ℤ (n +ℤ pos 1) = whole_<ℚ m (n +ℤ pos 1) (≤ℚ-<ℚ_trans (whole m) x (whole (n +ℤ pos 1)) h f.below) in
    omega (arith, ints)

pub floor_unique : (x : ℚ) (n m : ℤ) → IsFloor x n → IsFloor x m → n ≡ m
floor_unique x n m f g =
    let h = floor_greatest x n m f g.at_most in
    let k = floor_greatest x m n g f.at_most in
    omega (arith, ints)

pub IsCeiling-ceil_of : (p : Fraction) → IsCeiling (value p) (ceil_of p)
unfolding ceil_of
IsCeiling-ceil_of p =
    let f = IsFloor-floor_of (minus p) in
    let n = floor_of (minus p) in
    let low : neg_ℚ (neg_ℚ (value p)) ≤ℚ neg_ℚ (whole n) = ≤ℚ-neg_ℚ (whole n) (neg_ℚ (value p)) (subst (λ x. whole n ≤ℚ x) (sym (value-minus p)) f.at_most) in
    let high : neg_ℚ (whole (n +ℤ pos 1)) <ℚ neg_ℚ (neg_ℚ (value p)) = <ℚ-neg_ℚ (neg_ℚ (value p)) (whole (n +ℤ pos 1)) (subst (λ x. x <ℚ whole (n +ℤ pos 1)) (sym (value-minus p)) f.below) in
    let turned : neg_ℤ (n +ℤ pos 1) ≡ neg_ℤ n -ℤ pos 1 = omega (arith, ints) in
    record {
      at_least = subst₂ ◌≤ℚ◌ (neg_ℚ-neg_ℚ (value p)) (sym (whole-neg_ℤ n)) low;
      above = subst₂ ◌<ℚ◌ (sym (whole-neg_ℤ (n +ℤ pos 1)) ∙ ap whole turned) (neg_ℚ-neg_ℚ (value p)) high;
    }

-- the ceiling is the least whole number that is at least the number
pub ceiling_least : (x : ℚ) (n m : ℤ) → IsCeiling x n → x ≤ℚ whole m → n ≤ℤ m
ceiling_least x n m f h =
    let k : (n -ℤ pos 1) <ℤ m = whole_<ℚ (n -ℤ pos 1) m (<ℚ-≤ℚ_trans (whole (n -ℤ pos 1)) x (whole m) f.above h) in
    omega (arith, ints)

pub ceiling_unique : (x : ℚ) (n m : ℤ) → IsCeiling x n → IsCeiling x m → n ≡ m
ceiling_unique x n m f g =
    let h = ceiling_least x n m f g.at_least in
    let k = ceiling_least x m n g f.at_least in
    omega (arith, ints)
