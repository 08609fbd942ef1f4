-- The rows of a least number over d, where the truths and the selectors are whole.
use Rattle.std.proofs.Common.{◌≡◌, ◌∙◌, sym, ap, subst, refl, ℕ, zero, suc, ◌<◌, ◌≤◌, ◌+◌, ◌==◌, ℤ, pos, negsuc, ◌+ℤ◌, ◌-ℤ◌, ◌*ℤ◌, neg_ℤ, ◌≤ℤ◌, Bool, true, false, cond, ◌||◌, ◌&&◌, List, [], ◌∷◌, ◌++◌, map, filter, fold, length, All, arith, ◌⊎◌, inl, inr}
use Rattle.std.specs.Prelude.{int_lt}
use Rattle.std.specs.List.{list_any}
use Rattle.std.specs.Ordering.{int_eq}
use Rattle.std.proofs.lemmas.Int.{ints}
use Rattle.std.proofs.lemmas.Bool.{eqb-true}
use Rattle.std.proofs.lemmas.Bool.Decides.{Decides-int_eq}
use Rattle.prov_arena.specs.declared.part.Pair.{Pair}
use Rattle.prov_fold.specs.declared.span.Span.{Span}
use Rattle.prov_fold.specs.Sums.{total_by}
use Rattle.prov_fold.specs.Spans.{least, lesser}
use Rattle.prov_fold.specs.Values.{as_number, holds}
use Rattle.prov_fold.proofs.SameLemmas.{All_head, All_tail}
use Rattle.prov_fold.proofs.Rings.{+ℤ-*ℤ, neg-*ℤ}
use Rattle.prov_fold.proofs.Products.{≤ℤ-*ℤ}
use Rattle.bool_encode.specs.declared.form.Key.{Key}
use Rattle.bool_encode.specs.declared.form.Key.TheVariants as key
use Rattle.bool_encode.specs.declared.form.Piece.{Piece}
use Rattle.bool_encode.specs.Forms.{Form, Hold}
use Rattle.bool_encode.specs.Tellings.{IsBit}
use Rattle.bool_encode.proofs.Numbers.{zero_d, one_times, cancel_le, cancel_is}
use Rattle.bool_encode.proofs.FormLemmas.{Held}
use Rattle.bool_encode.proofs.Bits.{bit_cases}
use Rattle.cmp_encode.specs.Tables.{present_forms, above_forms, below_forms, selectors, sum_forms, end_forms, min_forms}
use Rattle.cmp_encode.proofs.Choices.{Choice, choices, MeetsPairs, IsChoice, AreChoices, present, Picks, PicksHere}
use Rattle.cmp_encode.proofs.LeastGadget.{min_back, min_ahead}

add_mul : (a b : ℤ) (d : ℕ) → (a +ℤ b) *ℤ pos d ≡ a *ℤ pos d +ℤ b *ℤ pos d
add_mul a b d = +ℤ-*ℤ a b (pos d)

neg_mul : (a : ℤ) (d : ℕ) → neg_ℤ a *ℤ pos d ≡ neg_ℤ (a *ℤ pos d)
neg_mul a d = neg-*ℤ a (pos d)

mono_mul : (a b : ℤ) (d : ℕ) → a ≤ℤ b → (a *ℤ pos d) ≤ℤ (b *ℤ pos d)
mono_mul a b d h = ≤ℤ-*ℤ a b d h

pub sub_mul : (a b : ℤ) (d : ℕ) → (a -ℤ b) *ℤ pos d ≡ a *ℤ pos d -ℤ b *ℤ pos d
sub_mul a b d = add_mul a (neg_ℤ b) d ∙ ap (λ (y : ℤ). a *ℤ pos d +ℤ y) (neg_mul b d)

-- ---- least numbers over d

lesser_le : (a b : ℤ) → a ≤ℤ b → lesser a b ≡ a
lesser_le a b h = grind (arith, ints)

lesser_ge : (a b : ℤ) → b ≤ℤ a → lesser a b ≡ b
lesser_ge a b h = grind (arith, ints)

lesser_split : (a b : ℤ) (d : ℕ) (t : Bool) → int_lt a b ≡ t → lesser (a *ℤ pos d) (b *ℤ pos d) ≡ lesser a b *ℤ pos d
lesser_split a b d true e = let h : a ≤ℤ b = grind (arith, ints) in lesser_le (a *ℤ pos d) (b *ℤ pos d) (mono_mul a b d h) ∙ ap (λ (x : ℤ). x *ℤ pos d) (sym (lesser_le a b h))
lesser_split a b d false e = let h : b ≤ℤ a = grind (arith, ints) in lesser_ge (a *ℤ pos d) (b *ℤ pos d) (mono_mul b a d h) ∙ ap (λ (x : ℤ). x *ℤ pos d) (sym (lesser_ge a b h))

fold_d : (d : ℕ) (a : ℤ) (xs : List ℤ) → fold lesser (a *ℤ pos d) (map (λ (x : ℤ). x *ℤ pos d) xs) ≡ fold lesser a xs *ℤ pos d
fold_d d a [] = refl
fold_d d a (x ∷ xs) = ap (λ (y : ℤ). fold lesser y (map (λ (x : ℤ). x *ℤ pos d) xs)) (lesser_split a x d (int_lt a x) refl) ∙ fold_d d (lesser a x) xs

least_d : (d : ℕ) (xs : List ℤ) → least (map (λ (x : ℤ). x *ℤ pos d) xs) ≡ least xs *ℤ pos d
least_d d [] = sym (zero_d d)
least_d d (x ∷ xs) = fold_d d x xs

-- ---- one row each

le_by : (o t w : ℤ) → o ≡ pos 0 → pos 0 ≤ℤ (o +ℤ (pos 1 *ℤ t +ℤ (negsuc 0 *ℤ w +ℤ pos 0))) → w ≤ℤ t
le_by o t w e h = omega (arith, ints)

above_zero : (x xd hd rd n z : ℤ) → xd ≡ hd -ℤ rd → pos 0 ≤ℤ (xd +ℤ (pos 1 *ℤ n +ℤ (neg_ℤ x *ℤ pos 0 +ℤ (negsuc 0 *ℤ z +ℤ pos 0)))) → z ≤ℤ (n +ℤ (hd -ℤ rd) *ℤ (pos 1 -ℤ pos 0))
above_zero x xd hd rd n z e h = omega (arith, ints)

above_one : (xd xn hd rd n z : ℤ) → xn ≡ neg_ℤ xd → pos 0 ≤ℤ (xd +ℤ (pos 1 *ℤ n +ℤ (xn +ℤ (negsuc 0 *ℤ z +ℤ pos 0)))) → z ≤ℤ (n +ℤ (hd -ℤ rd) *ℤ (pos 1 -ℤ pos 1))
above_one xd xn hd rd n z e h = omega (arith, ints)

below_zero : (y yd hd ld n z : ℤ) → yd ≡ hd -ℤ ld → pos 0 ≤ℤ (yd +ℤ (pos 1 *ℤ z +ℤ (negsuc 0 *ℤ n +ℤ (neg_ℤ y *ℤ pos 0 +ℤ pos 0)))) → (n -ℤ (hd -ℤ ld) *ℤ (pos 1 -ℤ pos 0)) ≤ℤ z
below_zero y yd hd ld n z e h = omega (arith, ints)

below_one : (yd yn hd ld n z : ℤ) → yn ≡ neg_ℤ yd → pos 0 ≤ℤ (yd +ℤ (pos 1 *ℤ z +ℤ (negsuc 0 *ℤ n +ℤ (yn +ℤ pos 0)))) → (n -ℤ (hd -ℤ ld) *ℤ (pos 1 -ℤ pos 1)) ≤ℤ z
below_one yd yn hd ld n z e h = omega (arith, ints)

low_zero : (lo ld o z : ℤ) → o ≡ pos 0 → pos 0 ≤ℤ (o +ℤ (pos 1 *ℤ z +ℤ (neg_ℤ lo *ℤ pos 0 +ℤ pos 0))) → (ld *ℤ pos 0) ≤ℤ z
low_zero lo ld o z e h = omega (arith, ints)

low_one : (ln ld o z : ℤ) → o ≡ pos 0 → ln ≡ neg_ℤ ld → pos 0 ≤ℤ (o +ℤ (pos 1 *ℤ z +ℤ (ln +ℤ pos 0))) → (ld *ℤ pos 1) ≤ℤ z
low_one ln ld o z e p h = omega (arith, ints)

high_zero : (hi hd o z : ℤ) → o ≡ pos 0 → pos 0 ≤ℤ (o +ℤ (hi *ℤ pos 0 +ℤ (negsuc 0 *ℤ z +ℤ pos 0))) → z ≤ℤ (hd *ℤ pos 0)
high_zero hi hd o z e h = omega (arith, ints)

high_one : (hd o z : ℤ) → o ≡ pos 0 → pos 0 ≤ℤ (o +ℤ (hd +ℤ (negsuc 0 *ℤ z +ℤ pos 0))) → z ≤ℤ (hd *ℤ pos 1)
high_one hd o z e h = omega (arith, ints)

at_least : (o b sd : ℤ) → o ≡ pos 0 → pos 0 ≤ℤ (o +ℤ (negsuc 0 *ℤ b +ℤ sd)) → b ≤ℤ sd
at_least o b sd e h = omega (arith, ints)

at_most : (o b sn sd : ℤ) → o ≡ pos 0 → sn ≡ neg_ℤ sd → pos 0 ≤ℤ (o +ℤ (pos 1 *ℤ b +ℤ sn)) → sd ≤ℤ b
at_most o b sn sd e p h = omega (arith, ints)

both_ways : (a b : ℤ) → a ≤ℤ b → b ≤ℤ a → a ≡ b
both_ways a b h k = omega (arith, ints)

module _ (d : ℕ) where
  none_is : (v w : ℤ) → v ≡ w *ℤ pos d → w ≡ pos 0 → v ≡ pos 0
  none_is v w e z = e ∙ ap (λ (w : ℤ). w *ℤ pos d) z ∙ zero_d d

  full_is : (v w : ℤ) → v ≡ w *ℤ pos d → w ≡ pos 1 → v ≡ pos d
  full_is v w e o = e ∙ ap (λ (w : ℤ). w *ℤ pos d) o ∙ sym (one_times d)

  above_by : (hi lo n t ft z : ℤ) → ft ≡ t *ℤ pos d → (t ≡ pos 0) ⊎ (t ≡ pos 1) → pos 0 ≤ℤ ((hi -ℤ lo) *ℤ pos d +ℤ (pos 1 *ℤ n +ℤ (neg_ℤ (hi -ℤ lo) *ℤ ft +ℤ (negsuc 0 *ℤ z +ℤ pos 0))))
      → z ≤ℤ (n +ℤ (hi *ℤ pos d -ℤ lo *ℤ pos d) *ℤ (pos 1 -ℤ t))
  above_by hi lo n t ft z e (inl c) h =
      subst (λ (t : ℤ). z ≤ℤ (n +ℤ (hi *ℤ pos d -ℤ lo *ℤ pos d) *ℤ (pos 1 -ℤ t))) (sym c)
      (above_zero (hi -ℤ lo) ((hi -ℤ lo) *ℤ pos d) (hi *ℤ pos d) (lo *ℤ pos d) n z (sub_mul hi lo d)
      (subst (λ (v : ℤ). pos 0 ≤ℤ ((hi -ℤ lo) *ℤ pos d +ℤ (pos 1 *ℤ n +ℤ (neg_ℤ (hi -ℤ lo) *ℤ v +ℤ (negsuc 0 *ℤ z +ℤ pos 0))))) (none_is ft t e c) h))
  above_by hi lo n t ft z e (inr c) h =
      subst (λ (t : ℤ). z ≤ℤ (n +ℤ (hi *ℤ pos d -ℤ lo *ℤ pos d) *ℤ (pos 1 -ℤ t))) (sym c)
      (above_one ((hi -ℤ lo) *ℤ pos d) (neg_ℤ (hi -ℤ lo) *ℤ pos d) (hi *ℤ pos d) (lo *ℤ pos d) n z (neg_mul (hi -ℤ lo) d)
      (subst (λ (v : ℤ). pos 0 ≤ℤ ((hi -ℤ lo) *ℤ pos d +ℤ (pos 1 *ℤ n +ℤ (neg_ℤ (hi -ℤ lo) *ℤ v +ℤ (negsuc 0 *ℤ z +ℤ pos 0))))) (full_is ft t e c) h))

  below_by : (hi lo n w fw z : ℤ) → fw ≡ w *ℤ pos d → (w ≡ pos 0) ⊎ (w ≡ pos 1) → pos 0 ≤ℤ ((hi -ℤ lo) *ℤ pos d +ℤ (pos 1 *ℤ z +ℤ (negsuc 0 *ℤ n +ℤ (neg_ℤ (hi -ℤ lo) *ℤ fw +ℤ pos 0))))
      → (n -ℤ (hi *ℤ pos d -ℤ lo *ℤ pos d) *ℤ (pos 1 -ℤ w)) ≤ℤ z
  below_by hi lo n w fw z e (inl c) h =
      subst (λ (w : ℤ). (n -ℤ (hi *ℤ pos d -ℤ lo *ℤ pos d) *ℤ (pos 1 -ℤ w)) ≤ℤ z) (sym c)
      (below_zero (hi -ℤ lo) ((hi -ℤ lo) *ℤ pos d) (hi *ℤ pos d) (lo *ℤ pos d) n z (sub_mul hi lo d)
      (subst (λ (v : ℤ). pos 0 ≤ℤ ((hi -ℤ lo) *ℤ pos d +ℤ (pos 1 *ℤ z +ℤ (negsuc 0 *ℤ n +ℤ (neg_ℤ (hi -ℤ lo) *ℤ v +ℤ pos 0))))) (none_is fw w e c) h))
  below_by hi lo n w fw z e (inr c) h =
      subst (λ (w : ℤ). (n -ℤ (hi *ℤ pos d -ℤ lo *ℤ pos d) *ℤ (pos 1 -ℤ w)) ≤ℤ z) (sym c)
      (below_one ((hi -ℤ lo) *ℤ pos d) (neg_ℤ (hi -ℤ lo) *ℤ pos d) (hi *ℤ pos d) (lo *ℤ pos d) n z (neg_mul (hi -ℤ lo) d)
      (subst (λ (v : ℤ). pos 0 ≤ℤ ((hi -ℤ lo) *ℤ pos d +ℤ (pos 1 *ℤ z +ℤ (negsuc 0 *ℤ n +ℤ (neg_ℤ (hi -ℤ lo) *ℤ v +ℤ pos 0))))) (full_is fw w e c) h))

  low_by : (lo g fg z : ℤ) → fg ≡ g *ℤ pos d → (g ≡ pos 0) ⊎ (g ≡ pos 1) → pos 0 ≤ℤ (pos 0 *ℤ pos d +ℤ (pos 1 *ℤ z +ℤ (neg_ℤ lo *ℤ fg +ℤ pos 0))) → ((lo *ℤ pos d) *ℤ g) ≤ℤ z
  low_by lo g fg z e (inl c) h = subst (λ (g : ℤ). ((lo *ℤ pos d) *ℤ g) ≤ℤ z) (sym c) (low_zero lo (lo *ℤ pos d) (pos 0 *ℤ pos d) z (zero_d d) (subst (λ (v : ℤ). pos 0 ≤ℤ (pos 0 *ℤ pos d +ℤ (pos 1 *ℤ z +ℤ (neg_ℤ lo *ℤ v +ℤ pos 0)))) (none_is fg g e c) h))
  low_by lo g fg z e (inr c) h = subst (λ (g : ℤ). ((lo *ℤ pos d) *ℤ g) ≤ℤ z) (sym c) (low_one (neg_ℤ lo *ℤ pos d) (lo *ℤ pos d) (pos 0 *ℤ pos d) z (zero_d d) (neg_mul lo d) (subst (λ (v : ℤ). pos 0 ≤ℤ (pos 0 *ℤ pos d +ℤ (pos 1 *ℤ z +ℤ (neg_ℤ lo *ℤ v +ℤ pos 0)))) (full_is fg g e c) h))

  high_by : (hi g fg z : ℤ) → fg ≡ g *ℤ pos d → (g ≡ pos 0) ⊎ (g ≡ pos 1) → pos 0 ≤ℤ (pos 0 *ℤ pos d +ℤ (hi *ℤ fg +ℤ (negsuc 0 *ℤ z +ℤ pos 0))) → z ≤ℤ ((hi *ℤ pos d) *ℤ g)
  high_by hi g fg z e (inl c) h = subst (λ (g : ℤ). z ≤ℤ ((hi *ℤ pos d) *ℤ g)) (sym c) (high_zero hi (hi *ℤ pos d) (pos 0 *ℤ pos d) z (zero_d d) (subst (λ (v : ℤ). pos 0 ≤ℤ (pos 0 *ℤ pos d +ℤ (hi *ℤ v +ℤ (negsuc 0 *ℤ z +ℤ pos 0)))) (none_is fg g e c) h))
  high_by hi g fg z e (inr c) h = subst (λ (g : ℤ). z ≤ℤ ((hi *ℤ pos d) *ℤ g)) (sym c) (high_one (hi *ℤ pos d) (pos 0 *ℤ pos d) z (zero_d d) (subst (λ (v : ℤ). pos 0 ≤ℤ (pos 0 *ℤ pos d +ℤ (hi *ℤ v +ℤ (negsuc 0 *ℤ z +ℤ pos 0)))) (full_is fg g e c) h))

hold_begin : (d : ℕ) (f : Key → ℤ) (xs ys : List Form) → Hold d f (xs ++ ys) → Hold d f xs
hold_begin d f [] ys h = tt
hold_begin d f (x ∷ xs) ys h = (h.0, hold_begin d f xs ys h.1)

hold_end : (d : ℕ) (f : Key → ℤ) (xs ys : List Form) → Hold d f (xs ++ ys) → Hold d f ys
hold_end d f [] ys h = h
hold_end d f (x ∷ xs) ys h = hold_end d f xs ys h.1

-- ---- the rows over d

-- what is known of a pair: v the values, w the selectors' numbers
pub record PairKnown (d : ℕ) (f : Key → ℤ) (v w : ℕ → ℤ) (r : ℕ → Span) (z i : ℕ) (p : Pair) : Type 0 where
  pub truth_is : f (key.Node p.truth) ≡ v p.truth *ℤ pos d
  pub number_is : f (key.Node p.number) ≡ v p.number *ℤ pos d
  pub chosen_is : f (key.Selector z i) ≡ w i *ℤ pos d
  pub truth_low : pos 0 ≤ℤ v p.truth
  pub truth_high : v p.truth ≤ℤ pos 1
  pub chosen_low : pos 0 ≤ℤ w i
  pub chosen_high : w i ≤ℤ pos 1
  pub low : (r p.number).lo ≤ℤ v p.number
  pub high : v p.number ≤ℤ (r p.number).hi

abbrev pub Known : ℕ → (Key → ℤ) → (ℕ → ℤ) → (ℕ → ℤ) → (ℕ → Span) → ℕ → ℕ → List Pair → Type 0
Known d f v w r z i [] = Unit {0}
Known d f v w r z i (p ∷ ps) = PairKnown d f v w r z i p × Known d f v w r z (suc i) ps

module _ (d : ℕ) (f : Key → ℤ) (v w : ℕ → ℤ) (s : Span) (r : ℕ → Span) (z : ℕ) where
  abbrev cs : ℕ → List Pair → List Choice
  cs i pairs = choices v (λ k. f (key.Node k)) (λ k. (r k).lo *ℤ pos d) (λ k. (r k).hi *ℤ pos d) w i pairs

  are : (i : ℕ) (pairs : List Pair) → Known d f v w r z i pairs → AreChoices (cs i pairs)
  are i [] k = tt
  are i (p ∷ ps) k = (
    record {
      truth_low = k.0.truth_low;
      truth_high = k.0.truth_high;
      chosen_low = k.0.chosen_low;
      chosen_high = k.0.chosen_high;
      lo = subst (λ (x : ℤ). ((r p.number).lo *ℤ pos d) ≤ℤ x) (sym k.0.number_is) (mono_mul (r p.number).lo (v p.number) d k.0.low);
      hi = subst (λ (x : ℤ). x ≤ℤ ((r p.number).hi *ℤ pos d)) (sym k.0.number_is) (mono_mul (v p.number) (r p.number).hi d k.0.high);
    },
    are (suc i) ps k.1,
  )

  meets : 0 < d → (i : ℕ) (pairs : List Pair) → Known d f v w r z i pairs → Hold d f (present_forms z i pairs) → Hold d f (above_forms s r z pairs) → Hold d f (below_forms s r z i pairs) → MeetsPairs (s.lo *ℤ pos d) (s.hi *ℤ pos d) (f (key.Node z)) (cs i pairs)
  meets some i [] k h ha hb = tt
  meets some i (p ∷ ps) k h ha hb = (
    record {
      present = cancel_le (w i) (v p.truth) d some (subst (λ (x : ℤ). (w i *ℤ pos d) ≤ℤ x) k.0.truth_is (subst (λ (x : ℤ). x ≤ℤ f (key.Node p.truth)) k.0.chosen_is (le_by (pos 0 *ℤ pos d) (f (key.Node p.truth)) (f (key.Selector z i)) (zero_d d) h.0)));
      above = above_by d s.hi (r p.number).lo (f (key.Node p.number)) (v p.truth) (f (key.Node p.truth)) (f (key.Node z)) k.0.truth_is (bit_cases (v p.truth) k.0.truth_low k.0.truth_high) ha.0;
      below = below_by d (r p.number).hi s.lo (f (key.Node p.number)) (w i) (f (key.Selector z i)) (f (key.Node z)) k.0.chosen_is (bit_cases (w i) k.0.chosen_low k.0.chosen_high) hb.0;
    },
    meets some (suc i) ps k.1 h.1 ha.1 hb.1,
  )

  sum_step : (a b c e : ℤ) → a ≡ b → c ≡ e → pos 1 *ℤ a +ℤ c ≡ b +ℤ e
  sum_step a b c e p q = omega (arith, ints)

  neg_step : (a b c e : ℤ) → a ≡ b → c ≡ neg_ℤ e → negsuc 0 *ℤ a +ℤ c ≡ neg_ℤ (b +ℤ e)
  neg_step a b c e p q = omega (arith, ints)

  sum_is : (i : ℕ) (pairs : List Pair) → Known d f v w r z i pairs → total_by (λ (t : Piece). t.factor *ℤ f t.key) (selectors (pos 1) z i pairs) ≡ total_by (λ (c : Choice). c.chosen) (cs i pairs) *ℤ pos d
  sum_is i [] k = sym (zero_d d)
  sum_is i (p ∷ ps) k = sum_step (f (key.Selector z i)) (w i *ℤ pos d) _ _ k.0.chosen_is (sum_is (suc i) ps k.1) ∙ sym (add_mul (w i) (total_by (λ (c : Choice). c.chosen) (cs (suc i) ps)) d)

  neg_is : (i : ℕ) (pairs : List Pair) → Known d f v w r z i pairs → total_by (λ (t : Piece). t.factor *ℤ f t.key) (selectors (negsuc 0) z i pairs) ≡ neg_ℤ (total_by (λ (c : Choice). c.chosen) (cs i pairs) *ℤ pos d)
  neg_is i [] k = sym (ap neg_ℤ (zero_d d))
  neg_is i (p ∷ ps) k = neg_step (f (key.Selector z i)) (w i *ℤ pos d) _ (total_by (λ (c : Choice). c.chosen) (cs (suc i) ps) *ℤ pos d) k.0.chosen_is (neg_is (suc i) ps k.1) ∙ ap neg_ℤ (sym (add_mul (w i) (total_by (λ (c : Choice). c.chosen) (cs (suc i) ps)) d))

  any_is : (i : ℕ) (pairs : List Pair) → list_any (λ (c : Choice). int_eq c.truth (pos 1)) (cs i pairs) ≡ list_any (λ (p : Pair). holds v p.truth) pairs
  any_is i [] = refl
  any_is i (p ∷ ps) = ap (λ b. int_eq (v p.truth) (pos 1) || b) (any_is (suc i) ps)

  keep_step : (b : Bool) (n : ℤ) (p : Pair) (ns : List ℤ) (ps : List Pair) → n ≡ v p.number *ℤ pos d → ns ≡ map (λ (x : ℤ). x *ℤ pos d) (map (λ (p : Pair). v p.number) ps)
      → cond b (n ∷ ns) ns ≡ map (λ (x : ℤ). x *ℤ pos d) (map (λ (p : Pair). v p.number) (cond b (p ∷ ps) ps))
  keep_step true n p ns ps e h = λ i. e i ∷ h i
  keep_step false n p ns ps e h = h

  present_is : (i : ℕ) (pairs : List Pair) → Known d f v w r z i pairs → present (cs i pairs) ≡ map (λ (x : ℤ). x *ℤ pos d) (map (λ (p : Pair). v p.number) (filter (λ (p : Pair). holds v p.truth) pairs))
  present_is i [] k = refl
  present_is i (p ∷ ps) k = keep_step (holds v p.truth) (f (key.Node p.number)) p (present (cs (suc i) ps)) (filter (λ (p : Pair). holds v p.truth) ps) k.0.number_is (present_is (suc i) ps k.1)

  bit_of : (t : Bool) (x : ℤ) → x ≡ as_number t → (x ≡ pos 0) ⊎ (x ≡ pos 1)
  bit_of true x e = inr e
  bit_of false x e = inl e

  -- b the truth that a pair is there
  pub min_over : 0 < d → (h : Span) (b : ℕ) (pairs : List Pair) → f (key.Node b) ≡ v b *ℤ pos d → v b ≡ as_number (list_any (λ (p : Pair). holds v p.truth) pairs) → Known d f v w r z 0 pairs → Hold d f (min_forms s h r b z pairs)
      → f (key.Node z) ≡ least (map (λ (p : Pair). v p.number) (filter (λ (p : Pair). holds v p.truth) pairs)) *ℤ pos d
  min_over some h b pairs b_is any k rows =
      let presents = present_forms z 0 pairs in
      let aboves = above_forms s r z pairs in
      let belows = below_forms s r z 0 pairs in
      let ends = end_forms h b z in
      let sums = hold_end d f presents (sum_forms b z pairs ++ (aboves ++ (belows ++ ends))) rows in
      let later = hold_end d f aboves (belows ++ ends) sums.1.1 in
      let last = hold_end d f belows ends later in
      let bit = bit_of (list_any (λ (p : Pair). holds v p.truth) pairs) (v b) any in
      let sum = total_by (λ (c : Choice). c.chosen) (cs 0 pairs) in
      let more : f (key.Node b) ≤ℤ (sum *ℤ pos d) = subst (λ (x : ℤ). f (key.Node b) ≤ℤ x) (sum_is 0 pairs k) (at_least (pos 0 *ℤ pos d) (f (key.Node b)) _ (zero_d d) sums.0) in
      let less : (sum *ℤ pos d) ≤ℤ f (key.Node b) = at_most (pos 0 *ℤ pos d) (f (key.Node b)) _ (sum *ℤ pos d) (zero_d d) (neg_is 0 pairs k) sums.1.0 in
      let one : sum ≡ v b = cancel_is sum (v b) d some (both_ways (sum *ℤ pos d) (f (key.Node b)) less more ∙ b_is) in
      min_back (s.lo *ℤ pos d) (s.hi *ℤ pos d) (h.lo *ℤ pos d) (h.hi *ℤ pos d) (v b) (f (key.Node z)) (cs 0 pairs) (any ∙ ap as_number (sym (any_is 0 pairs))) (are 0 pairs k)
      (record {
        pairs = meets some 0 pairs k (hold_begin d f presents (sum_forms b z pairs ++ (aboves ++ (belows ++ ends))) rows) (hold_begin d f aboves (belows ++ ends) sums.1.1) (hold_begin d f belows ends later);
        one = one;
        low = low_by d h.lo (v b) (f (key.Node b)) (f (key.Node z)) b_is bit last.0;
        high = high_by d h.hi (v b) (f (key.Node b)) (f (key.Node z)) b_is bit last.1.0;
      })
      ∙ ap least (present_is 0 pairs k) ∙ least_d d (map (λ (p : Pair). v p.number) (filter (λ (p : Pair). holds v p.truth) pairs))

-- ---- the whole numbers of selectors

-- 1 where the number is d, else 0
abbrev pub chosen_part : ℕ → ℤ → ℤ
chosen_part d n = cond (int_eq n (pos d)) (pos 1) (pos 0)

none_chosen : (d : ℕ) → 0 < d → int_eq (pos 0) (pos d) ≡ false
none_chosen d some = grind (arith, ints)

all_chosen : (d : ℕ) → int_eq (pos d) (pos d) ≡ true
all_chosen d = (Decides-int_eq (pos d) (pos d)).1 refl

pub record IsChosen (d : ℕ) (n w : ℤ) : Type 0 where
  pub is : n ≡ w *ℤ pos d
  pub low : pos 0 ≤ℤ w
  pub high : w ≤ℤ pos 1

chosen_zero : (d : ℕ) → IsChosen d (pos 0) (pos 0)
chosen_zero d = record { is = sym (zero_d d); low = omega (arith, ints); high = omega (arith, ints) }

chosen_one : (d : ℕ) → IsChosen d (pos d) (pos 1)
chosen_one d = record { is = one_times d; low = omega (arith, ints); high = omega (arith, ints) }

-- where it is 0 or d, that is the whole number
pub selector_is : (d : ℕ) (n : ℤ) → 0 < d → IsBit d n → IsChosen d n (chosen_part d n)
selector_is d n some (inl e) =
    subst (λ (m : ℤ). IsChosen d m (chosen_part d m)) (sym e) (subst (λ (b : Bool). IsChosen d (pos 0) (cond b (pos 1) (pos 0))) (sym (none_chosen d some)) (chosen_zero d))
selector_is d n some (inr e) =
    subst (λ (m : ℤ). IsChosen d m (chosen_part d m)) (sym e) (subst (λ (b : Bool). IsChosen d (pos d) (cond b (pos 1) (pos 0))) (sym (all_chosen d)) (chosen_one d))

-- ---- the rows at whole numbers

abbrev pub keyed : (ℕ → ℤ) → ℕ → (ℕ → ℤ) → Key → ℤ
keyed v z w (key.Node k) = v k
keyed v z w (key.Selector k i) = w i

row_present : (t w : ℤ) → w ≤ℤ t → pos 0 ≤ℤ (pos 0 +ℤ (pos 1 *ℤ t +ℤ (negsuc 0 *ℤ w +ℤ pos 0)))
row_present t w h = omega (arith, ints)

row_above : (hi lo n t z : ℤ) → pos 0 ≤ℤ t → t ≤ℤ pos 1 → z ≤ℤ (n +ℤ (hi -ℤ lo) *ℤ (pos 1 -ℤ t)) → pos 0 ≤ℤ ((hi -ℤ lo) +ℤ (pos 1 *ℤ n +ℤ (neg_ℤ (hi -ℤ lo) *ℤ t +ℤ (negsuc 0 *ℤ z +ℤ pos 0))))
row_above hi lo n (pos zero) z a b h = omega (arith, ints)
row_above hi lo n (pos (suc zero)) z a b h = omega (arith, ints)
row_above hi lo n (pos (suc (suc t))) z a b h = absurd (omega (arith, ints))
row_above hi lo n (negsuc t) z a b h = absurd (omega (arith, ints))

row_below : (hi lo n w z : ℤ) → pos 0 ≤ℤ w → w ≤ℤ pos 1 → (n -ℤ (hi -ℤ lo) *ℤ (pos 1 -ℤ w)) ≤ℤ z → pos 0 ≤ℤ ((hi -ℤ lo) +ℤ (pos 1 *ℤ z +ℤ (negsuc 0 *ℤ n +ℤ (neg_ℤ (hi -ℤ lo) *ℤ w +ℤ pos 0))))
row_below hi lo n (pos zero) z a b h = omega (arith, ints)
row_below hi lo n (pos (suc zero)) z a b h = omega (arith, ints)
row_below hi lo n (pos (suc (suc w))) z a b h = absurd (omega (arith, ints))
row_below hi lo n (negsuc w) z a b h = absurd (omega (arith, ints))

row_low : (lo g z : ℤ) → pos 0 ≤ℤ g → g ≤ℤ pos 1 → (lo *ℤ g) ≤ℤ z → pos 0 ≤ℤ (pos 0 +ℤ (pos 1 *ℤ z +ℤ (neg_ℤ lo *ℤ g +ℤ pos 0)))
row_low lo (pos zero) z a b h = omega (arith, ints)
row_low lo (pos (suc zero)) z a b h = omega (arith, ints)
row_low lo (pos (suc (suc g))) z a b h = absurd (omega (arith, ints))
row_low lo (negsuc g) z a b h = absurd (omega (arith, ints))

row_high : (hi g z : ℤ) → z ≤ℤ (hi *ℤ g) → pos 0 ≤ℤ (pos 0 +ℤ (hi *ℤ g +ℤ (negsuc 0 *ℤ z +ℤ pos 0)))
row_high hi g z h = omega (arith, ints)

row_more : (b s : ℤ) → s ≡ b → pos 0 ≤ℤ (pos 0 +ℤ (negsuc 0 *ℤ b +ℤ s))
row_more b s e = omega (arith, ints)

row_less : (b s n : ℤ) → s ≡ b → n ≡ neg_ℤ s → pos 0 ≤ℤ (pos 0 +ℤ (pos 1 *ℤ b +ℤ n))
row_less b s n e p = omega (arith, ints)

low_at : (lo z g : ℤ) (t : Bool) → g ≡ as_number t → (t ≡ true → lo ≤ℤ z) → (t ≡ false → z ≡ pos 0) → (lo *ℤ g) ≤ℤ z
low_at lo z g true e h n = let k = h refl in subst (λ (g : ℤ). (lo *ℤ g) ≤ℤ z) (sym e) (omega (arith, ints, k))
low_at lo z g false e h n = let k = n refl in subst (λ (g : ℤ). (lo *ℤ g) ≤ℤ z) (sym e) (omega (arith, ints, k))

high_at : (hi z g : ℤ) (t : Bool) → g ≡ as_number t → (t ≡ true → z ≤ℤ hi) → (t ≡ false → z ≡ pos 0) → z ≤ℤ (hi *ℤ g)
high_at hi z g true e h n = let k = h refl in subst (λ (g : ℤ). z ≤ℤ (hi *ℤ g)) (sym e) (omega (arith, ints, k))
high_at hi z g false e h n = let k = n refl in subst (λ (g : ℤ). z ≤ℤ (hi *ℤ g)) (sym e) (omega (arith, ints, k))

bit_low : (t : Bool) (g : ℤ) → g ≡ as_number t → pos 0 ≤ℤ g
bit_low true g e = omega (arith, ints)
bit_low false g e = omega (arith, ints)

bit_high : (t : Bool) (g : ℤ) → g ≡ as_number t → g ≤ℤ pos 1
bit_high true g e = omega (arith, ints)
bit_high false g e = omega (arith, ints)

none_there : (v : ℕ → ℤ) (pairs : List Pair) → list_any (λ (p : Pair). holds v p.truth) pairs ≡ false → filter (λ (p : Pair). holds v p.truth) pairs ≡ []
none_there v [] e = refl
none_there v (p ∷ ps) e = by_test (holds v p.truth) e (none_there v ps)
  where
    by_test : (b : Bool) → (b || list_any (λ (p : Pair). holds v p.truth) ps) ≡ false → (list_any (λ (p : Pair). holds v p.truth) ps ≡ false → filter (λ (p : Pair). holds v p.truth) ps ≡ []) → cond b (p ∷ filter (λ (p : Pair). holds v p.truth) ps) (filter (λ (p : Pair). holds v p.truth) ps) ≡ []
    by_test true e r = cc
    by_test false e r = r e

-- what is known of a pair's truth and number
pub record PairIn (v : ℕ → ℤ) (r : ℕ → Span) (p : Pair) : Type 0 where
  pub truth_low : pos 0 ≤ℤ v p.truth
  pub truth_high : v p.truth ≤ℤ pos 1
  pub low : (r p.number).lo ≤ℤ v p.number
  pub high : v p.number ≤ℤ (r p.number).hi

less_of : (i j : ℕ) → i ≤ j → (i == j) ≡ false → i < j
less_of i j le e = grind arith

module _ (v w : ℕ → ℤ) (s : Span) (r : ℕ → Span) (z : ℕ) where
  abbrev ws : ℕ → List Pair → List Choice
  ws i pairs = choices v v (λ k. (r k).lo) (λ k. (r k).hi) w i pairs

  one_bit : (n : ℤ) → n ≡ pos 1 → (pos 0 ≤ℤ n) × (n ≤ℤ pos 1)
  one_bit n e = (omega (arith, ints), omega (arith, ints))

  no_bit : (n : ℤ) → n ≡ pos 0 → (pos 0 ≤ℤ n) × (n ≤ℤ pos 1)
  no_bit n e = (omega (arith, ints), omega (arith, ints))

  choice_of : (i : ℕ) (p : Pair) → PairIn v r p → (pos 0 ≤ℤ w i) × (w i ≤ℤ pos 1) → IsChoice (record { truth = v p.truth; number = v p.number; lo = (r p.number).lo; hi = (r p.number).hi; chosen = w i })
  choice_of i p k b = record { truth_low = k.truth_low; truth_high = k.truth_high; chosen_low = b.0; chosen_high = b.1; lo = k.low; hi = k.high }

  are_off : (n : ℤ) (i : ℕ) (pairs : List Pair) → All (PairIn v r) pairs → Picks true n (ws i pairs) → AreChoices (ws i pairs)
  are_off n i [] k h = tt
  are_off n i (p ∷ ps) k h = (choice_of i p (All_head (PairIn v r) p ps k) (no_bit (w i) h.0), are_off n (suc i) ps (All_tail (PairIn v r) p ps k) h.1)

  are_on : (n : ℤ) (i : ℕ) (pairs : List Pair) → All (PairIn v r) pairs → Picks false n (ws i pairs) → AreChoices (ws i pairs)
  are_on n i [] k h = tt
  are_on n i (p ∷ ps) k h = by_test (int_eq (v p.truth) (pos 1) && int_eq (v p.number) n) h (are_off n (suc i) ps (All_tail (PairIn v r) p ps k)) (are_on n (suc i) ps (All_tail (PairIn v r) p ps k))
    where
      by_test : (b : Bool) → PicksHere b (w i) (Picks true n (ws (suc i) ps)) (Picks false n (ws (suc i) ps)) → (Picks true n (ws (suc i) ps) → AreChoices (ws (suc i) ps)) → (Picks false n (ws (suc i) ps) → AreChoices (ws (suc i) ps)) → AreChoices (ws i (p ∷ ps))
      by_test true h off on = (choice_of i p (All_head (PairIn v r) p ps k) (one_bit (w i) h.0), off h.1)
      by_test false h off on = (choice_of i p (All_head (PairIn v r) p ps k) (no_bit (w i) h.0), on h.1)

  bits_are : (i : ℕ) (pairs : List Pair) → AreChoices (ws i pairs) → (j : ℕ) → i ≤ j → j < i + length pairs → (pos 0 ≤ℤ w j) × (w j ≤ℤ pos 1)
  bits_are i [] a j le lt = absurd (omega (arith, le, lt))
  bits_are i (p ∷ ps) a j le lt = by_test (i == j) refl (λ less. bits_are (suc i) ps a.1 j (omega (arith, less)) (omega (arith, lt)))
    where
      by_test : (b : Bool) → (i == j) ≡ b → (i < j → (pos 0 ≤ℤ w j) × (w j ≤ℤ pos 1)) → (pos 0 ≤ℤ w j) × (w j ≤ℤ pos 1)
      by_test true e later = subst (λ (k : ℕ). (pos 0 ≤ℤ w k) × (w k ≤ℤ pos 1)) (eqb-true i j e) (a.0.chosen_low, a.0.chosen_high)
      by_test false e later = later (less_of i j le e)

  present_held : (i : ℕ) (pairs : List Pair) (more : List Form) → AreChoices (ws i pairs) → MeetsPairs s.lo s.hi (v z) (ws i pairs) → Held (keyed v z w) more → Held (keyed v z w) (present_forms z i pairs ++ more)
  present_held i [] more a m h = h
  present_held i (p ∷ ps) more a m h = (row_present (v p.truth) (w i) m.0.present, present_held (suc i) ps more a.1 m.1 h)

  above_held : (i : ℕ) (pairs : List Pair) (more : List Form) → AreChoices (ws i pairs) → MeetsPairs s.lo s.hi (v z) (ws i pairs) → Held (keyed v z w) more → Held (keyed v z w) (above_forms s r z pairs ++ more)
  above_held i [] more a m h = h
  above_held i (p ∷ ps) more a m h = (row_above s.hi (r p.number).lo (v p.number) (v p.truth) (v z) a.0.truth_low a.0.truth_high m.0.above, above_held (suc i) ps more a.1 m.1 h)

  below_held : (i : ℕ) (pairs : List Pair) (more : List Form) → AreChoices (ws i pairs) → MeetsPairs s.lo s.hi (v z) (ws i pairs) → Held (keyed v z w) more → Held (keyed v z w) (below_forms s r z i pairs ++ more)
  below_held i [] more a m h = h
  below_held i (p ∷ ps) more a m h = (row_below (r p.number).hi s.lo (v p.number) (w i) (v z) a.0.chosen_low a.0.chosen_high m.0.below, below_held (suc i) ps more a.1 m.1 h)

  plus_step : (a c e : ℤ) → c ≡ e → pos 1 *ℤ a +ℤ c ≡ a +ℤ e
  plus_step a c e q = omega (arith, ints)

  minus_step : (a c e : ℤ) → c ≡ neg_ℤ e → negsuc 0 *ℤ a +ℤ c ≡ neg_ℤ (a +ℤ e)
  minus_step a c e q = omega (arith, ints)

  plus_is : (i : ℕ) (pairs : List Pair) → total_by (λ (t : Piece). t.factor *ℤ keyed v z w t.key) (selectors (pos 1) z i pairs) ≡ total_by (λ (c : Choice). c.chosen) (ws i pairs)
  plus_is i [] = refl
  plus_is i (p ∷ ps) = plus_step (w i) _ _ (plus_is (suc i) ps)

  minus_is : (i : ℕ) (pairs : List Pair) → total_by (λ (t : Piece). t.factor *ℤ keyed v z w t.key) (selectors (negsuc 0) z i pairs) ≡ neg_ℤ (total_by (λ (c : Choice). c.chosen) (ws i pairs))
  minus_is i [] = refl
  minus_is i (p ∷ ps) = minus_step (w i) _ (total_by (λ (c : Choice). c.chosen) (ws (suc i) ps)) (minus_is (suc i) ps)

  any_whole : (i : ℕ) (pairs : List Pair) → list_any (λ (c : Choice). int_eq c.truth (pos 1)) (ws i pairs) ≡ list_any (λ (p : Pair). holds v p.truth) pairs
  any_whole i [] = refl
  any_whole i (p ∷ ps) = ap (λ b. int_eq (v p.truth) (pos 1) || b) (any_whole (suc i) ps)

  whole_step : (b : Bool) (p : Pair) (ns : List ℤ) (ps : List Pair) → ns ≡ map (λ (p : Pair). v p.number) ps → cond b (v p.number ∷ ns) ns ≡ map (λ (p : Pair). v p.number) (cond b (p ∷ ps) ps)
  whole_step true p ns ps h = ap (λ (ns : List ℤ). v p.number ∷ ns) h
  whole_step false p ns ps h = h

  present_whole : (i : ℕ) (pairs : List Pair) → present (ws i pairs) ≡ map (λ (p : Pair). v p.number) (filter (λ (p : Pair). holds v p.truth) pairs)
  present_whole i [] = refl
  present_whole i (p ∷ ps) = whole_step (holds v p.truth) p (present (ws (suc i) ps)) (filter (λ (p : Pair). holds v p.truth) ps) (present_whole (suc i) ps)

  pub min_held : (h : Span) (b : ℕ) (pairs : List Pair) → v b ≡ as_number (list_any (λ (p : Pair). holds v p.truth) pairs) → All (PairIn v r) pairs → s.lo ≤ℤ v z → v z ≤ℤ s.hi → (list_any (λ (p : Pair). holds v p.truth) pairs ≡ true → (h.lo ≤ℤ v z) × (v z ≤ℤ h.hi))
      → v z ≡ least (map (λ (p : Pair). v p.number) (filter (λ (p : Pair). holds v p.truth) pairs)) → Picks false (v z) (ws 0 pairs) → Held (keyed v z w) (min_forms s h r b z pairs)
  min_held h b pairs any known low high narrow is picks =
      let t = list_any (λ (p : Pair). holds v p.truth) pairs in
      let a = are_on (v z) 0 pairs known picks in
      let none : t ≡ false → v z ≡ pos 0 = λ e. is ∙ ap (λ (ps : List Pair). least (map (λ (p : Pair). v p.number) ps)) (none_there v pairs e) in
      let m = min_ahead s.lo s.hi h.lo h.hi (v b) (v z) (ws 0 pairs) (any ∙ ap as_number (sym (any_whole 0 pairs))) a (is ∙ ap least (sym (present_whole 0 pairs))) low high
      (low_at h.lo (v z) (v b) t any (λ e. (narrow e).0) none) (high_at h.hi (v z) (v b) t any (λ e. (narrow e).1) none) picks in
      let ends : Held (keyed v z w) (end_forms h b z) = (row_low h.lo (v b) (v z) (bit_low t (v b) any) (bit_high t (v b) any) m.low, (row_high h.hi (v b) (v z) m.high, tt)) in
      let pairs_end = above_held 0 pairs (below_forms s r z 0 pairs ++ end_forms h b z) a m.pairs (below_held 0 pairs (end_forms h b z) a m.pairs ends) in
      present_held 0 pairs (sum_forms b z pairs ++ (above_forms s r z pairs ++ (below_forms s r z 0 pairs ++ end_forms h b z))) a m.pairs
      (row_more (v b) _ (plus_is 0 pairs ∙ m.one), (row_less (v b) (total_by (λ (c : Choice). c.chosen) (ws 0 pairs)) _ m.one (minus_is 0 pairs), pairs_end))

pub pick_bits : (v w : ℕ → ℤ) (r : ℕ → Span) (n : ℤ) (pairs : List Pair) → All (PairIn v r) pairs → Picks false n (choices v v (λ k. (r k).lo) (λ k. (r k).hi) w 0 pairs) → (i : ℕ) → i < length pairs → (pos 0 ≤ℤ w i) × (w i ≤ℤ pos 1)
pick_bits v w r n pairs known picks i lt = bits_are v w (r 0) r 0 0 pairs (are_on v w (r 0) r 0 n 0 pairs known picks) i (omega arith) (omega (arith, lt))
