-- The rows of a Min at whole numbers: they hold exactly where a pair with the least number alone is chosen.
use Rattle.std.proofs.Common.{◌≡◌, ◌≢◌, ◌∙◌, sym, ap, subst, refl, ℕ, zero, suc, ◌+◌, ◌<◌, ◌≤◌, ◌==◌, ◌⊎◌, inl, inr, ℤ, pos, negsuc, ◌+ℤ◌, ◌-ℤ◌, ◌*ℤ◌, neg_ℤ, ◌≤ℤ◌, Bool, true, false, ◌&&◌, List, [], ◌∷◌, ◌++◌, length, All, arith}
use Rattle.std.specs.Ordering.{int_eq}
use Rattle.std.proofs.lemmas.Int.{ints}
use Rattle.std.proofs.lemmas.Bool.{and_parts, eqb-true}
use Rattle.std.proofs.lemmas.Bool.Decides.{Decides-int_eq}
use Rattle.prov_arena.specs.declared.part.Pair.{Pair}
use Rattle.prov_fold.specs.declared.span.Span.{Span}
use Rattle.prov_fold.specs.Sums.{total_by}
use Rattle.prov_fold.specs.Values.{as_number, holds}
use Rattle.prov_fold.proofs.SameLemmas.{All_head, All_tail}
use Rattle.bool_encode.specs.declared.form.Key.{Key}
use Rattle.bool_encode.specs.declared.form.Piece.{Piece}
use Rattle.bool_encode.specs.Forms.{Form}
use Rattle.bool_encode.specs.Points.{has_least}
use Rattle.bool_encode.proofs.FormLemmas.{Held}
use Rattle.cmp_encode.specs.Tables.{present_forms, above_forms, below_forms, selectors, sum_forms, end_forms, min_forms}
use Rattle.cmp_encode.proofs.LeastForms.{PairIn, keyed}
use Rattle.least_encode.specs.Told.{pair_at}

-- ---- selectors in turn, from the number i on

-- each is 0, or it is 1 and its pair is such
abbrev pub Such : (ℕ → ℤ) → (Pair → Bool) → ℕ → Pair → Type 0
Such w q i p = (w i ≡ pos 0) ⊎ ((w i ≡ pos 1) × (q p ≡ true))

abbrev pub AllSuch : (ℕ → ℤ) → (Pair → Bool) → ℕ → List Pair → Type 0
AllSuch w q i [] = Unit {0}
AllSuch w q i (p ∷ ps) = Such w q i p × AllSuch w q (suc i) ps

abbrev pub total : (ℕ → ℤ) → ℕ → List Pair → ℤ
total w i [] = pos 0
total w i (p ∷ ps) = w i +ℤ total w (suc i) ps

abbrev pub AreBits : (ℕ → ℤ) → ℕ → List Pair → Type 0
AreBits w i ps = (j : ℕ) → i ≤ j → j < i + length ps → (w j ≡ pos 0) ⊎ (w j ≡ pos 1)

abbrev pub AreNone : (ℕ → ℤ) → ℕ → List Pair → Type 0
AreNone w i ps = (j : ℕ) → i ≤ j → j < i + length ps → w j ≡ pos 0

-- this one is 1, and the others are 0
pub record IsOne (w : ℕ → ℤ) (i : ℕ) (ps : List Pair) (j : ℕ) : Type 0 where
  pub from : i ≤ j
  pub below : j < i + length ps
  pub one : w j ≡ pos 1
  pub others : (k : ℕ) → i ≤ k → k < i + length ps → k ≢ j → w k ≡ pos 0

less_of : (i j : ℕ) → i ≤ j → (i == j) ≡ false → i < j
less_of i j le e = grind arith

sum_none : (a s : ℤ) → a ≡ pos 0 → s ≡ pos 0 → a +ℤ s ≡ pos 0
sum_none a s e f = omega (arith, ints, e, f)

sum_first : (a s : ℤ) → a ≡ pos 1 → s ≡ pos 0 → a +ℤ s ≡ pos 1
sum_first a s e f = omega (arith, ints, e, f)

sum_later : (a s : ℤ) → a ≡ pos 0 → s ≡ pos 1 → a +ℤ s ≡ pos 1
sum_later a s e f = omega (arith, ints, e, f)

bit_low : (a : ℤ) → (a ≡ pos 0) ⊎ (a ≡ pos 1) → pos 0 ≤ℤ a
bit_low a (inl e) = omega (arith, ints, e)
bit_low a (inr e) = omega (arith, ints, e)

add_low : (a s : ℤ) → pos 0 ≤ℤ a → pos 0 ≤ℤ s → pos 0 ≤ℤ (a +ℤ s)
add_low a s p q = omega (arith, ints, p, q)

first_none : (a s : ℤ) → pos 0 ≤ℤ a → pos 0 ≤ℤ s → a +ℤ s ≡ pos 0 → a ≡ pos 0
first_none a s p q e = omega (arith, ints, p, q, e)

rest_is : (a b s n : ℤ) → a ≡ b → a +ℤ s ≡ n → s ≡ n -ℤ b
rest_is a b s n e h = omega (arith, ints, e, h)

module _ (w : ℕ → ℤ) where
  tail_bits : (i : ℕ) (p : Pair) (ps : List Pair) → AreBits w i (p ∷ ps) → AreBits w (suc i) ps
  tail_bits i p ps bits j le lt = bits j (omega (arith, le)) (omega (arith, lt))

  head_bit : (i : ℕ) (p : Pair) (ps : List Pair) → AreBits w i (p ∷ ps) → (w i ≡ pos 0) ⊎ (w i ≡ pos 1)
  head_bit i p ps bits = bits i (omega arith) (omega arith)

  total_low : (i : ℕ) (ps : List Pair) → AreBits w i ps → pos 0 ≤ℤ total w i ps
  total_low i [] bits = omega (arith, ints)
  total_low i (p ∷ ps) bits = add_low (w i) (total w (suc i) ps) (bit_low (w i) (head_bit i p ps bits)) (total_low (suc i) ps (tail_bits i p ps bits))

  at_or_later : (P : ℕ → Type 0) (i : ℕ) (ps : List Pair) (p : Pair) → P i → ((j : ℕ) → suc i ≤ j → j < suc i + length ps → P j) → (j : ℕ) → i ≤ j → j < i + length (p ∷ ps) → P j
  at_or_later P i ps p here later j le lt = by_test (i == j) refl
    where
      by_test : (b : Bool) → (i == j) ≡ b → P j
      by_test true e = subst P (eqb-true i j e) here
      by_test false e = let less = less_of i j le e in later j (omega (arith, less)) (omega (arith, lt))

  -- the sum is 0, so each is
  pub none_by : (i : ℕ) (ps : List Pair) → AreBits w i ps → total w i ps ≡ pos 0 → AreNone w i ps
  none_by i [] bits e j le lt = absurd (omega (arith, le, lt))
  none_by i (p ∷ ps) bits e j from below =
      let low = bit_low (w i) (head_bit i p ps bits) in
      let rest = total_low (suc i) ps (tail_bits i p ps bits) in
      let here = first_none (w i) (total w (suc i) ps) low rest e in
      at_or_later (λ j. w j ≡ pos 0) i ps p here (none_by (suc i) ps (tail_bits i p ps bits) (rest_is (w i) (pos 0) (total w (suc i) ps) (pos 0) here e)) j from below

  -- the sum is 1, so one is, and the others are 0
  pub one_by : (i : ℕ) (ps : List Pair) → AreBits w i ps → total w i ps ≡ pos 1 → (j : ℕ) × IsOne w i ps j
  one_by i [] bits e = absurd (omega (arith, ints, e))
  one_by i (p ∷ ps) bits e = by_bit (head_bit i p ps bits) (λ is. one_by (suc i) ps (tail_bits i p ps bits) (rest_is (w i) (pos 0) (total w (suc i) ps) (pos 1) is e))
    where
      by_bit : (w i ≡ pos 0) ⊎ (w i ≡ pos 1) → (w i ≡ pos 0 → (j : ℕ) × IsOne w (suc i) ps j) → (j : ℕ) × IsOne w i (p ∷ ps) j
      by_bit (inl is) later =
          let r = later is in
          let from = r.1.from in
          let below = r.1.below in
          (r.0, record { from = omega (arith, from); below = omega (arith, below); one = r.1.one; others = at_or_later (λ k. k ≢ r.0 → w k ≡ pos 0) i ps p (λ ne. is) (λ k le lt ne. r.1.others k le lt ne) })
      by_bit (inr is) later =
          let none = none_by (suc i) ps (tail_bits i p ps bits) (rest_is (w i) (pos 1) (total w (suc i) ps) (pos 1) is e) in
          (i, record { from = omega arith; below = omega arith; one = is; others = at_or_later (λ k. k ≢ i → w k ≡ pos 0) i ps p (λ ne. absurd (ne refl)) (λ k le lt ne. none k le lt) })

  pub total_none : (i : ℕ) (ps : List Pair) → AreNone w i ps → total w i ps ≡ pos 0
  total_none i [] none = refl
  total_none i (p ∷ ps) none = sum_none (w i) (total w (suc i) ps) (none i (omega arith) (omega arith)) (total_none (suc i) ps (λ j le lt. none j (omega (arith, le)) (omega (arith, lt))))

  pub total_one : (i : ℕ) (ps : List Pair) (j : ℕ) → IsOne w i ps j → total w i ps ≡ pos 1
  total_one i [] j is = absurd (let a = is.from in let b = is.below in omega (arith, a, b))
  total_one i (p ∷ ps) j is = by_test (i == j) refl (λ later. total_one (suc i) ps j later)
    where
      by_test : (b : Bool) → (i == j) ≡ b → (IsOne w (suc i) ps j → total w (suc i) ps ≡ pos 1) → w i +ℤ total w (suc i) ps ≡ pos 1
      by_test true e more =
          let at : i ≡ j = eqb-true i j e in
          sum_first (w i) (total w (suc i) ps) (ap w at ∙ is.one) (total_none (suc i) ps (λ k le lt. is.others k (omega (arith, le)) (omega (arith, lt)) (λ same. absurd (omega (arith, le, at, same)))))
      by_test false e more =
          let less = less_of i j is.from e in
          let below = is.below in
          sum_later (w i) (total w (suc i) ps) (is.others i (omega arith) (omega arith) (λ same. absurd (omega (arith, less, same))))
          (more (record { from = omega (arith, less); below = omega (arith, below); one = is.one; others = λ k le lt ne. is.others k (omega (arith, le)) (omega (arith, lt)) ne }))

  module _ (q : Pair → Bool) where
    such_at : (p : Pair) (i j : ℕ) → i ≡ j → Such w q i p → w j ≡ pos 1 → q p ≡ true
    such_at p i j at (inl e) one = absurd (let f = ap w at in omega (arith, ints, e, f, one))
    such_at p i j at (inr h) one = h.1

    -- the pair of one that is 1 is such
    pub such_by : (i : ℕ) (ps : List Pair) (k j : ℕ) → AllSuch w q i ps → k < length ps → i + k ≡ j → w j ≡ pos 1 → q (pair_at ps k) ≡ true
    such_by i [] k j all lt at one = absurd (omega (arith, lt))
    such_by i (p ∷ ps) zero j all lt at one = such_at p i j (omega (arith, at)) all.0 one
    such_by i (p ∷ ps) (suc k) j all lt at one = such_by (suc i) ps k j all.1 (omega (arith, lt)) (omega (arith, at)) one

    pub all_none : (i : ℕ) (ps : List Pair) → AreNone w i ps → AllSuch w q i ps
    all_none i [] none = tt
    all_none i (p ∷ ps) none = (inl (none i (omega arith) (omega arith)), all_none (suc i) ps (λ j le lt. none j (omega (arith, le)) (omega (arith, lt))))

    such_same : (p : Pair) (k : ℕ) (ps : List Pair) → k ≡ 0 → q (pair_at (p ∷ ps) k) ≡ true → q p ≡ true
    such_same p k ps e h = subst (λ (k : ℕ). q (pair_at (p ∷ ps) k) ≡ true) e h

    pub all_one : (i : ℕ) (ps : List Pair) (k j : ℕ) → i + k ≡ j → IsOne w i ps j → q (pair_at ps k) ≡ true → AllSuch w q i ps
    all_one i [] k j at is h = tt
    all_one i (p ∷ ps) zero j at is h =
        let here : i ≡ j = omega (arith, at) in
        (inr (ap w here ∙ is.one, h), all_none (suc i) ps (λ m le lt. is.others m (omega (arith, le)) (omega (arith, lt)) (λ same. absurd (omega (arith, le, here, same)))))
    all_one i (p ∷ ps) (suc k) j at is h =
        let below = is.below in (
          inl (is.others i (omega arith) (omega arith) (λ same. absurd (omega (arith, at, same)))),
          all_one (suc i) ps k j (omega (arith, at)) (record { from = omega (arith, at); below = omega (arith, below); one = is.one; others = λ m le lt ne. is.others m (omega (arith, le)) (omega (arith, lt)) ne }) h,
        )

-- where one pair is there, one alone is 1 and it is such, else none is 1
abbrev pub Picks : Bool → (ℕ → ℤ) → (Pair → Bool) → List Pair → Type 0
Picks true w q pairs = (j : ℕ) × IsOne w 0 pairs j × (q (pair_at pairs j) ≡ true)
Picks false w q pairs = AreNone w 0 pairs

module _ (w : ℕ → ℤ) (q : Pair → Bool) (pairs : List Pair) where
  pub picks_of : (any : Bool) → AreBits w 0 pairs → AllSuch w q 0 pairs → total w 0 pairs ≡ as_number any → Picks any w q pairs
  picks_of true bits all e =
      let r = one_by w 0 pairs bits e in
      let below = r.1.below in
      (r.0, r.1, such_by w q 0 pairs r.0 r.0 all (omega (arith, below)) (omega arith) r.1.one)
  picks_of false bits all e = none_by w 0 pairs bits e

  pub picks_all : (any : Bool) → Picks any w q pairs → AllSuch w q 0 pairs
  picks_all true (j, is, h) = all_one w q 0 pairs j j (omega arith) is h
  picks_all false none = all_none w q 0 pairs none

  pub picks_total : (any : Bool) → Picks any w q pairs → total w 0 pairs ≡ as_number any
  picks_total true (j, is, h) = total_one w 0 pairs j is
  picks_total false none = total_none w 0 pairs none

-- ---- the rows of each pair

held_begin : (f : Key → ℤ) (xs ys : List Form) → Held f (xs ++ ys) → Held f xs
held_begin f [] ys h = tt
held_begin f (x ∷ xs) ys h = (h.0, held_begin f xs ys h.1)

held_end : (f : Key → ℤ) (xs ys : List Form) → Held f (xs ++ ys) → Held f ys
held_end f [] ys h = h
held_end f (x ∷ xs) ys h = held_end f xs ys h.1

both : (a b : ℤ) → a ≤ℤ b → b ≤ℤ a → a ≡ b
both a b h k = omega (arith, ints, h, k)

present_of : (t w : ℤ) → pos 0 ≤ℤ (pos 0 +ℤ (pos 1 *ℤ t +ℤ (negsuc 0 *ℤ w +ℤ pos 0))) → w ≤ℤ t
present_of t w h = omega (arith, ints, h)

above_of : (gap n z : ℤ) → pos 0 ≤ℤ (gap +ℤ (pos 1 *ℤ n +ℤ (neg_ℤ gap *ℤ pos 1 +ℤ (negsuc 0 *ℤ z +ℤ pos 0)))) → z ≤ℤ n
above_of gap n z h = omega (arith, ints, h)

below_of : (gap n z : ℤ) → pos 0 ≤ℤ (gap +ℤ (pos 1 *ℤ z +ℤ (negsuc 0 *ℤ n +ℤ (neg_ℤ gap *ℤ pos 1 +ℤ pos 0)))) → n ≤ℤ z
below_of gap n z h = omega (arith, ints, h)

row_present : (t w : ℤ) → w ≤ℤ t → pos 0 ≤ℤ (pos 0 +ℤ (pos 1 *ℤ t +ℤ (negsuc 0 *ℤ w +ℤ pos 0)))
row_present t w h = omega (arith, ints, h)

row_above : (hi lo n t z : ℤ) → pos 0 ≤ℤ t → t ≤ℤ pos 1 → lo ≤ℤ n → z ≤ℤ hi → (int_eq t (pos 1) ≡ true → z ≤ℤ n) → pos 0 ≤ℤ ((hi -ℤ lo) +ℤ (pos 1 *ℤ n +ℤ (neg_ℤ (hi -ℤ lo) *ℤ t +ℤ (negsuc 0 *ℤ z +ℤ pos 0))))
row_above hi lo n (pos zero) z a b c d h = omega (arith, ints, c, d)
row_above hi lo n (pos (suc zero)) z a b c d h = let k = h refl in omega (arith, ints, k)
row_above hi lo n (pos (suc (suc t))) z a b c d h = absurd (omega (arith, ints, b))
row_above hi lo n (negsuc t) z a b c d h = absurd (omega (arith, ints, a))

row_below_off : (gap n z w : ℤ) → w ≡ pos 0 → n ≤ℤ (gap +ℤ z) → pos 0 ≤ℤ (gap +ℤ (pos 1 *ℤ z +ℤ (negsuc 0 *ℤ n +ℤ (neg_ℤ gap *ℤ w +ℤ pos 0))))
row_below_off gap n z w e h = subst (λ (w : ℤ). pos 0 ≤ℤ (gap +ℤ (pos 1 *ℤ z +ℤ (negsuc 0 *ℤ n +ℤ (neg_ℤ gap *ℤ w +ℤ pos 0))))) (sym e) (omega (arith, ints, h))

row_below_on : (gap n z w : ℤ) → w ≡ pos 1 → n ≡ z → pos 0 ≤ℤ (gap +ℤ (pos 1 *ℤ z +ℤ (negsuc 0 *ℤ n +ℤ (neg_ℤ gap *ℤ w +ℤ pos 0))))
row_below_on gap n z w e h = subst (λ (w : ℤ). pos 0 ≤ℤ (gap +ℤ (pos 1 *ℤ z +ℤ (negsuc 0 *ℤ n +ℤ (neg_ℤ gap *ℤ w +ℤ pos 0))))) (sym e) (omega (arith, ints, h))

gap_covers : (hi lo n z : ℤ) → n ≤ℤ hi → lo ≤ℤ z → n ≤ℤ ((hi -ℤ lo) +ℤ z)
gap_covers hi lo n z a b = omega (arith, ints, a, b)

le_none : (t w : ℤ) → pos 0 ≤ℤ t → w ≡ pos 0 → w ≤ℤ t
le_none t w a e = omega (arith, ints, a, e)

le_one : (t w : ℤ) → t ≡ pos 1 → w ≡ pos 1 → w ≤ℤ t
le_one t w a e = omega (arith, ints, a, e)

plus_step : (a c e : ℤ) → c ≡ e → pos 1 *ℤ a +ℤ c ≡ a +ℤ e
plus_step a c e q = omega (arith, ints, q)

minus_step : (a c e : ℤ) → c ≡ neg_ℤ e → negsuc 0 *ℤ a +ℤ c ≡ neg_ℤ (a +ℤ e)
minus_step a c e q = omega (arith, ints, q)

sum_by : (b p m s : ℤ) → p ≡ s → m ≡ neg_ℤ s → pos 0 ≤ℤ (pos 0 +ℤ (negsuc 0 *ℤ b +ℤ p)) → pos 0 ≤ℤ (pos 0 +ℤ (pos 1 *ℤ b +ℤ m)) → s ≡ b
sum_by b p m s e f h k = omega (arith, ints, e, f, h, k)

row_more : (b p s : ℤ) → p ≡ s → s ≡ b → pos 0 ≤ℤ (pos 0 +ℤ (negsuc 0 *ℤ b +ℤ p))
row_more b p s e h = omega (arith, ints, e, h)

row_less : (b m s : ℤ) → m ≡ neg_ℤ s → s ≡ b → pos 0 ≤ℤ (pos 0 +ℤ (pos 1 *ℤ b +ℤ m))
row_less b m s e h = omega (arith, ints, e, h)

low_end : (lo z b : ℤ) (any : Bool) → b ≡ as_number any → (any ≡ true → lo ≤ℤ z) → (any ≡ false → z ≡ pos 0) → pos 0 ≤ℤ (pos 0 +ℤ (pos 1 *ℤ z +ℤ (neg_ℤ lo *ℤ b +ℤ pos 0)))
low_end lo z b true e h n = let k = h refl in subst (λ (b : ℤ). pos 0 ≤ℤ (pos 0 +ℤ (pos 1 *ℤ z +ℤ (neg_ℤ lo *ℤ b +ℤ pos 0)))) (sym e) (omega (arith, ints, k))
low_end lo z b false e h n = let k = n refl in subst (λ (b : ℤ). pos 0 ≤ℤ (pos 0 +ℤ (pos 1 *ℤ z +ℤ (neg_ℤ lo *ℤ b +ℤ pos 0)))) (sym e) (omega (arith, ints, k))

high_end : (hi z b : ℤ) (any : Bool) → b ≡ as_number any → (any ≡ true → z ≤ℤ hi) → (any ≡ false → z ≡ pos 0) → pos 0 ≤ℤ (pos 0 +ℤ (hi *ℤ b +ℤ (negsuc 0 *ℤ z +ℤ pos 0)))
high_end hi z b true e h n = let k = h refl in subst (λ (b : ℤ). pos 0 ≤ℤ (pos 0 +ℤ (hi *ℤ b +ℤ (negsuc 0 *ℤ z +ℤ pos 0)))) (sym e) (omega (arith, ints, k))
high_end hi z b false e h n = let k = n refl in subst (λ (b : ℤ). pos 0 ≤ℤ (pos 0 +ℤ (hi *ℤ b +ℤ (negsuc 0 *ℤ z +ℤ pos 0)))) (sym e) (omega (arith, ints, k))

module _ (v w : ℕ → ℤ) (s : Span) (r : ℕ → Span) (z : ℕ) where
  abbrev K : Key → ℤ
  K = keyed v z w

  abbrev q : Pair → Bool
  q = has_least v (v z)

  -- ---- what the rows tell

  one_such : (p : Pair) (i : ℕ) (gap hap : ℤ) → v p.truth ≤ℤ pos 1 → w i ≡ pos 1 → pos 0 ≤ℤ (pos 0 +ℤ (pos 1 *ℤ v p.truth +ℤ (negsuc 0 *ℤ w i +ℤ pos 0))) → pos 0 ≤ℤ (gap +ℤ (pos 1 *ℤ v p.number +ℤ (neg_ℤ gap *ℤ v p.truth +ℤ (negsuc 0 *ℤ v z +ℤ pos 0))))
      → pos 0 ≤ℤ (hap +ℤ (pos 1 *ℤ v z +ℤ (negsuc 0 *ℤ v p.number +ℤ (neg_ℤ hap *ℤ w i +ℤ pos 0)))) → q p ≡ true
  one_such p i gap hap high one a b c =
      let t : v p.truth ≡ pos 1 = both (v p.truth) (pos 1) high (subst (λ (x : ℤ). x ≤ℤ v p.truth) one (present_of (v p.truth) (w i) a)) in
      let up = above_of gap (v p.number) (v z) (subst (λ (x : ℤ). pos 0 ≤ℤ (gap +ℤ (pos 1 *ℤ v p.number +ℤ (neg_ℤ gap *ℤ x +ℤ (negsuc 0 *ℤ v z +ℤ pos 0))))) t b) in
      let down = below_of hap (v p.number) (v z) (subst (λ (x : ℤ). pos 0 ≤ℤ (hap +ℤ (pos 1 *ℤ v z +ℤ (negsuc 0 *ℤ v p.number +ℤ (neg_ℤ hap *ℤ x +ℤ pos 0))))) one c) in
      let there : int_eq (v p.truth) (pos 1) ≡ true = (Decides-int_eq (v p.truth) (pos 1)).1 t in
      let least_is : int_eq (v p.number) (v z) ≡ true = (Decides-int_eq (v p.number) (v z)).1 (both (v p.number) (v z) down up) in
      λ j. there j && least_is j

  all_such : (i : ℕ) (ps : List Pair) → All (PairIn v r) ps → AreBits w i ps → Held K (present_forms z i ps) → Held K (above_forms s r z ps) → Held K (below_forms s r z i ps) → AllSuch w q i ps
  all_such i [] ins bits a b c = tt
  all_such i (p ∷ ps) ins bits a b c = (by_bit (bits i (omega arith) (omega arith)), all_such (suc i) ps (All_tail (PairIn v r) p ps ins) (tail_bits w i p ps bits) a.1 b.1 c.1)
    where
      by_bit : (w i ≡ pos 0) ⊎ (w i ≡ pos 1) → Such w q i p
      by_bit (inl e) = inl e
      by_bit (inr e) = inr (e, one_such p i (s.hi -ℤ (r p.number).lo) ((r p.number).hi -ℤ s.lo) (All_head (PairIn v r) p ps ins).truth_high e a.0 b.0 c.0)

  plus_is : (i : ℕ) (ps : List Pair) → total_by (λ (t : Piece). t.factor *ℤ K t.key) (selectors (pos 1) z i ps) ≡ total w i ps
  plus_is i [] = refl
  plus_is i (p ∷ ps) = plus_step (w i) _ _ (plus_is (suc i) ps)

  minus_is : (i : ℕ) (ps : List Pair) → total_by (λ (t : Piece). t.factor *ℤ K t.key) (selectors (negsuc 0) z i ps) ≡ neg_ℤ (total w i ps)
  minus_is i [] = refl
  minus_is i (p ∷ ps) = minus_step (w i) _ (total w (suc i) ps) (minus_is (suc i) ps)

  pub rows_pick : (h : Span) (b : ℕ) (pairs : List Pair) (any : Bool) → v b ≡ as_number any → All (PairIn v r) pairs → AreBits w 0 pairs → Held K (min_forms s h r b z pairs) → Picks any w q pairs
  rows_pick h b pairs any is ins bits held =
      let presents = present_forms z 0 pairs in
      let aboves = above_forms s r z pairs in
      let belows = below_forms s r z 0 pairs in
      let ends = end_forms h b z in
      let sums = held_end K presents (sum_forms b z pairs ++ (aboves ++ (belows ++ ends))) held in
      let later = held_end K aboves (belows ++ ends) sums.1.1 in
      let all = all_such 0 pairs ins bits (held_begin K presents (sum_forms b z pairs ++ (aboves ++ (belows ++ ends))) held) (held_begin K aboves (belows ++ ends) sums.1.1) (held_begin K belows ends later) in
      picks_of w q pairs any bits all (sum_by (v b) _ _ (total w 0 pairs) (plus_is 0 pairs) (minus_is 0 pairs) sums.0 sums.1.0 ∙ is)

  -- ---- and when they hold

  Least : Pair → Type 0
  Least p = holds v p.truth ≡ true → v z ≤ℤ v p.number

  present_held : (i : ℕ) (ps : List Pair) (more : List Form) → All (PairIn v r) ps → AllSuch w q i ps → Held K more → Held K (present_forms z i ps ++ more)
  present_held i [] more ins all h = h
  present_held i (p ∷ ps) more ins all h = (row_present (v p.truth) (w i) (by_such all.0), present_held (suc i) ps more (All_tail (PairIn v r) p ps ins) all.1 h)
    where
      by_such : Such w q i p → w i ≤ℤ v p.truth
      by_such (inl e) = le_none (v p.truth) (w i) (All_head (PairIn v r) p ps ins).truth_low e
      by_such (inr (e, is)) = le_one (v p.truth) (w i) ((Decides-int_eq (v p.truth) (pos 1)).0 (and_parts (int_eq (v p.truth) (pos 1)) (int_eq (v p.number) (v z)) is).0) e

  above_held : (ps : List Pair) (more : List Form) → v z ≤ℤ s.hi → All (PairIn v r) ps → All Least ps → Held K more → Held K (above_forms s r z ps ++ more)
  unfolding Least
  above_held [] more high ins least h = h
  above_held (p ∷ ps) more high ins least h =
      let i = All_head (PairIn v r) p ps ins in
      (row_above s.hi (r p.number).lo (v p.number) (v p.truth) (v z) i.truth_low i.truth_high i.low high (All_head Least p ps least), above_held ps more high (All_tail (PairIn v r) p ps ins) (All_tail Least p ps least) h)

  below_held : (i : ℕ) (ps : List Pair) (more : List Form) → s.lo ≤ℤ v z → All (PairIn v r) ps → AllSuch w q i ps → Held K more → Held K (below_forms s r z i ps ++ more)
  below_held i [] more low ins all h = h
  below_held i (p ∷ ps) more low ins all h = (by_such all.0, below_held (suc i) ps more low (All_tail (PairIn v r) p ps ins) all.1 h)
    where
      by_such : Such w q i p → pos 0 ≤ℤ (((r p.number).hi -ℤ s.lo) +ℤ (pos 1 *ℤ v z +ℤ (negsuc 0 *ℤ v p.number +ℤ (neg_ℤ ((r p.number).hi -ℤ s.lo) *ℤ w i +ℤ pos 0))))
      by_such (inl e) = row_below_off ((r p.number).hi -ℤ s.lo) (v p.number) (v z) (w i) e (gap_covers (r p.number).hi s.lo (v p.number) (v z) (All_head (PairIn v r) p ps ins).high low)
      by_such (inr (e, is)) = row_below_on ((r p.number).hi -ℤ s.lo) (v p.number) (v z) (w i) e ((Decides-int_eq (v p.number) (v z)).0 (and_parts (int_eq (v p.truth) (pos 1)) (int_eq (v p.number) (v z)) is).1)

  pub rows_hold : (h : Span) (b : ℕ) (pairs : List Pair) (any : Bool) → v b ≡ as_number any → All (PairIn v r) pairs → s.lo ≤ℤ v z → v z ≤ℤ s.hi → (any ≡ true → (h.lo ≤ℤ v z) × (v z ≤ℤ h.hi)) → (any ≡ false → v z ≡ pos 0) → All (λ (p : Pair). holds v p.truth ≡ true → v z ≤ℤ v p.number) pairs
      → Picks any w q pairs → Held K (min_forms s h r b z pairs)
  unfolding Least
  rows_hold h b pairs any is ins low high narrow none least picks =
      let all = picks_all w q pairs any picks in
      let sum = picks_total w q pairs any picks ∙ sym is in
      let ends : Held K (end_forms h b z) = (low_end h.lo (v z) (v b) any is (λ e. (narrow e).0) none, (high_end h.hi (v z) (v b) any is (λ e. (narrow e).1) none, tt)) in
      let pairs_end = above_held pairs (below_forms s r z 0 pairs ++ end_forms h b z) high ins least (below_held 0 pairs (end_forms h b z) low ins all ends) in
      present_held 0 pairs (sum_forms b z pairs ++ (above_forms s r z pairs ++ (below_forms s r z 0 pairs ++ end_forms h b z))) ins all
      (row_more (v b) _ (total w 0 pairs) (plus_is 0 pairs) sum, (row_less (v b) _ (total w 0 pairs) (minus_is 0 pairs) sum, pairs_end))
