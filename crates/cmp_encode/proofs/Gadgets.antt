-- The rows of Pos, Guard and Tot hold exactly where the column has the node's value.
use Rattle.std.proofs.Common.{◌≡◌, ◌∙◌, sym, ap, subst, refl, ℕ, zero, suc, ℤ, pos, negsuc, ◌+ℤ◌, ◌*ℤ◌, neg_ℤ, ◌≤ℤ◌, Bool, true, false, cond, ◌⊎◌, inl, inr, arith}
use Rattle.std.specs.Prelude.{int_le}
use Rattle.std.specs.Ordering.{int_eq}
use Rattle.std.proofs.lemmas.Int.{ints}
use Rattle.prov_fold.specs.declared.span.Span.{Span}
use Rattle.prov_fold.specs.Values.{as_number, holds}
use Rattle.prov_fold.proofs.Rings.{neg-*ℤ}
use Rattle.bool_encode.specs.declared.form.Key.{Key}
use Rattle.bool_encode.specs.declared.form.Key.TheVariants as key
use Rattle.bool_encode.specs.Forms.{Hold}
use Rattle.bool_encode.proofs.Numbers.{zero_d, one_times}
use Rattle.bool_encode.proofs.FormLemmas.{nodes, Held}
use Rattle.bool_encode.proofs.Bits.{bit_cases}
use Rattle.cmp_encode.specs.Tables.{pos_forms, guard_forms, tot_forms}

-- ---- Pos

pos_zero : (lo hi n : ℤ) → pos 0 ≤ℤ (negsuc 0 +ℤ ((hi +ℤ pos 1) *ℤ pos 0 +ℤ (negsuc 0 *ℤ n +ℤ pos 0))) → pos 0 ≡ as_number (int_le (pos 0) n)
pos_zero lo hi n h = let no : n ≤ℤ negsuc 0 = omega (arith, ints) in grind (arith, ints)

pos_one : (lo n : ℤ) → pos 0 ≤ℤ (neg_ℤ lo +ℤ (pos 1 *ℤ n +ℤ (lo *ℤ pos 1 +ℤ pos 0))) → pos 1 ≡ as_number (int_le (pos 0) n)
pos_one lo n h = let yes : pos 0 ≤ℤ n = omega (arith, ints) in grind (arith, ints)

pos_by : (lo hi n z : ℤ) → (z ≡ pos 0) ⊎ (z ≡ pos 1) → pos 0 ≤ℤ (neg_ℤ lo +ℤ (pos 1 *ℤ n +ℤ (lo *ℤ z +ℤ pos 0))) → pos 0 ≤ℤ (negsuc 0 +ℤ ((hi +ℤ pos 1) *ℤ z +ℤ (negsuc 0 *ℤ n +ℤ pos 0)))
    → z ≡ as_number (int_le (pos 0) n)
pos_by lo hi n z (inl e) a b = e ∙ pos_zero lo hi n (subst (λ (z : ℤ). pos 0 ≤ℤ (negsuc 0 +ℤ ((hi +ℤ pos 1) *ℤ z +ℤ (negsuc 0 *ℤ n +ℤ pos 0)))) e b)
pos_by lo hi n z (inr e) a b = e ∙ pos_one lo n (subst (λ (z : ℤ). pos 0 ≤ℤ (neg_ℤ lo +ℤ (pos 1 *ℤ n +ℤ (lo *ℤ z +ℤ pos 0)))) e a)

pos_low : (lo n : ℤ) (b : Bool) → int_le (pos 0) n ≡ b → lo ≤ℤ n → pos 0 ≤ℤ (neg_ℤ lo +ℤ (pos 1 *ℤ n +ℤ (lo *ℤ as_number b +ℤ pos 0)))
pos_low lo n true e h = let yes : pos 0 ≤ℤ n = grind (arith, ints) in omega (arith, ints)
pos_low lo n false e h = omega (arith, ints)

pos_high : (hi n : ℤ) (b : Bool) → int_le (pos 0) n ≡ b → n ≤ℤ hi → pos 0 ≤ℤ (negsuc 0 +ℤ ((hi +ℤ pos 1) *ℤ as_number b +ℤ (negsuc 0 *ℤ n +ℤ pos 0)))
pos_high hi n true e h = omega (arith, ints)
pos_high hi n false e h = let no : n ≤ℤ negsuc 0 = grind (arith, ints) in omega (arith, ints)

module _ (f : ℕ → ℤ) (s : Span) (n z : ℕ) where
  pub pos_back : pos 0 ≤ℤ f z → f z ≤ℤ pos 1 → Held (nodes f) (pos_forms s n z) → f z ≡ as_number (int_le (pos 0) (f n))
  pos_back lo hi h = pos_by s.lo s.hi (f n) (f z) (bit_cases (f z) lo hi) h.0 h.1.0

  pub pos_ahead : s.lo ≤ℤ f n → f n ≤ℤ s.hi → f z ≡ as_number (int_le (pos 0) (f n)) → Held (nodes f) (pos_forms s n z)
  pos_ahead lo hi e = (
    subst (λ (v : ℤ). pos 0 ≤ℤ (neg_ℤ s.lo +ℤ (pos 1 *ℤ f n +ℤ (s.lo *ℤ v +ℤ pos 0)))) (sym e) (pos_low s.lo (f n) (int_le (pos 0) (f n)) refl lo),
    (
      subst (λ (v : ℤ). pos 0 ≤ℤ (negsuc 0 +ℤ ((s.hi +ℤ pos 1) *ℤ v +ℤ (negsuc 0 *ℤ f n +ℤ pos 0)))) (sym e) (pos_high s.hi (f n) (int_le (pos 0) (f n)) refl hi),
      tt,
    ),
  )

-- ---- Guard

abbrev Guards : ℤ → ℤ → ℤ → ℤ → ℤ → Type 0
Guards lo hi t n z =
    (pos 0 ≤ℤ (pos 0 +ℤ (pos 1 *ℤ z +ℤ (neg_ℤ lo *ℤ t +ℤ pos 0))))
    × ((pos 0 ≤ℤ (pos 0 +ℤ (hi *ℤ t +ℤ (negsuc 0 *ℤ z +ℤ pos 0))))
    × ((pos 0 ≤ℤ (hi +ℤ (pos 1 *ℤ z +ℤ (negsuc 0 *ℤ n +ℤ (neg_ℤ hi *ℤ t +ℤ pos 0)))))
    × ((pos 0 ≤ℤ (neg_ℤ lo +ℤ (pos 1 *ℤ n +ℤ (lo *ℤ t +ℤ (negsuc 0 *ℤ z +ℤ pos 0))))) × Unit {0})))

guard_by : (lo hi t n z : ℤ) → pos 0 ≤ℤ t → t ≤ℤ pos 1 → Guards lo hi t n z → z ≡ cond (int_eq t (pos 1)) n (pos 0)
guard_by lo hi (pos zero) n z low high h = let a = h.0 in let b = h.1.0 in omega (arith, ints)
guard_by lo hi (pos (suc zero)) n z low high h = let c = h.1.1.0 in let d = h.1.1.1.0 in omega (arith, ints)
guard_by lo hi (pos (suc (suc t))) n z low high h = absurd (omega (arith, ints))
guard_by lo hi (negsuc t) n z low high h = absurd (omega (arith, ints))

guard_to : (lo hi t n z : ℤ) → lo ≤ℤ n → n ≤ℤ hi → pos 0 ≤ℤ t → t ≤ℤ pos 1 → z ≡ cond (int_eq t (pos 1)) n (pos 0) → Guards lo hi t n z
guard_to lo hi (pos zero) n z a b low high e = (omega (arith, ints), (omega (arith, ints), (omega (arith, ints), (omega (arith, ints), tt))))
guard_to lo hi (pos (suc zero)) n z a b low high e = (omega (arith, ints), (omega (arith, ints), (omega (arith, ints), (omega (arith, ints), tt))))
guard_to lo hi (pos (suc (suc t))) n z a b low high e = absurd (omega (arith, ints))
guard_to lo hi (negsuc t) n z a b low high e = absurd (omega (arith, ints))

module _ (f : ℕ → ℤ) (s : Span) (t n z : ℕ) where
  pub guard_back : pos 0 ≤ℤ f t → f t ≤ℤ pos 1 → Held (nodes f) (guard_forms s t n z) → f z ≡ cond (holds f t) (f n) (pos 0)
  guard_back low high h = guard_by s.lo s.hi (f t) (f n) (f z) low high h

  pub guard_ahead : s.lo ≤ℤ f n → f n ≤ℤ s.hi → pos 0 ≤ℤ f t → f t ≤ℤ pos 1 → f z ≡ cond (holds f t) (f n) (pos 0) → Held (nodes f) (guard_forms s t n z)
  guard_ahead a b low high e = guard_to s.lo s.hi (f t) (f n) (f z) a b low high e

-- the same over d, where the truth is 0 or 1 over d and the number is any
guard_zero : (lo hi n z : ℤ) (d : ℕ)
    → pos 0 ≤ℤ (pos 0 *ℤ pos d +ℤ (pos 1 *ℤ z +ℤ (neg_ℤ lo *ℤ pos 0 +ℤ pos 0)))
    → pos 0 ≤ℤ (pos 0 *ℤ pos d +ℤ (hi *ℤ pos 0 +ℤ (negsuc 0 *ℤ z +ℤ pos 0)))
    → z ≡ pos 0
guard_zero lo hi n z d a b = omega (arith, ints)

guard_one : (lo hi n z hd ld hn ln : ℤ) → hn ≡ neg_ℤ hd → ln ≡ neg_ℤ ld
    → pos 0 ≤ℤ (hd +ℤ (pos 1 *ℤ z +ℤ (negsuc 0 *ℤ n +ℤ (hn +ℤ pos 0))))
    → pos 0 ≤ℤ (ln +ℤ (pos 1 *ℤ n +ℤ (ld +ℤ (negsuc 0 *ℤ z +ℤ pos 0))))
    → z ≡ n
guard_one lo hi n z hd ld hn ln p q a b = omega (arith, ints)

module _ (d : ℕ) (f : Key → ℤ) (s : Span) (t n z : ℕ) where
  guard_split : (w : ℤ) → f (key.Node t) ≡ w *ℤ pos d → (w ≡ pos 0) ⊎ (w ≡ pos 1) → Hold d f (guard_forms s t n z) → f (key.Node z) ≡ cond (int_eq w (pos 1)) (f (key.Node n)) (pos 0)
  guard_split w e (inl z_is) h =
      let none : f (key.Node t) ≡ pos 0 = e ∙ ap (λ (w : ℤ). w *ℤ pos d) z_is ∙ zero_d d in
      guard_zero s.lo s.hi (f (key.Node n)) (f (key.Node z)) d
      (subst (λ (x : ℤ). pos 0 ≤ℤ (pos 0 *ℤ pos d +ℤ (pos 1 *ℤ f (key.Node z) +ℤ (neg_ℤ s.lo *ℤ x +ℤ pos 0)))) none h.0)
      (subst (λ (x : ℤ). pos 0 ≤ℤ (pos 0 *ℤ pos d +ℤ (s.hi *ℤ x +ℤ (negsuc 0 *ℤ f (key.Node z) +ℤ pos 0)))) none h.1.0)
      ∙ sym (ap (λ (w : ℤ). cond (int_eq w (pos 1)) (f (key.Node n)) (pos 0)) z_is)
  guard_split w e (inr o_is) h =
      let one : f (key.Node t) ≡ pos d = e ∙ ap (λ (w : ℤ). w *ℤ pos d) o_is ∙ sym (one_times d) in
      guard_one s.lo s.hi (f (key.Node n)) (f (key.Node z)) (s.hi *ℤ pos d) (s.lo *ℤ pos d) (neg_ℤ s.hi *ℤ pos d) (neg_ℤ s.lo *ℤ pos d) (neg-*ℤ s.hi (pos d)) (neg-*ℤ s.lo (pos d))
      (subst (λ (x : ℤ). pos 0 ≤ℤ (s.hi *ℤ pos d +ℤ (pos 1 *ℤ f (key.Node z) +ℤ (negsuc 0 *ℤ f (key.Node n) +ℤ (neg_ℤ s.hi *ℤ x +ℤ pos 0))))) one h.1.1.0)
      (subst (λ (x : ℤ). pos 0 ≤ℤ (neg_ℤ s.lo *ℤ pos d +ℤ (pos 1 *ℤ f (key.Node n) +ℤ (s.lo *ℤ x +ℤ (negsuc 0 *ℤ f (key.Node z) +ℤ pos 0))))) one h.1.1.1.0)
      ∙ sym (ap (λ (w : ℤ). cond (int_eq w (pos 1)) (f (key.Node n)) (pos 0)) o_is)

  -- the truth is whole
  pub guard_over : (w : ℤ) → f (key.Node t) ≡ w *ℤ pos d → pos 0 ≤ℤ w → w ≤ℤ pos 1 → Hold d f (guard_forms s t n z) → f (key.Node z) ≡ cond (int_eq w (pos 1)) (f (key.Node n)) (pos 0)
  guard_over w e low high h = guard_split w e (bit_cases w low high) h

-- ---- Tot

module _ (d : ℕ) (f : Key → ℤ) (n z : ℕ) where
  pub tot_over : Hold d f (tot_forms n z) → f (key.Node z) ≡ f (key.Node n)
  tot_over h = let a = h.0 in let b = h.1.0 in omega (arith, ints, a, b)

module _ (f : ℕ → ℤ) (n z : ℕ) where
  pub tot_back : Held (nodes f) (tot_forms n z) → f z ≡ f n
  tot_back h = let a = h.0 in let b = h.1.0 in omega (arith, ints)

  pub tot_ahead : f z ≡ f n → Held (nodes f) (tot_forms n z)
  tot_ahead e = (omega (arith, ints), (omega (arith, ints), tt))
