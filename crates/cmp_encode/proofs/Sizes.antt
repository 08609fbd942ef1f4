-- The rows of an Abs hold exactly where its column is the size of its number.
use Rattle.std.proofs.Common.{◌≡◌, ◌∙◌, sym, ap, subst, refl, ℕ, ℤ, pos, negsuc, ◌+ℤ◌, ◌*ℤ◌, neg_ℤ, ◌≤ℤ◌, Bool, true, false, cond, arith}
use Rattle.std.specs.Prelude.{int_le, int_lt}
use Rattle.std.proofs.lemmas.Int.{ints}
use Rattle.prov_fold.specs.declared.span.Span.{Span}
use Rattle.prov_fold.specs.Values.{as_number}
use Rattle.prov_fold.proofs.Rings.{neg-*ℤ}
use Rattle.bool_encode.specs.declared.form.Key.{Key}
use Rattle.bool_encode.specs.declared.form.Key.TheVariants as key
use Rattle.bool_encode.specs.Forms.{Hold}
use Rattle.bool_encode.proofs.Numbers.{zero_d, one_times}
use Rattle.bool_encode.proofs.FormLemmas.{nodes, Held}
use Rattle.cmp_encode.specs.Tables.{abs_forms}

abbrev Sizes : ℤ → ℤ → ℤ → ℤ → ℤ → Type 0
Sizes lo hi n b z =
    (pos 0 ≤ℤ (pos 0 +ℤ (pos 1 *ℤ z +ℤ (negsuc 0 *ℤ n +ℤ pos 0))))
    × ((pos 0 ≤ℤ (pos 0 +ℤ (pos 1 *ℤ z +ℤ (pos 1 *ℤ n +ℤ pos 0))))
    × ((pos 0 ≤ℤ (neg_ℤ (pos 2 *ℤ lo) +ℤ (pos 1 *ℤ n +ℤ ((pos 2 *ℤ lo) *ℤ b +ℤ (negsuc 0 *ℤ z +ℤ pos 0)))))
    × ((pos 0 ≤ℤ (pos 0 +ℤ (negsuc 0 *ℤ n +ℤ ((pos 2 *ℤ hi) *ℤ b +ℤ (negsuc 0 *ℤ z +ℤ pos 0))))) × Unit {0})))

size_by : (lo hi n z : ℤ) (t : Bool) → int_le (pos 0) n ≡ t → Sizes lo hi n (as_number t) z → z ≡ cond (int_lt n (pos 0)) (neg_ℤ n) n
size_by lo hi n z true e h =
    let yes : pos 0 ≤ℤ n = grind (arith, ints) in
    let a = h.0 in
    let c = h.1.1.0 in
    let is : z ≡ n = omega (arith, ints, a, c) in
    let size : n ≡ cond (int_lt n (pos 0)) (neg_ℤ n) n = grind (arith, ints) in
    is ∙ size
size_by lo hi n z false e h =
    let less : n ≤ℤ negsuc 0 = grind (arith, ints) in
    let b = h.1.0 in
    let d = h.1.1.1.0 in
    let is : z ≡ neg_ℤ n = omega (arith, ints, b, d) in
    let size : neg_ℤ n ≡ cond (int_lt n (pos 0)) (neg_ℤ n) n = grind (arith, ints) in
    is ∙ size

size_to : (lo hi n z : ℤ) (t : Bool) → int_le (pos 0) n ≡ t → lo ≤ℤ n → n ≤ℤ hi → z ≡ cond (int_lt n (pos 0)) (neg_ℤ n) n → Sizes lo hi n (as_number t) z
size_to lo hi n z true e low high is =
    let yes : pos 0 ≤ℤ n = grind (arith, ints) in
    let size : cond (int_lt n (pos 0)) (neg_ℤ n) n ≡ n = grind (arith, ints) in
    let z_is : z ≡ n = is ∙ size in
    (omega (arith, ints, z_is), (omega (arith, ints, z_is), (omega (arith, ints, z_is), (omega (arith, ints, z_is, high), tt))))
size_to lo hi n z false e low high is =
    let less : n ≤ℤ negsuc 0 = grind (arith, ints) in
    let size : cond (int_lt n (pos 0)) (neg_ℤ n) n ≡ neg_ℤ n = grind (arith, ints) in
    let z_is : z ≡ neg_ℤ n = is ∙ size in
    (omega (arith, ints, z_is), (omega (arith, ints, z_is), (omega (arith, ints, z_is, low), (omega (arith, ints, z_is), tt))))

module _ (f : ℕ → ℤ) (s : Span) (n b z : ℕ) (truth : f b ≡ as_number (int_le (pos 0) (f n))) where
  pub abs_back : Held (nodes f) (abs_forms s n b z) → f z ≡ cond (int_lt (f n) (pos 0)) (neg_ℤ (f n)) (f n)
  abs_back h = size_by s.lo s.hi (f n) (f z) (int_le (pos 0) (f n)) refl (subst (λ (v : ℤ). Sizes s.lo s.hi (f n) v (f z)) truth h)

  pub abs_ahead : s.lo ≤ℤ f n → f n ≤ℤ s.hi → f z ≡ cond (int_lt (f n) (pos 0)) (neg_ℤ (f n)) (f n) → Held (nodes f) (abs_forms s n b z)
  abs_ahead low high is = subst (λ (v : ℤ). Sizes s.lo s.hi (f n) v (f z)) (sym truth) (size_to s.lo s.hi (f n) (f z) (int_le (pos 0) (f n)) refl low high is)

-- the same over d, where n and the truth are whole
size_true : (x : ℤ) → int_le (pos 0) x ≡ true → x ≡ cond (int_lt x (pos 0)) (neg_ℤ x) x
size_true x e = let yes : pos 0 ≤ℤ x = grind (arith, ints) in grind (arith, ints)

size_false : (x : ℤ) → int_le (pos 0) x ≡ false → neg_ℤ x ≡ cond (int_lt x (pos 0)) (neg_ℤ x) x
size_false x e = let no : x ≤ℤ negsuc 0 = grind (arith, ints) in grind (arith, ints)

over_true : (n z ld lnd : ℤ) (d : ℕ) → lnd ≡ neg_ℤ ld → pos 0 ≤ℤ (pos 0 *ℤ pos d +ℤ (pos 1 *ℤ z +ℤ (negsuc 0 *ℤ n +ℤ pos 0))) → pos 0 ≤ℤ (lnd +ℤ (pos 1 *ℤ n +ℤ (ld +ℤ (negsuc 0 *ℤ z +ℤ pos 0)))) → z ≡ n
over_true n z ld lnd d p a b = omega (arith, ints)

over_false : (hi n z : ℤ) (d : ℕ) → pos 0 ≤ℤ (pos 0 *ℤ pos d +ℤ (pos 1 *ℤ z +ℤ (pos 1 *ℤ n +ℤ pos 0))) → pos 0 ≤ℤ (pos 0 *ℤ pos d +ℤ (negsuc 0 *ℤ n +ℤ ((pos 2 *ℤ hi) *ℤ pos 0 +ℤ (negsuc 0 *ℤ z +ℤ pos 0)))) → z ≡ neg_ℤ n
over_false hi n z d a b = omega (arith, ints)

module _ (d : ℕ) (f : Key → ℤ) (s : Span) (n b z : ℕ) (x : ℤ) where
  abs_split : (t : Bool) → int_le (pos 0) x ≡ t → f (key.Node n) ≡ x *ℤ pos d → f (key.Node b) ≡ as_number t *ℤ pos d → Hold d f (abs_forms s n b z) → f (key.Node z) ≡ cond (int_lt x (pos 0)) (neg_ℤ x) x *ℤ pos d
  abs_split true e n_is b_is h =
      over_true (f (key.Node n)) (f (key.Node z)) ((pos 2 *ℤ s.lo) *ℤ pos d) (neg_ℤ (pos 2 *ℤ s.lo) *ℤ pos d) d (neg-*ℤ (pos 2 *ℤ s.lo) (pos d)) h.0
      (subst (λ (y : ℤ). pos 0 ≤ℤ (neg_ℤ (pos 2 *ℤ s.lo) *ℤ pos d +ℤ (pos 1 *ℤ f (key.Node n) +ℤ ((pos 2 *ℤ s.lo) *ℤ y +ℤ (negsuc 0 *ℤ f (key.Node z) +ℤ pos 0))))) (b_is ∙ sym (one_times d)) h.1.1.0)
      ∙ n_is ∙ ap (λ (y : ℤ). y *ℤ pos d) (size_true x e)
  abs_split false e n_is b_is h =
      over_false s.hi (f (key.Node n)) (f (key.Node z)) d h.1.0
      (subst (λ (y : ℤ). pos 0 ≤ℤ (pos 0 *ℤ pos d +ℤ (negsuc 0 *ℤ f (key.Node n) +ℤ ((pos 2 *ℤ s.hi) *ℤ y +ℤ (negsuc 0 *ℤ f (key.Node z) +ℤ pos 0))))) (b_is ∙ zero_d d) h.1.1.1.0)
      ∙ ap neg_ℤ n_is ∙ sym (neg-*ℤ x (pos d)) ∙ ap (λ (y : ℤ). y *ℤ pos d) (size_false x e)

  pub abs_over : f (key.Node n) ≡ x *ℤ pos d → f (key.Node b) ≡ as_number (int_le (pos 0) x) *ℤ pos d → Hold d f (abs_forms s n b z) → f (key.Node z) ≡ cond (int_lt x (pos 0)) (neg_ℤ x) x *ℤ pos d
  abs_over n_is b_is h = abs_split (int_le (pos 0) x) refl n_is b_is h
