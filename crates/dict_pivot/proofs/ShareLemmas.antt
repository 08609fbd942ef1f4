-- The shares of the columns, and the list of those that are not 0, made from the left.
use Rattle.std.proofs.Common.{◌≡◌, ◌≢◌, ℕ, zero, suc, ◌+◌, ◌<◌, ◌≤◌, List, [], ◌∷◌, ◌++◌, length, take, pos, negsuc, ℤ, Option, Some, None, cond, refl, sym, ◌∙◌, ap, subst, arith, eq-eqb, set, get_or-set_same, get_or-set_other, ◌⊎◌, inl, inr}
use Rattle.std.specs.Prelude.{slice_index}
use Rattle.std.proofs.Math.Dec.{eqb}
use Rattle.std.proofs.lemmas.Bool.{ne_eqb, cases_lt}
use Rattle.std.proofs.lemmas.Int.{ints}
use Rattle.std.proofs.lemmas.List.{take_more_set, length_push, get_or_push, get_or_append_left}
use Rattle.rat128.specs.Fractions.{Fraction, den, whole_fraction, minus, inverse, with_sign}
use Rattle.rat128.specs.Operations.{IsNarrow, mul_of, sub_of}
use Rattle.dict_pivot.specs.Dictionaries.{number, and_then, option_minus, inverse_of, divided_of, share_of}
use Rattle.dict_pivot.specs.Steps.{AreShares, AreActive}
use Rattle.dict_pivot.proofs.PivotLaws.{same_or_not}
use Rattle.dict_pivot.proofs.Narrow.{inverse_some}

-- ---- one share
pub divided_first : (xs : List Fraction) (least x : Fraction) (j : ℕ) (o : Option Fraction) → j ≡ 0 → x ≡ number xs 0 → o ≡ sub_of x least → o ≡ divided_of xs least j
unfolding divided_of
divided_first xs least x j o z e is = is ∙ ap (λ y. sub_of y least) e ∙ ap (divided_of xs least) (sym z)

pub divided_later : (xs : List Fraction) (least x : Fraction) (j : ℕ) → j ≢ 0 → x ≡ number xs j → Some x ≡ divided_of xs least j
unfolding divided_of
divided_later xs least x zero ne e = absurd (ne refl)
divided_later xs least x (suc j) ne e = ap Some e

module _ (xs : List Fraction) (c : ℕ) (least : Fraction) (j : ℕ) (u : Fraction) (i : inverse_of (number xs c) ≡ Some u) where
  pub share_here : j ≡ c → Some u ≡ share_of xs c least j
  unfolding share_of
  share_here e =
      sym (ap (λ o. and_then o (λ u. cond (eqb j c) (Some u) (and_then (divided_of xs least j) (λ x. option_minus (mul_of x u))))) i ∙ ap (λ b. cond b (Some u) (and_then (divided_of xs least j) (λ x. option_minus (mul_of x u)))) (eq-eqb j c e))

  share_there : j ≢ c → share_of xs c least j ≡ and_then (divided_of xs least j) (λ x. option_minus (mul_of x u))
  unfolding share_of
  share_there ne =
      ap (λ o. and_then o (λ u. cond (eqb j c) (Some u) (and_then (divided_of xs least j) (λ x. option_minus (mul_of x u))))) i ∙ ap (λ b. cond b (Some u) (and_then (divided_of xs least j) (λ x. option_minus (mul_of x u)))) (ne_eqb j c ne)

  pub share_undivided : j ≢ c → divided_of xs least j ≡ None → None ≡ share_of xs c least j
  share_undivided ne e = sym (share_there ne ∙ ap (λ o. and_then o (λ x. option_minus (mul_of x u))) e)

  pub share_unmade : (x : Fraction) → j ≢ c → divided_of xs least j ≡ Some x → mul_of x u ≡ None → None ≡ share_of xs c least j
  share_unmade x ne e f =
      sym (share_there ne ∙ ap (λ o. and_then o (λ x. option_minus (mul_of x u))) e ∙ ap option_minus f)

  pub share_made : (x p : Fraction) → j ≢ c → divided_of xs least j ≡ Some x → mul_of x u ≡ Some p → Some (minus p) ≡ share_of xs c least j
  share_made x p ne e f =
      sym (share_there ne ∙ ap (λ o. and_then o (λ x. option_minus (mul_of x u))) e ∙ ap option_minus f)

-- the inverse is not 0
inverse_apart : (p : Fraction) → p.num ≢ pos 0 → (inverse p).num ≢ pos 0
inverse_apart p ne = apart p.num (den p) ne (omega arith)
  where
    apart : (z : ℤ) (d : ℕ) → z ≢ pos 0 → 0 < d → with_sign z d ≢ pos 0
    apart (pos zero) d ne s e = ne refl
    apart (pos (suc n)) d ne s e = absurd (omega (arith, ints, e, s))
    apart (negsuc n) d ne s e = absurd (omega (arith, ints, e, s))

-- so a share that is 0 is not that of the pivot's column
pub own_apart : (xs : List Fraction) (c j : ℕ) (least u made : Fraction) → IsNarrow (number xs c) → (number xs c).num ≢ pos 0 → inverse_of (number xs c) ≡ Some u → share_of xs c least j ≡ Some made → made.num ≡ pos 0 → j ≢ c
own_apart xs c j least u made n ne i is z e =
    inverse_apart (number xs c) ne (ap (λ p. p.num) (some_same (inverse (number xs c)) u (sym (inverse_some (number xs c) n ne) ∙ i) ∙ some_same u made (share_here xs c least j u i e ∙ is)) ∙ z)
  where
    some_same : (p q : Fraction) → Some p ≡ Some q → p ≡ q
    some_same p q e = cc

-- ---- the shares up to a column
pub shares_none : (xs : List Fraction) (c : ℕ) (least : Fraction) (shares : List Fraction) → AreShares xs c least 0 shares
shares_none xs c least shares = record {
  each = λ j l. absurd (omega arith);
  narrow = λ j l. absurd (omega arith);
}

pub shares_more : (xs : List Fraction) (c : ℕ) (least : Fraction) (shares : List Fraction) (j : ℕ) (made : Fraction) → j < length shares → share_of xs c least j ≡ Some made → IsNarrow made → AreShares xs c least j shares → AreShares xs c least (j + 1) (set shares j made)
shares_more xs c least shares j made room is n a = record {
  each = λ k l. each k l (same_or_not k j);
  narrow = λ k l. narrow k l (same_or_not k j);
}
  where
    here : made ≡ number (set shares j made) j
    here = sym (get_or-set_same shares j made (whole_fraction (pos 0)) room)

    there : (k : ℕ) → k ≢ j → number shares k ≡ number (set shares j made) k
    there k ne = sym (get_or-set_other shares j k made (whole_fraction (pos 0)) ne)

    each : (k : ℕ) → k < j + 1 → (k ≡ j) ⊎ (k ≢ j) → share_of xs c least k ≡ Some (number (set shares j made) k)
    each k l (inl e) = subst (λ k. share_of xs c least k ≡ Some (number (set shares j made) k)) (sym e) (is ∙ ap Some here)
    each k l (inr ne) = a.each k (omega (arith, l, ne)) ∙ ap Some (there k ne)

    narrow : (k : ℕ) → k < j + 1 → (k ≡ j) ⊎ (k ≢ j) → IsNarrow (number (set shares j made) k)
    narrow k l (inl e) = subst (λ k. IsNarrow (number (set shares j made) k)) (sym e) (subst IsNarrow here n)
    narrow k l (inr ne) = subst IsNarrow (there k ne) (a.narrow k (omega (arith, l, ne)))

-- ---- the active columns
pub active_none : (active : List ℕ) (c : ℕ) (shares : List Fraction) → AreActive (take 0 active) c 0 shares
active_none active c shares = record {
  within = λ s l. absurd (omega arith);
  rising = λ s t l m. absurd (omega arith);
  passed = λ j l none. absurd (omega arith);
}

pub active_kept : (active : List ℕ) (c j : ℕ) (shares : List Fraction) (made : Fraction) → j < length shares → made.num ≡ pos 0 → j ≢ c → AreActive active c j shares → AreActive active c (j + 1) (set shares j made)
active_kept active c j shares made room z apart a = record {
  within = λ s l. let k = a.within s l in omega (arith, k);
  rising = a.rising;
  passed = λ k l none. passed k l none (same_or_not k j);
}
  where
    passed : (k : ℕ) → k < j + 1 → ((s : ℕ) → s < length active → slice_index active s ≢ k) → (k ≡ j) ⊎ (k ≢ j) → ((number (set shares j made) k).num ≡ pos 0) × (k ≢ c)
    passed k l none (inl e) = (ap (λ k. (number (set shares j made) k).num) e ∙ ap (λ p. p.num) (get_or-set_same shares j made (whole_fraction (pos 0)) room) ∙ z, λ f. apart (sym e ∙ f))
    passed k l none (inr ne) = let p = a.passed k (omega (arith, l, ne)) none in (ap (λ p. p.num) (get_or-set_other shares j k made (whole_fraction (pos 0)) ne) ∙ p.0, p.1)

active_added : (active : List ℕ) (c j : ℕ) (shares : List Fraction) (made : Fraction) → AreActive active c j shares → AreActive (active ++ j ∷ []) c (j + 1) (set shares j made)
active_added active c j shares made a = record {
  within = λ s l. within s l (cases_lt s (length active));
  rising = λ s t l m. rising s t l m (cases_lt t (length active));
  passed = λ k l none. passed k l none (same_or_not k j);
}
  where
    old : (s : ℕ) → s < length active → slice_index (active ++ j ∷ []) s ≡ slice_index active s
    old s l = get_or_append_left active (j ∷ []) 0 s l

    last : (s : ℕ) → s < length (active ++ j ∷ []) → length active ≤ s → slice_index (active ++ j ∷ []) s ≡ j
    last s l ge = let e : length active ≡ s = omega (arith, length_push active j, l, ge) in get_or_push active j 0 s e

    within : (s : ℕ) → s < length (active ++ j ∷ []) → (s < length active) ⊎ (length active ≤ s) → slice_index (active ++ j ∷ []) s < j + 1
    within s l (inl k) = let w = a.within s k in let e = old s k in omega (arith, w, e)
    within s l (inr ge) = let e = last s l ge in omega (arith, e)

    rising : (s t : ℕ) → s < t → t < length (active ++ j ∷ []) → (t < length active) ⊎ (length active ≤ t) → slice_index (active ++ j ∷ []) s < slice_index (active ++ j ∷ []) t
    rising s t l m (inl k) = let s' : s < length active = omega (arith, l, k) in let r = a.rising s t l k in let e = old s s' in let f = old t k in omega (arith, r, e, f)
    rising s t l m (inr ge) = let s' : s < length active = omega (arith, l, m, ge, length_push active j) in let w = a.within s s' in let e = old s s' in let f = last t m ge in omega (arith, w, e, f)

    passed : (k : ℕ) → k < j + 1 → ((s : ℕ) → s < length (active ++ j ∷ []) → slice_index (active ++ j ∷ []) s ≢ k) → (k ≡ j) ⊎ (k ≢ j) → ((number (set shares j made) k).num ≡ pos 0) × (k ≢ c)
    passed k l none (inl e) = absurd (none (length active) (omega (arith, length_push active j)) (last (length active) (omega (arith, length_push active j)) (omega arith) ∙ sym e))
    passed k l none (inr ne) = let p = a.passed k (omega (arith, l, ne)) (λ s m e. none s (omega (arith, length_push active j, m)) (old s m ∙ e)) in (ap (λ p. p.num) (get_or-set_other shares j k made (whole_fraction (pos 0)) ne) ∙ p.0, p.1)

pub active_pushed : (active : List ℕ) (c j count : ℕ) (shares : List Fraction) (made : Fraction) → count < length active → AreActive (take count active) c j shares → AreActive (take (count + 1) (set active count j)) c (j + 1) (set shares j made)
active_pushed active c j count shares made room a =
    subst (λ l. AreActive l c (j + 1) (set shares j made)) (sym (take_more_set active count j room)) (active_added (take count active) c j shares made a)
