-- What the operations of a pivot give is the pivot of the exact dictionary, and a dictionary again.
use Rattle.std.proofs.Common.{◌≡◌, ◌≢◌, ◌⊎◌, inl, inr, ℕ, zero, suc, ◌+◌, ◌-◌, ◌*◌, ◌^◌, ◌<◌, ◌≤◌, List, length, pos, Option, Some, None, cond, refl, sym, ◌∙◌, ap, ap₂, subst, arith, eq-eqb}
use Rattle.std.proofs.Math.Dec.{eqb}
use Rattle.std.proofs.lemmas.Bool.{ne_eqb}
use Rattle.std.proofs.lemmas.Option.{none-some}
use Rattle.rat128.specs.Fractions.{Fraction, whole_fraction, minus}
use Rattle.rat128.specs.Operations.{IsNarrow, mul_of, sub_of}
use Rattle.rat128.specs.Rationals.{ℚ, value, zero_ℚ, ◌+ℚ◌, ◌*ℚ◌, neg_ℚ, inv_ℚ, value-minus}
use Rattle.rat128.proofs.Rationals.{one-*ℚ, num_zero}
use Rattle.rat128.proofs.Operations.{value-sub_of, value-mul_of, value-div_of}
use Rattle.dict_pivot.specs.Tables.{IsColumn, share, IsPivot, IsHome, Solves}
use Rattle.dict_pivot.specs.Dictionaries.{Dictionary, number, line, cell_of, least_number, least_of, table, IsDictionary, and_then, option_minus, inverse_of, divided_of, share_of, new_number, new_with, cell_asked, IsPivoted}
use Rattle.dict_pivot.proofs.PivotLaws.{same_or_not, stays_units}
use Rattle.dict_pivot.proofs.Solutions.{solves_after, solves_before, stays_home}
use Rattle.dict_pivot.proofs.Narrow.{narrow-zero, narrow-one, narrow-mul_of, narrow-new_number, narrow-inverse, inverse_some, value-new_number}

pub and_then_some : {A B : Type 0} (o : Option A) (f : A → Option B) (r : B) → and_then o f ≡ Some r → (x : A) × (o ≡ Some x) × (f x ≡ Some r)
and_then_some (Some a) f r e = (a, refl, e)
and_then_some None f r e = absurd (none-some r e)

some_same : {A : Type 0} (p q : A) → Some p ≡ Some q → p ≡ q
some_same p q e = cc

minus_some : (o : Option Fraction) (r : Fraction) → option_minus o ≡ Some r → (p : Fraction) × (o ≡ Some p) × (minus p ≡ r)
minus_some (Some p) r e = (p, refl, some_same (minus p) r e)
minus_some None r e = absurd (none-some r e)

value_inverse_of : (p u : Fraction) → inverse_of p ≡ Some u → value u ≡ inv_ℚ (value p)
unfolding inverse_of
value_inverse_of p u e = value-div_of (whole_fraction (pos 1)) p u e ∙ one-*ℚ (inv_ℚ (value p))

-- ---- a share
-- the parts of a share that is made
pub share_parts : (xs : List Fraction) (c : ℕ) (least : Fraction) (j : ℕ) (s : Fraction) → j ≢ c → share_of xs c least j ≡ Some s → (u x p : Fraction) × (inverse_of (number xs c) ≡ Some u) × (divided_of xs least j ≡ Some x) × (mul_of x u ≡ Some p) × (minus p ≡ s)
unfolding share_of
share_parts xs c least j s ne e =
    let a = and_then_some (inverse_of (number xs c)) (λ u. cond (eqb j c) (Some u) (and_then (divided_of xs least j) (λ x. option_minus (mul_of x u)))) s e in
    let f : and_then (divided_of xs least j) (λ x. option_minus (mul_of x a.0)) ≡ Some s = sym (ap (λ b. cond b (Some a.0) (and_then (divided_of xs least j) (λ x. option_minus (mul_of x a.0)))) (ne_eqb j c ne)) ∙ a.2 in
    let b = and_then_some (divided_of xs least j) (λ x. option_minus (mul_of x a.0)) s f in
    let m = minus_some (mul_of b.0 a.0) s b.2 in
    (a.0, b.0, m.0, a.1, b.1, m.1, m.2)

-- in the pivot's column it is the inverse
pub share_own : (xs : List Fraction) (c : ℕ) (least : Fraction) (s : Fraction) → share_of xs c least c ≡ Some s → inverse_of (number xs c) ≡ Some s
unfolding share_of
share_own xs c least s e =
    let a = and_then_some (inverse_of (number xs c)) (λ u. cond (eqb c c) (Some u) (and_then (divided_of xs least c) (λ x. option_minus (mul_of x u)))) s e in
    a.1 ∙ sym (ap (λ b. cond b (Some a.0) (and_then (divided_of xs least c) (λ x. option_minus (mul_of x a.0)))) (eq-eqb c c refl)) ∙ a.2

value_share : (xs : List Fraction) (c : ℕ) (least : Fraction) (j : ℕ) (s x : Fraction) → j ≢ c → share_of xs c least j ≡ Some s → divided_of xs least j ≡ Some x → value s ≡ neg_ℚ (value x *ℚ inv_ℚ (value (number xs c)))
value_share xs c least j s x ne e f =
    let a = share_parts xs c least j s ne e in
    let same : a.1 ≡ x = some_same a.1 x (sym a.4 ∙ f) in
    ap value (sym a.6) ∙ sym (value-minus a.2) ∙ ap neg_ℚ (value-mul_of a.1 a.0 a.2 a.5 ∙ ap₂ (λ x u. x *ℚ u) (ap value same) (value_inverse_of (number xs c) a.0 a.3))

divided_constant : (xs : List Fraction) (least x : Fraction) → divided_of xs least 0 ≡ Some x → sub_of (number xs 0) least ≡ Some x
unfolding divided_of
divided_constant xs least x e = e

divided_factor : (xs : List Fraction) (least x : Fraction) (j : ℕ) → divided_of xs least (suc j) ≡ Some x → number xs (suc j) ≡ x
unfolding divided_of
divided_factor xs least x j e = some_same (number xs (suc j)) x e

-- the share of the exact dictionary
share_is_exact : (d : Dictionary) (r c j : ℕ) (s : Fraction) → j ≢ c → share_of (line d.cells d.width r) c (least_number d.low r) j ≡ Some s → value s ≡ share (least_of d.low) (table d) r c j
share_is_exact d r c j s ne e = by_column j ne e (share_parts (line d.cells d.width r) c (least_number d.low r) j s ne e)
  where
    by_column : (j : ℕ) → j ≢ c → share_of (line d.cells d.width r) c (least_number d.low r) j ≡ Some s → (u x p : Fraction) × (inverse_of (number (line d.cells d.width r) c) ≡ Some u) × (divided_of (line d.cells d.width r) (least_number d.low r) j ≡ Some x) × (mul_of x u ≡ Some p) × (minus p ≡ s) → value s ≡ share (least_of d.low) (table d) r c j
    by_column zero ne e a = value_share (line d.cells d.width r) c (least_number d.low r) zero s a.1 ne e a.4 ∙ ap (λ x. neg_ℚ (x *ℚ inv_ℚ (value (cell_of d r c)))) (value-sub_of (cell_of d r 0) (least_number d.low r) a.1 (divided_constant (line d.cells d.width r) (least_number d.low r) a.1 a.4))
    by_column (suc j) ne e a = value_share (line d.cells d.width r) c (least_number d.low r) (suc j) s a.1 ne e a.4 ∙ ap (λ x. neg_ℚ (value x *ℚ inv_ℚ (value (cell_of d r c)))) (sym (divided_factor (line d.cells d.width r) (least_number d.low r) a.1 j a.4))

-- ---- a cell
pub asked_parts : (d : Dictionary) (r c i j : ℕ) (v : Fraction) → cell_asked d r c i j ≡ Some v → (s : Fraction) × (share_of (line d.cells d.width r) c (least_number d.low r) j ≡ Some s) × (new_with (line d.cells d.width i) c j s ≡ Some v)
unfolding cell_asked
asked_parts d r c i j v e =
    and_then_some (share_of (line d.cells d.width r) c (least_number d.low r) j) (λ s. new_with (line d.cells d.width i) c j s) v e

pub new_there : (ys : List Fraction) (c j : ℕ) (s v : Fraction) → j ≢ c → new_with ys c j s ≡ Some v → new_number (number ys j) (number ys c) s ≡ Some v
unfolding new_with
new_there ys c j s v ne e =
    sym (ap (λ b. cond b (mul_of (number ys c) s) (new_number (number ys j) (number ys c) s)) (ne_eqb j c ne)) ∙ e

pub new_here : (ys : List Fraction) (c : ℕ) (s v : Fraction) → new_with ys c c s ≡ Some v → mul_of (number ys c) s ≡ Some v
unfolding new_with
new_here ys c s v e =
    sym (ap (λ b. cond b (mul_of (number ys c) s) (new_number (number ys c) (number ys c) s)) (eq-eqb c c refl)) ∙ e

-- ---- the pivot
module _ (d d' : Dictionary) (r c : ℕ) (own : IsDictionary d) (rl : r < d.height) (cs : 0 < c) (cw : c < d.width) (some : (cell_of d r c).num ≢ pos 0) (p : IsPivoted d r c d') where
  narrower : (j w : ℕ) → 0 < w → j ≤ w - 1 → j < w
  narrower j w some le = omega arith

  inside : (j : ℕ) → j ≤ d.width - 1 → j < d.width
  inside j le = narrower j d.width (omega (arith, cw)) le

  pub pivot_is : IsPivot (least_of d.low) (table d) r c (table d')
  pivot_is = record {
    height = p.height;
    width = ap (λ w. w - 1) p.width;
    others = λ i j il jl ne ce. others i j il (inside j jl) ne ce;
    column = λ i il ne. column i il ne;
    constant = ap value p.constant;
    factors = λ j k ne. ap value (p.factors j k.some (inside j k.within) ne);
    own = ap value p.own;
    free = p.free;
    frees = λ j k ne. p.frees j ne;
  }
    where
      others : (i j : ℕ) → i < d.height → j < d.width → i ≢ r → j ≢ c → value (cell_of d' i j) ≡ value (cell_of d i j) +ℚ value (cell_of d i c) *ℚ share (least_of d.low) (table d) r c j
      others i j il jl ne ce =
          let a = asked_parts d r c i j (cell_of d' i j) (p.cells i j il ne jl) in
          value-new_number (cell_of d i j) (cell_of d i c) a.0 (cell_of d' i j) (new_there (line d.cells d.width i) c j a.0 (cell_of d' i j) ce a.2) ∙ ap (λ z. value (cell_of d i j) +ℚ value (cell_of d i c) *ℚ z) (share_is_exact d r c j a.0 ce a.1)

      column : (i : ℕ) → i < d.height → i ≢ r → value (cell_of d' i c) ≡ value (cell_of d i c) *ℚ inv_ℚ (value (cell_of d r c))
      column i il ne =
          let a = asked_parts d r c i c (cell_of d' i c) (p.cells i c il ne cw) in
          value-mul_of (cell_of d i c) a.0 (cell_of d' i c) (new_here (line d.cells d.width i) c a.0 (cell_of d' i c) a.2) ∙ ap (λ z. value (cell_of d i c) *ℚ z) (value_inverse_of (cell_of d r c) a.0 (share_own (line d.cells d.width r) c (least_number d.low r) a.0 a.1))

  column_is : IsColumn (table d) c
  column_is = record { some = cs; within = last c d.width cw }
    where
      last : (c w : ℕ) → c < w → c ≤ w - 1
      last c w l = omega arith

  not_zero : (table d).cell r c ≢ zero_ℚ
  not_zero e = some (num_zero (cell_of d r c) e)

  pub solutions_stay : (q : ℕ → ℚ) → (Solves (least_of d.low) (table d) q → Solves (least_of d.low) (table d') q) × (Solves (least_of d.low) (table d') q → Solves (least_of d.low) (table d) q)
  solutions_stay q =
      (solves_after (least_of d.low) (table d) (table d') r c rl column_is not_zero pivot_is q, solves_before (least_of d.low) (table d) (table d') r c rl column_is not_zero pivot_is q own.units own.home)

  -- the numbers stay fractions of 127 bits
  narrow_stays : IsNarrow (least_number d.low r) → (i j : ℕ) → i < d.height → j < d.width → IsNarrow (cell_of d' i j)
  narrow_stays n i j il jl = pick (same_or_not i r) (same_or_not j c)
    where
      first : (j : ℕ) → j < d.width → j ≢ c → IsNarrow (cell_of d' r j)
      first zero l ne = subst IsNarrow (sym p.constant) n
      first (suc j) l ne = subst IsNarrow (sym (p.factors (suc j) (omega arith) l ne)) narrow-zero

      pick : (i ≡ r) ⊎ (i ≢ r) → (j ≡ c) ⊎ (j ≢ c) → IsNarrow (cell_of d' i j)
      pick (inl e) (inl f) = subst (λ i. IsNarrow (cell_of d' i j)) (sym e) (subst (λ j. IsNarrow (cell_of d' r j)) (sym f) (subst IsNarrow (sym p.own) narrow-one))
      pick (inl e) (inr ne) = subst (λ i. IsNarrow (cell_of d' i j)) (sym e) (first j jl ne)
      pick (inr ne) (inl f) = subst (λ j. IsNarrow (cell_of d' i j)) (sym f) (here ne)
        where
          here : i ≢ r → IsNarrow (cell_of d' i c)
          here ne =
              let a = asked_parts d r c i c (cell_of d' i c) (p.cells i c il ne cw) in
              let u : inverse_of (cell_of d r c) ≡ Some a.0 = share_own (line d.cells d.width r) c (least_number d.low r) a.0 a.1 in
              narrow-mul_of (cell_of d i c) a.0 (cell_of d' i c) (own.narrow i c il cw) (subst IsNarrow (some_same _ a.0 (sym (inverse_some (cell_of d r c) (own.narrow r c rl cw) some) ∙ u)) (narrow-inverse (cell_of d r c) (own.narrow r c rl cw) some)) (new_here (line d.cells d.width i) c a.0 (cell_of d' i c) a.2)
      pick (inr ne) (inr other) = there ne other
        where
          there : i ≢ r → j ≢ c → IsNarrow (cell_of d' i j)
          there ne other =
              let a = asked_parts d r c i j (cell_of d' i j) (p.cells i j il ne jl) in
              narrow-new_number (cell_of d i j) (cell_of d i c) a.0 (cell_of d' i j) (new_there (line d.cells d.width i) c j a.0 (cell_of d' i j) other a.2)

  pub dictionary_stays : length d'.cells ≡ length d.cells → length d'.free ≡ length d.free → IsNarrow (least_number d.low r) → IsDictionary d'
  dictionary_stays size free n = record {
    size = size ∙ own.size ∙ sym (ap₂ (λ h w. h * w) p.height p.width);
    width = p.width ∙ own.width ∙ ap (λ l. length l + 1) (sym p.low);
    free = free ∙ own.free ∙ sym p.width;
    tall = let t = own.tall in omega (arith, t, p.height, ap length p.low);
    height_small = subst (λ h. h < 2 ^ 32) (sym p.height) own.height_small;
    width_small = subst (λ w. w < 2 ^ 32) (sym p.width) own.width_small;
    narrow = λ i j il jl. narrow_stays n i j (subst (λ h. i < h) p.height il) (subst (λ w. j < w) p.width jl);
    units = stays_units (least_of d.low) (table d) (table d') r c rl column_is not_zero pivot_is own.units;
    home = subst (λ low. IsHome (least_of low) (table d')) (sym p.low) (stays_home (least_of d.low) (table d) (table d') r c rl column_is not_zero pivot_is (λ i. zero_ℚ) own.units own.home);
  }
