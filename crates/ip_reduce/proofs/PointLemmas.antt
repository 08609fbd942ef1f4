-- What reduction keeps of points within the sides.
use Rattle.std.proofs.Common.{◌≡◌, ◌+◌, ◌*◌, ◌<◌, ◌≤◌, ℕ, suc, ℤ, pos, negsuc, neg_ℤ, ◌+ℤ◌, ◌*ℤ◌, ◌≤ℤ◌, Bool, true, false, cond, List, [], ◌∷◌, length, refl, sym, ap, subst, arith, mul-le-mul_right}
use Rattle.std.specs.List.{All}
use Rattle.std.specs.Prelude.{int_lt, not}
use Rattle.std.proofs.lemmas.Int.{ints}
use Rattle.std.proofs.lemmas.Bool.Decides.{Decides-int_eq}
use Rattle.std.proofs.lemmas.List.Elements.{All-head, All-tail}
use Rattle.std.proofs.Math.IntN.{*ℤ_comm}
use borrow.Author.Differences.{up, down}
use Rattle.ip_rows.specs.declared.Bounds.{Bounds}
use Rattle.ip_rows.specs.declared.rows.Coef.{Coef}
use Rattle.ip_rows.specs.declared.rows.IpRow.{IpRow}
use Rattle.ip_rows.specs.Rows.{side_at}
use Rattle.ip_rows.specs.Programs.{is_fixed, fixed_sum, number_at, sum_at, IsBetween, Holds}
use Rattle.ip_reduce.specs.Rows.{open_terms, put_in, least_part, least_sum}

-- a product grows with its factor
grows : (a b : ℤ) (k : ℕ) → a ≤ℤ b → (a *ℤ pos k) ≤ℤ (b *ℤ pos k)
grows a b k h =
    let e : up a + down b ≤ up b + down a = omega (arith, ints) in
    let f : (up a + down b) * k ≤ (up b + down a) * k = mul-le-mul_right k e in
    omega (arith, ints)

turned : (n : ℕ) (x : ℤ) → negsuc n *ℤ x ≡ neg_ℤ (x *ℤ pos (suc n))
turned n x = omega (arith, ints)

-- the least of a term is at one of its sides
least_product : (factor lo hi n : ℤ) → lo ≤ℤ n → n ≤ℤ hi → cond (int_lt factor (pos 0)) (factor *ℤ hi) (factor *ℤ lo) ≤ℤ (factor *ℤ n)
least_product (pos k) lo hi n low high = by_test (int_lt (pos k) (pos 0)) refl
  where
    by_test : (b : Bool) → int_lt (pos k) (pos 0) ≡ b → cond b (pos k *ℤ hi) (pos k *ℤ lo) ≤ℤ (pos k *ℤ n)
    by_test true e = absurd (omega (arith, ints))
    by_test false e =
        let more = grows lo n k low in
        subst (λ (z : ℤ). z ≤ℤ (pos k *ℤ n)) (*ℤ_comm lo (pos k)) (subst (λ (z : ℤ). (lo *ℤ pos k) ≤ℤ z) (*ℤ_comm n (pos k)) more)
least_product (negsuc k) lo hi n low high = by_test (int_lt (negsuc k) (pos 0)) refl
  where
    by_test : (b : Bool) → int_lt (negsuc k) (pos 0) ≡ b → cond b (negsuc k *ℤ hi) (negsuc k *ℤ lo) ≤ℤ (negsuc k *ℤ n)
    by_test true e =
        let more = grows n hi (suc k) high in
        let back : neg_ℤ (hi *ℤ pos (suc k)) ≤ℤ neg_ℤ (n *ℤ pos (suc k)) = omega (arith, ints, more) in
        subst (λ (z : ℤ). z ≤ℤ (negsuc k *ℤ n)) (sym (turned k hi)) (subst (λ (z : ℤ). neg_ℤ (hi *ℤ pos (suc k)) ≤ℤ z) (sym (turned k n)) back)
    by_test false e = absurd (omega (arith, ints))

module _ (sides : List Bounds) (point : List ℤ) (between : IsBetween sides point) where
  -- no point within the sides gives terms less than their least
  pub least_below : (terms : List Coef) → All (λ (term : Coef). term.column < length sides) terms → least_sum sides terms ≤ℤ sum_at point terms
  least_below [] there = omega (arith, ints)
  least_below (term ∷ terms) there =
      let here : term.column < length sides = All-head (λ (t : Coef). t.column < length sides) term terms there in
      let first : least_part sides term ≤ℤ (term.factor *ℤ number_at point term.column) =
      least_product term.factor (side_at sides term.column).lo (side_at sides term.column).hi (number_at point term.column) (between.low term.column here) (between.high term.column here) in
      let others : least_sum sides terms ≤ℤ sum_at point terms = least_below terms (All-tail (λ (t : Coef). t.column < length sides) term terms there) in
      omega (arith, ints, first, others)

  -- a fixed column has its one number
  fixed_number : (column : ℕ) → column < length sides → is_fixed sides column ≡ true → number_at point column ≡ (side_at sides column).lo
  fixed_number column there fixed =
      let same : (side_at sides column).lo ≡ (side_at sides column).hi = (Decides-int_eq (side_at sides column).lo (side_at sides column).hi).0 fixed in
      let low = between.low column there in
      let high = between.high column there in
      omega (arith, ints, same, low, high)

  -- the terms at fixed columns, and the others
  pub sum_splits : (terms : List Coef) → All (λ (term : Coef). term.column < length sides) terms → sum_at point terms ≡ fixed_sum sides terms +ℤ sum_at point (open_terms sides terms)
  sum_splits [] there = refl
  sum_splits (term ∷ terms) there = by_test (is_fixed sides term.column) refl (sum_splits terms (All-tail (λ (t : Coef). t.column < length sides) term terms there))
    where
      here : term.column < length sides
      here = All-head (λ (t : Coef). t.column < length sides) term terms there

      by_test : (b : Bool) → is_fixed sides term.column ≡ b → sum_at point terms ≡ fixed_sum sides terms +ℤ sum_at point (open_terms sides terms)
          → term.factor *ℤ number_at point term.column +ℤ sum_at point terms ≡ (cond b (term.factor *ℤ (side_at sides term.column).lo) (pos 0) +ℤ fixed_sum sides terms) +ℤ sum_at point (cond (not b) (term ∷ open_terms sides terms) (open_terms sides terms))
      by_test true fixed others =
          let number = fixed_number term.column here fixed in
          let part : term.factor *ℤ number_at point term.column ≡ term.factor *ℤ (side_at sides term.column).lo = ap (λ n. term.factor *ℤ n) number in
          omega (arith, ints, part, others)
      by_test false fixed others = omega (arith, ints, others)

  -- a row holds where it holds with the fixed columns put in
  pub holds_in : (row : IpRow) → All (λ (term : Coef). term.column < length sides) row.terms → Holds point row → Holds point (put_in sides row)
  holds_in row there holds = let parts = sum_splits row.terms there in omega (arith, ints, parts, holds)

  pub holds_out : (row : IpRow) → All (λ (term : Coef). term.column < length sides) row.terms → Holds point (put_in sides row) → Holds point row
  holds_out row there holds = let parts = sum_splits row.terms there in omega (arith, ints, parts, holds)
