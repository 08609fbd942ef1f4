-- The cells that are asked for are those that the shares give.
use Rattle.std.proofs.Common.{◌≡◌, ◌≢◌, ◌⊎◌, inl, inr, ℕ, ◌+◌, ◌-◌, ◌*◌, ◌<◌, ◌≤◌, List, length, take, ℤ, set, get_or-set_same, get_or-set_other, Some, None, refl, sym, ◌∙◌, ap, subst, arith}
use Rattle.std.specs.Prelude.{IsSome, slice_index}
use Rattle.std.proofs.lemmas.Bool.{cases_lt}
use borrow.Rule.Slice.PartMut.{put_mid}
use Rattle.rat128.specs.Fractions.{Fraction}
use Rattle.dict_pivot.specs.Dictionaries.{Dictionary, number, line, least_number, seen, IsDictionary, and_then, share_of, new_with, cell_asked, IsFirstWide, IsPivoted}
use Rattle.dict_pivot.specs.Steps.{new_at, new_cell, AreShares, IsOwnRow}
use Rattle.dict_pivot.proofs.Lines.{length-line, line_first, line_here, line_other}

module _ (d : Dictionary) (r c : ℕ) where
  asked_shared : (shares : List Fraction) (i j : ℕ) → share_of (line d.cells d.width r) c (least_number d.low r) j ≡ Some (number shares j) → cell_asked d r c i j ≡ new_at (line d.cells d.width i) c shares j
  unfolding cell_asked
  asked_shared shares i j e = ap (λ o. and_then o (λ s. new_with (line d.cells d.width i) c j s)) e

  asked_unshared : (i j : ℕ) → share_of (line d.cells d.width r) c (least_number d.low r) j ≡ None → cell_asked d r c i j ≡ None
  unfolding cell_asked
  asked_unshared i j e = ap (λ o. and_then o (λ s. new_with (line d.cells d.width i) c j s)) e

  -- where the share of column `end` passes, the first wide cell is in row 0
  pub first_row_wide : (shares : List Fraction) (end j : ℕ) → IsDictionary d → 0 < r → end < d.width → AreShares (line d.cells d.width r) c (least_number d.low r) end shares → share_of (line d.cells d.width r) c (least_number d.low r) end ≡ None → j ≤ end → (j < end → new_at (line d.cells d.width 0) c shares j ≡ None) → ((k : ℕ) → k < j → IsSome (new_at (line d.cells d.width 0) c shares k)) → IsFirstWide d r c 0 j
  first_row_wide shares end j own some within s none le wide before = record {
    within = let t = own.tall in omega (arith, t);
    other = λ e. absurd (omega (arith, e, some));
    column = omega (arith, le, within);
    wide = pick (cases_lt j end);
    before = λ l m. subst IsSome (sym (asked_shared shares 0 l (s.each l (omega (arith, m, le))))) (before l m);
    above = λ k l m ne n. absurd (omega (arith, m));
  }
    where
      pick : (j < end) ⊎ (end ≤ j) → cell_asked d r c 0 j ≡ None
      pick (inl l) = asked_shared shares 0 j (s.each j l) ∙ wide l
      pick (inr ge) = let e : end ≡ j = omega (arith, le, ge) in asked_unshared 0 j (subst (λ j. share_of (line d.cells d.width r) c (least_number d.low r) j ≡ None) e none)

  -- where every share is made, it is the first that passes
  pub later_wide : (shares : List Fraction) (i j : ℕ) → AreShares (line d.cells d.width r) c (least_number d.low r) d.width shares → i < d.height → i ≢ r → j < d.width → new_cell d.cells d.width c shares i j ≡ None → ((l : ℕ) → l < j → IsSome (new_cell d.cells d.width c shares i l)) → ((k l : ℕ) → k < i → k ≢ r → l < d.width → IsSome (new_cell d.cells d.width c shares k l)) → IsFirstWide d r c i j
  later_wide shares i j s il ne jl wide before above = record {
    within = il;
    other = ne;
    column = jl;
    wide = asked_shared shares i j (s.each j jl) ∙ wide;
    before = λ l m. subst IsSome (sym (asked_shared shares i l (s.each l (omega (arith, m, jl))))) (before l m);
    above = λ k l m ne n. subst IsSome (sym (asked_shared shares k l (s.each l n))) (above k l m ne n);
  }

-- as the code has them
pub first_row_answer : (h w : ℕ) (cells : List Fraction) (free : List ℕ) (low : List ℤ) (shares : List Fraction) (least : Fraction) (r c end j : ℕ) → IsDictionary (seen h w cells free low) → 0 < r → r < h → end < w → least ≡ least_number low r → AreShares (line cells w r) c least end shares → (end < length (line cells w r) → share_of (line cells w r) c least end ≡ None) → j ≤ end → (j < end → new_at (take w cells) c shares j ≡ None) → ((k : ℕ) → k < j → IsSome (new_at (take w cells) c shares k)) → IsFirstWide (seen h w cells free low) r c 0 j
first_row_answer h w cells free low shares least r c end j own some rl within e s none le wide before =
    first_row_wide (seen h w cells free low) r c shares end j own some within (subst (λ l. AreShares (line cells w r) c l end shares) e s) (subst (λ l. share_of (line cells w r) c l end ≡ None) e (none (subst (λ n. end < n) (sym (length-line cells w r h rl own.size)) within))) le (λ l. ap (λ xs. new_at xs c shares j) (line_first cells w) ∙ wide l) (λ k l. subst (λ xs. IsSome (new_at xs c shares k)) (sym (line_first cells w)) (before k l))

pub shares_made : (cells : List Fraction) (low : List ℤ) (shares : List Fraction) (least : Fraction) (w r c end : ℕ) → end ≡ w → least ≡ least_number low r → AreShares (line cells w r) c least end shares → AreShares (line cells w r) c (least_number low r) w shares
shares_made cells low shares least w r c end e f s =
    subst (λ l. AreShares (line cells w r) c l w shares) f (subst (λ n. AreShares (line cells w r) c least n shares) e s)

-- the whole pivot
pub pivoted : (h w : ℕ) (cells written new ys : List Fraction) (free free' : List ℕ) (low : List ℤ) (shares : List Fraction) (r c : ℕ) → IsDictionary (seen h w cells free low) → r < h → 0 < c → c < w → AreShares (line cells w r) c (least_number low r) w shares → new ≡ put_mid (r * w) (r * w + w - r * w) written ys → length written ≡ h * w → length ys ≡ w → ((i j : ℕ) → i < h → i ≢ r → j < w → new_cell cells w c shares i j ≡ Some (number (line written w i) j)) → IsOwnRow (least_number low r) c ys → free' ≡ set free c r → IsPivoted (seen h w cells free low) r c (seen h w new free' low)
pivoted h w cells written new ys free free' low shares r c own rl cs cw s is size long done row frees = record {
  height = refl;
  width = refl;
  low = refl;
  cells = λ i j il ne jl. asked_shared (seen h w cells free low) r c shares i j (s.each j jl) ∙ done i j il ne jl ∙ ap (λ xs. Some (number xs j)) (sym (line_other written new ys w r i h is rl size long ne));
  constant = ap (λ xs. number xs 0) there ∙ row.constant;
  own = ap (λ xs. number xs c) there ∙ row.own;
  factors = λ j js jl ne. ap (λ xs. number xs j) there ∙ row.others j js (subst (λ n. j < n) (sym long) jl) ne;
  free = ap (λ xs. slice_index xs c) frees ∙ get_or-set_same free c r 0 (subst (λ n. c < n) (sym own.free) cw);
  frees = λ j ne. ap (λ xs. slice_index xs j) frees ∙ get_or-set_other free c j r 0 ne;
}
  where
    there : line new w r ≡ ys
    there = ap (λ xs. line xs w r) is ∙ line_here written ys w r h rl size long
