-- The selectors of the point of a world pick the first pair that is there with the least number.
use Rattle.std.proofs.Common.{◌≡◌, ◌∙◌, ap, ℕ, suc, ◌+◌, ◌<◌, ℤ, pos, Bool, true, false, not, ◌&&◌, ◌||◌, List, [], ◌∷◌, length, take, slice_index_or, refl, arith}
use Rattle.std.specs.List.{list_any}
use Rattle.prov_arena.specs.declared.part.Pair.{Pair}
use Rattle.prov_fold.specs.Values.{as_number}
use Rattle.bool_encode.specs.Points.{has_least, is_first}
use Rattle.cmp_encode.proofs.Choices.{Choice, choices, Picks, PicksHere}

and_false : (b : Bool) → (b && false) ≡ false
and_false true = refl
and_false false = refl

and_true : (b : Bool) → (b && true) ≡ b
and_true true = refl
and_true false = refl

abbrev get_pair : List Pair → ℕ → Pair
get_pair ps j = slice_index_or ps j (record { truth = 0; number = 0 })

module _ (v : ℕ → ℤ) (n : ℤ) (lo hi w : ℕ → ℤ) where
  abbrev q : Pair → Bool
  q = has_least v n

  abbrev cs : ℕ → List Pair → List Choice
  cs i ps = choices v v lo hi w i ps

  -- none after the first
  picks_none : (i : ℕ) (ps : List Pair) → ((j k : ℕ) → j < length ps → i + j ≡ k → w k ≡ pos 0) → Picks true n (cs i ps)
  picks_none i [] h = tt
  picks_none i (p ∷ ps) h = (h 0 i (omega arith) (omega arith), picks_none (suc i) ps (λ j k lt e. h (suc j) k (omega arith) (omega (arith, e))))

  first_head : (p : Pair) (ps : List Pair) → is_first q (p ∷ ps) 0 ≡ q p
  first_head p ps = and_true (q p)

  first_tail : (p : Pair) (ps : List Pair) (j : ℕ) (b : Bool) → q p ≡ b → is_first q (p ∷ ps) (suc j) ≡ (q (get_pair ps j) && not (b || list_any q (take j ps)))
  first_tail p ps j b e = ap (λ b. q (get_pair ps j) && not (b || list_any q (take j ps))) e

  pub picks_first : (i : ℕ) (ps : List Pair) → ((j k : ℕ) → j < length ps → i + j ≡ k → w k ≡ as_number (is_first q ps j)) → Picks false n (cs i ps)
  picks_first i [] h = tt
  picks_first i (p ∷ ps) h = by_test (q p) refl (λ later. picks_first (suc i) ps later)
    where
      by_test : (b : Bool) → q p ≡ b → (((j k : ℕ) → j < length ps → suc i + j ≡ k → w k ≡ as_number (is_first q ps j)) → Picks false n (cs (suc i) ps)) → PicksHere b (w i) (Picks true n (cs (suc i) ps)) (Picks false n (cs (suc i) ps))
      by_test true e rest = (
        h 0 i (omega arith) (omega arith) ∙ ap as_number (first_head p ps ∙ e),
        picks_none (suc i) ps (λ j k lt is. h (suc j) k (omega arith) (omega (arith, is)) ∙ ap as_number (first_tail p ps j true e ∙ and_false (q (get_pair ps j)))),
      )
      by_test false e rest = (
        h 0 i (omega arith) (omega arith) ∙ ap as_number (first_head p ps ∙ e),
        rest (λ j k lt is. h (suc j) k (omega arith) (omega (arith, is)) ∙ ap as_number (first_tail p ps j false e)),
      )
