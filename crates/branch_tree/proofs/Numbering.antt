-- The numbers of the columns with two values: they rise, and are less than the columns are many.
use Rattle.std.proofs.Common.{◌≡◌, ℕ, zero, suc, ◌+◌, ◌<◌, ◌≤◌, Bool, true, false, List, [], ◌∷◌, length, refl, sym, ◌∙◌, ap, subst, arith, if◌then◌else◌}
use Rattle.std.specs.Prelude.{All, slice_index}
use Rattle.std.specs.List.Sorted.{IsStrictlyIncreasing}
use Rattle.std.proofs.lemmas.List.Elements.{All-cons, All-nil}
use Rattle.ip_rows.specs.declared.Bounds.{Bounds}
use Rattle.branch_tree.specs.Listing.{has_two, open_from}

pub open_small : (limit number : ℕ) (sides : List Bounds) → number + length sides ≤ limit → All (λ column. column < limit) (open_from number sides)
unfolding open_from
open_small limit number [] few = All-nil (λ column. column < limit)
open_small limit number (side ∷ sides) few = by_test (has_two side) (open_small limit (number + 1) sides (omega (arith, few)))
  where
    by_test : (b : Bool) → All (λ column. column < limit) (open_from (number + 1) sides) → All (λ column. column < limit) (if b then number ∷ open_from (number + 1) sides else open_from (number + 1) sides)
    by_test true rest = All-cons (λ column. column < limit) number (open_from (number + 1) sides) (omega (arith, few)) rest
    by_test false rest = rest

open_above : (number : ℕ) (sides : List Bounds) (k : ℕ) → k < length (open_from number sides) → number ≤ slice_index (open_from number sides) k
unfolding open_from
open_above number [] k less = absurd (omega (arith, less))
open_above number (side ∷ sides) k less = by_test (has_two side) k (open_above (number + 1) sides) less
  where
    by_test : (b : Bool) (k : ℕ) → ((j : ℕ) → j < length (open_from (number + 1) sides) → number + 1 ≤ slice_index (open_from (number + 1) sides) j)
        → k < length (if b then number ∷ open_from (number + 1) sides else open_from (number + 1) sides)
        → number ≤ slice_index (if b then number ∷ open_from (number + 1) sides else open_from (number + 1) sides) k
    by_test true zero later less = omega arith
    by_test true (suc k) later less = let above = later k (omega (arith, less)) in omega (arith, above)
    by_test false k later less = let above = later k less in omega (arith, above)

rising_more : (first : ℕ) (rest : List ℕ) → ((k : ℕ) → k < length rest → first + 1 ≤ slice_index rest k) → IsStrictlyIncreasing rest → IsStrictlyIncreasing (first ∷ rest)
rising_more first rest above rising = by_place
  where
    by_place : (k : ℕ) → k + 1 < length (first ∷ rest) → slice_index (first ∷ rest) k < slice_index (first ∷ rest) (k + 1)
    by_place zero less = let next = above 0 (omega (arith, less)) in omega (arith, next)
    by_place (suc k) less =
        let next : suc k + 1 ≡ suc (k + 1) = omega arith in
        subst (λ (n : ℕ). slice_index (first ∷ rest) (suc k) < slice_index (first ∷ rest) n) (sym next) (rising k (omega (arith, less)))

pub open_rising : (number : ℕ) (sides : List Bounds) → IsStrictlyIncreasing (open_from number sides)
unfolding open_from
open_rising number [] = λ k less. absurd (omega (arith, less))
open_rising number (side ∷ sides) = by_test (has_two side) (open_rising (number + 1) sides)
  where
    by_test : (b : Bool) → IsStrictlyIncreasing (open_from (number + 1) sides) → IsStrictlyIncreasing (if b then number ∷ open_from (number + 1) sides else open_from (number + 1) sides)
    by_test true rest = rising_more number (open_from (number + 1) sides) (open_above (number + 1) sides) rest
    by_test false rest = rest
