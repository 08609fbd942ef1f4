-- The least of pairs.
use Rattle.std.proofs.Common.{◌≡◌, ◌∙◌, ap, refl, ℕ, ◌≤◌, List, [], ◌∷◌, length, map, get_or, All, arith}
use Rattle.prov_arena.specs.declared.part.Pair.{Pair}
use Rattle.prov_fold.specs.Kinds.{is_number, is_truth}
use Rattle.prov_fold.specs.Graphs.{Graph, HasTruth, HasNumber, HasPair, Keeps}
use Rattle.prov_fold.specs.Rules.{min_by, least_of, or_of, then_}
use Rattle.prov_fold.proofs.SameLemmas.{All_head, All_tail, All_cons}

pub min_by_many : (pairs : List Pair) (g : Graph) → 2 ≤ length pairs → then_ (or_of (map (λ (p : Pair). p.truth) pairs) g) (λ _. least_of pairs) ≡ min_by pairs g
min_by_many [] g many = absurd (omega arith)
min_by_many (p ∷ []) g many = absurd (omega arith)
min_by_many (p ∷ q ∷ more) g many = refl

pub truths_there : (g : Graph) (pairs : List Pair) → All (λ (p : Pair). HasPair g p) pairs → All (λ t. HasTruth g t) (map (λ (p : Pair). p.truth) pairs)
truths_there g [] h = λ k d lt. absurd (omega arith)
truths_there g (p ∷ pairs) h = All_cons (λ t. HasTruth g t) p.truth (map (λ (p : Pair). p.truth) pairs) (All_head (λ (p : Pair). HasPair g p) p pairs h).truth (truths_there g pairs (All_tail (λ (p : Pair). HasPair g p) p pairs h))

pub truth_kept : (g g' : Graph) (i : ℕ) → Keeps g g' → HasTruth g i → HasTruth g' i
truth_kept g g' i keeps h = record { below = (let b = h.below in omega (arith, b, keeps.longer)); kind = ap is_truth (keeps.nodes i h.below) ∙ h.kind }

pub number_kept : (g g' : Graph) (i : ℕ) → Keeps g g' → HasNumber g i → HasNumber g' i
number_kept g g' i keeps h = record { below = (let b = h.below in omega (arith, b, keeps.longer)); kind = ap is_number (keeps.nodes i h.below) ∙ h.kind }

pub pairs_kept : (g g' : Graph) (pairs : List Pair) → Keeps g g' → All (λ (p : Pair). HasPair g p) pairs → All (λ (p : Pair). HasPair g' p) pairs
pairs_kept g g' pairs keeps h = λ k d lt.
    record { truth = truth_kept g g' (get_or pairs k d).truth keeps (h k d lt).truth; number = number_kept g g' (get_or pairs k d).number keeps (h k d lt).number }
