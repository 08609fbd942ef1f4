-- what code makes, step by step
use Rattle.std.proofs.Common.{◌≡◌, ◌∙◌, ap, subst, refl, ℕ, ℤ, List, Result, Ok, Err, arith}
use Rattle.prov_fold.specs.Graphs.{Graph, Keeps, HasTruth, HasNumber}
use Rattle.prov_fold.specs.Meanings.{IsLater, Means, values_in}
use Rattle.prov_fold.proofs.StandLemmas.{keeps_same, keeps_on}
use Rattle.prov_fold.proofs.PlaceLemmas.{later_of, means_by, told_by}
use Rattle.sym_rows.specs.declared.fault.WalkFault.{WalkFault}
use Rattle.sym_rows.specs.declared.fault.WalkFault.TheVariants as fault
use Rattle.sym_rows.specs.Walks.{Walked, Walk, gives, ◌>>=◌, Makes}

module _ {A : Type 0} (Good : Graph → A → Type 0) (Tells : A → List ℤ → (ℕ → ℤ) → Type 0) where
  -- something is given, and nothing is appended
  pub makes_gives : (a : A) (g : Graph) → Good g a → ((h : Graph) (world : List ℤ) → IsLater g h world → Tells a world (values_in h world)) → Makes (gives a g) Good Tells g (Ok a) g
  makes_gives a g good tells = record { follows = refl; kept = keeps_same g; good = good; means = means_by g (Tells a) tells }

  -- memory was wanting
  pub makes_memory : (walked : Walked A) (g after : Graph) → Keeps g after → Makes walked Good Tells g (Err fault.Memory) after
  makes_memory walked g after kept = record { follows = λ ne. absurd (ne refl); kept = kept; good = tt; means = tt }

  -- the same walk under another name
  pub makes_is : (walked other : Walked A) (g after : Graph) (r : Result A WalkFault) → walked ≡ other → Makes walked Good Tells g r after → Makes other Good Tells g r after
  makes_is walked other g after r same h = subst (λ (w : Walked A). Makes w Good Tells g r after) same h

  -- what follows from what is meant, and what is good
  pub makes_so : (walked : Walked A) (Good' : Graph → A → Type 0) (Tells' : A → List ℤ → (ℕ → ℤ) → Type 0) (g after : Graph) (r : Result A WalkFault) → ((a : A) → Good after a → Good' after a)
      → ((a : A) (h : Graph) (world : List ℤ) → IsLater after h world → Tells a world (values_in h world) → Tells' a world (values_in h world)) → Makes walked Good Tells g r after → Makes walked Good' Tells' g r after
  makes_so walked Good' Tells' g after (Ok a) so tells h =
      record { follows = h.follows; kept = h.kept; good = so a h.good; means = means_by after (Tells' a) (λ l world later. tells a l world later (told_by after (Tells a) h.means l world later)) }
  makes_so walked Good' Tells' g after (Err e) so tells h = record { follows = h.follows; kept = h.kept; good = tt; means = tt }

module _ {A B : Type 0} (Good : Graph → A → Type 0) (Tells : A → List ℤ → (ℕ → ℤ) → Type 0) (Good' : Graph → B → Type 0) (Tells' : B → List ℤ → (ℕ → ℤ) → Type 0) (walked : Walked A) (next : A → Walk B) (g mid : Graph) where
  -- one step, and then another
  pub makes_then : (a : A) (after : Graph) (r : Result B WalkFault) → Makes walked Good Tells g (Ok a) mid → Makes (next a mid) Good' Tells' mid r after → Makes (walked >>= next) Good' Tells' g r after
  makes_then a after (Ok b) h k =
      record { follows = ap (λ (w : Walked A). w >>= next) h.follows ∙ k.follows; kept = keeps_on g mid after h.kept k.kept; good = k.good; means = k.means }
  makes_then a after (Err e) h k =
      record { follows = λ ne. ap (λ (w : Walked A). w >>= next) h.follows ∙ k.follows ne; kept = keeps_on g mid after h.kept k.kept; good = tt; means = tt }

  -- a step that stops
  pub makes_stop : (e : WalkFault) → Makes walked Good Tells g (Err e) mid → Makes (walked >>= next) Good' Tells' g (Err e) mid
  makes_stop e h = record { follows = λ ne. ap (λ (w : Walked A). w >>= next) (h.follows ne); kept = h.kept; good = tt; means = tt }

-- ---- what stays good

pub truth_kept : (g h : Graph) (i : ℕ) → Keeps g h → HasTruth g i → HasTruth h i
truth_kept g h i k t = let m = k.longer in let b = t.below in record { below = omega (arith, m, b); kind = ap Rattle.prov_fold.specs.Kinds.is_truth (k.nodes i t.below) ∙ t.kind }

pub number_kept : (g h : Graph) (i : ℕ) → Keeps g h → HasNumber g i → HasNumber h i
number_kept g h i k t = let m = k.longer in let b = t.below in record { below = omega (arith, m, b); kind = ap Rattle.prov_fold.specs.Kinds.is_number (k.nodes i t.below) ∙ t.kind }

-- what is told of a list in which it was meant holds later too
pub still : (g mid h : Graph) (world : List ℤ) (Tells : List ℤ → (ℕ → ℤ) → Type 0) → Keeps g mid → IsLater mid h world → Means g Tells → Tells world (values_in h world)
still g mid h world Tells kept later means = told_by g Tells means h world (later_of g mid h world kept later)
