-- What the truths are worth that stand before an Abs and a Min.
use Rattle.std.proofs.Common.{◌≡◌, ◌∙◌, ap, subst, ℕ, ◌<◌, ℤ, pos, int_le, Bool, ◌||◌, List, [], ◌∷◌, map, All, refl, arith}
use Rattle.std.specs.List.{list_any}
use Rattle.prov_arena.specs.declared.part.Pair.{Pair}
use Rattle.prov_arena.specs.Formulas.{PosNode, AbsNode, MinNode, kids_of}
use Rattle.prov_fold.specs.Graphs.{Graph, node, size}
use Rattle.prov_fold.specs.Folds.{StandsBefore, OrStandsBefore, HasAid, IsFold}
use Rattle.prov_fold.specs.Values.{as_number, holds, value_of, HasNumbers}
use Rattle.prov_fold.specs.Meanings.{values_in, IsLater}
use Rattle.prov_fold.specs.Rules.{Made}
use Rattle.prov_fold.proofs.StandLemmas.{keeps_same}
use Rattle.prov_fold.proofs.AidLemmas.{truths_below}
use Rattle.prov_fold.proofs.PlaceLemmas.{told_by, value_here, bit_kept}
use Rattle.prov_fold.proofs.MeantLemmas.{Meant}
use Rattle.prov_fold.proofs.ListMeanings.{OrOf, or_means}

any_map : (q : ℕ → Bool) (pairs : List Pair) → list_any q (map (λ (p : Pair). p.truth) pairs) ≡ list_any (λ (p : Pair). q p.truth) pairs
any_map q [] = refl
any_map q (p ∷ pairs) = ap (λ b. q p.truth || b) (any_map q pairs)

module _ (g : Graph) (world : List ℤ) (fold : IsFold g) (has : HasNumbers g world) (z : ℕ) (z_lt : z < size g) where
  -- before an Abs stands whether its number is 0 or above
  pub abs_aid : (n : ℕ) → node g z ≡ AbsNode n → (aid : StandsBefore g z (PosNode n)) × (values_in g world aid.place ≡ as_number (int_le (pos 0) (values_in g world n)))
  abs_aid n e =
      let aid : StandsBefore g z (PosNode n) = subst (HasAid g z) e (fold.aids z z_lt) in
      let before = aid.before in
      (aid, value_here g world fold aid.place (omega (arith, before, z_lt)) ∙ ap (value_of world (values_in g world)) aid.is)

  -- before a Min stands whether one of its truths holds
  pub min_aid : (pairs : List Pair) → node g z ≡ MinNode pairs
      → (aid : OrStandsBefore g z (map (λ (p : Pair). p.truth) pairs)) × (values_in g world aid.place ≡ as_number (list_any (λ (p : Pair). holds (values_in g world) p.truth) pairs))
  min_aid pairs e =
      let truths = map (λ (p : Pair). p.truth) pairs in
      let aid : OrStandsBefore g z truths = subst (HasAid g z) e (fold.aids z z_lt) in
      let before = aid.before in
      let kids : All (λ kid. kid < size g) (kids_of (MinNode pairs)) = subst (λ f. All (λ kid. kid < size g) (kids_of f)) e (fold.fits z z_lt).kids in
      let later : IsLater g g world = record { keeps = keeps_same g; fold = fold; has = has } in
      let meant = told_by g (OrOf truths aid.place) (subst (λ (m : Made). Meant g (OrOf truths) m) aid.is (or_means truths g fold (truths_below (size g) pairs kids))).1 g world later in
      (aid, bit_kept g g world later aid.place (omega (arith, before, z_lt)) aid.truth ∙ ap as_number (meant ∙ any_map (holds (values_in g world)) pairs))
