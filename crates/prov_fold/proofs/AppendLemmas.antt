-- A list with one more formula and its range.
use Rattle.std.proofs.Common.{◌≡◌, ◌∙◌, sym, ap, subst, refl, ℕ, ◌+◌, ◌<◌, ◌≤◌, inl, inr, pos, Bool, true, false, cond, nat_lt, List, [], ◌∷◌, ◌++◌, length, take, Option, Some, None, Result, Ok, arith, length-append}
use Rattle.std.specs.Option.{ok_or}
use Rattle.std.proofs.lemmas.Bool.{cases_lt}
use Rattle.std.proofs.lemmas.Bool.Decides.{Decides-ltb}
use Rattle.std.proofs.lemmas.List.{get_or_push, take_at, take_all}
use Rattle.prov_arena.specs.Formulas.{Formula, FalseNode}
use Rattle.prov_arena.specs.Graphs.{at, IsGraph, place_of}
use Rattle.prov_arena.specs.Graphs as arena
use Rattle.prov_fold.specs.declared.span.Span.{Span}
use Rattle.prov_fold.specs.declared.fault.FoldFault.{FoldFault}
use Rattle.prov_fold.specs.declared.fault.FoldFault.TheVariants as fault
use Rattle.prov_fold.specs.Graphs.{Graph, node, range, size, Fits, Keeps}
use Rattle.prov_fold.specs.Folds.{HasAid, IsFold}
use Rattle.prov_fold.specs.Rules.{Made, added, interned, interned_at, given, refused}
use Rattle.prov_fold.proofs.SameLemmas.{fits_kept}
use Rattle.prov_fold.proofs.StandLemmas.{keeps_same, keeps_added}
use Rattle.prov_fold.proofs.AidLemmas.{aid_kept}

-- what the list is after a try to append: a range for each formula
abbrev pub after : Graph → Span → List Formula → Graph
after g s parts' = record { parts = parts'; ranges = take (length parts') (g.ranges ++ s ∷ []) }

pub after_known : (g : Graph) (s : Span) (parts' : List Formula) → length g.ranges ≡ size g → parts' ≡ g.parts → after g s parts' ≡ g
after_known g s parts' count e =
    ap (after g s) e ∙ (λ i. record { parts = g.parts; ranges = take_at g.ranges (s ∷ []) (length g.parts) count i })

pub after_added : (g : Graph) (s : Span) (f : Formula) (parts' : List Formula) → length g.ranges ≡ size g → parts' ≡ g.parts ++ f ∷ [] → after g s parts' ≡ added s f g
after_added g s f parts' count e =
    let enough : length (g.ranges ++ s ∷ []) ≤ length (g.parts ++ f ∷ []) = omega (arith, length-append g.ranges (s ∷ []), length-append g.parts (f ∷ [])) in
    ap (after g s) e ∙ (λ i. record { parts = g.parts ++ f ∷ []; ranges = take_all (length (g.parts ++ f ∷ [])) (g.ranges ++ s ∷ []) enough i })

-- ---- what is made

if_room : (n : ℕ) (b : Bool) (x y : Made) → nat_lt n 20000000 ≡ b → n < 20000000 → cond b x y ≡ x
if_room n true x y e lt = refl
if_room n false x y e lt = let no : true ≡ false = sym ((Decides-ltb n 20000000).1 lt) ∙ e in cc

if_full : (n : ℕ) (b : Bool) (x y : Made) → nat_lt n 20000000 ≡ b → n ≡ 20000000 → cond b x y ≡ y
if_full n true x y e is = let lt : n < 20000000 = (Decides-ltb n 20000000).0 e in absurd (omega arith)
if_full n false x y e is = refl

made_at : (g : Graph) (s : Span) (f : Formula) (id : ℕ) (parts' : List Formula) (o : Option ℕ) → length g.ranges ≡ size g → size g < 20000000 → (id, parts') ≡ arena.interned_at g.parts f o → record { gives = Ok id; list = after g s parts' } ≡ interned_at s f o g
made_at g s f id parts' (Some i) count room e =
    let same : after g s parts' ≡ g = after_known g s parts' count (ap (λ p. p.1) e) in
    λ j. record { gives = Ok ((e j).0); list = same j }
made_at g s f id parts' None count room e =
    let same : after g s parts' ≡ added s f g = after_added g s f parts' count (ap (λ p. p.1) e) in
    (λ j. record { gives = Ok ((e j).0); list = same j }) ∙ sym (if_room (size g) (nat_lt (size g) 20000000) (given (size g) (added s f g)) (refused fault.Full g) refl room)

pub made : (g : Graph) (s : Span) (f : Formula) (id : ℕ) (parts' : List Formula) (ranges' : List Span) → length g.ranges ≡ size g → size g < 20000000 → (id, parts') ≡ arena.interned g.parts f → ranges' ≡ take (length parts') (g.ranges ++ s ∷ []) → record { gives = Ok id; list = record { parts = parts'; ranges = ranges' } } ≡ interned s f g
unfolding interned arena.interned
made g s f id parts' ranges' count room e ranges_are =
    (λ i. record { gives = Ok id; list = record { parts = parts'; ranges = ranges_are i } }) ∙ made_at g s f id parts' (place_of g.parts f) count room e

-- at 20,000,000 formulas only one that stands there is given
full_at : (g : Graph) (s : Span) (f : Formula) (o : Option ℕ) → size g ≡ 20000000 → (r : Result ℕ FoldFault) → r ≡ ok_or o fault.Full → record { gives = r; list = g } ≡ interned_at s f o g
full_at g s f (Some i) is r e = λ j. record { gives = e j; list = g }
full_at g s f None is r e = (λ j. record { gives = e j; list = g }) ∙ sym (if_full (size g) (nat_lt (size g) 20000000) (given (size g) (added s f g)) (refused fault.Full g) refl is)

pub full : (g : Graph) (s : Span) (f : Formula) (found : Option ℕ) (r : Result ℕ FoldFault) → size g ≡ 20000000 → found ≡ place_of g.parts f → r ≡ ok_or found fault.Full → record { gives = r; list = g } ≡ interned s f g
unfolding interned
full g s f found r is found_is e =
    full_at g s f (place_of g.parts f) is r (e ∙ ap (λ o. ok_or o fault.Full) found_is)

-- ---- what holds of the list

fits_at : (g : Graph) (s : Span) (f : Formula) → IsFold g → Fits g s f → (i : ℕ) → i < size (added s f g) → Fits (added s f g) (range (added s f g) i) (node (added s f g) i)
fits_at g s f fold fits i lt = elim (cases_lt i (size g)) as (λ _. Fits (added s f g) (range (added s f g) i) (node (added s f g) i)) [
  | inl less ↦
      let keeps = keeps_added g s f fold.count in
      let old : Fits (added s f g) (range g i) (node g i) = fits_kept g (added s f g) (range g i) (node g i) keeps (fold.fits i less) in
      subst (λ (r : Span). Fits (added s f g) r (node (added s f g) i)) (sym (keeps.ranges i less)) (subst (λ (n : Formula). Fits (added s f g) (range g i) n) (sym (keeps.nodes i less)) old)
  | inr past ↦
      let here : size g ≡ i = omega (arith, length-append g.parts (f ∷ [])) in
      let is_range : range (added s f g) i ≡ s = get_or_push g.ranges s (record { lo = pos 0; hi = pos 0 }) i (fold.count ∙ here) in
      let is_node : node (added s f g) i ≡ f = get_or_push g.parts f FalseNode i here in
      let new : Fits (added s f g) s f = fits_kept g (added s f g) s f (keeps_added g s f fold.count) fits in
      subst (λ (r : Span). Fits (added s f g) r (node (added s f g) i)) (sym is_range) (subst (λ (n : Formula). Fits (added s f g) s n) (sym is_node) new)
]

aid_at : (g : Graph) (s : Span) (f : Formula) → IsFold g → Fits g s f → HasAid g (size g) f → (i : ℕ) → i < size (added s f g) → HasAid (added s f g) i (node (added s f g) i)
aid_at g s f fold fits aid i lt = elim (cases_lt i (size g)) as (λ _. HasAid (added s f g) i (node (added s f g) i)) [
  | inl less ↦
      let keeps = keeps_added g s f fold.count in
      subst (λ (n : Formula). HasAid (added s f g) i n) (sym (keeps.nodes i less)) (aid_kept g (added s f g) i (node g i) fold.count (omega (arith, less)) (fold.fits i less).kids keeps (fold.aids i less))
  | inr past ↦
      let here : size g ≡ i = omega (arith, length-append g.parts (f ∷ [])) in
      let is_node : node (added s f g) i ≡ f = get_or_push g.parts f FalseNode i here in
      let new : HasAid (added s f g) (size g) f = aid_kept g (added s f g) (size g) f fold.count (omega arith) fits.kids (keeps_added g s f fold.count) aid in
      subst (λ (n : Formula). HasAid (added s f g) i n) (sym is_node) (subst (λ j. HasAid (added s f g) j f) here new)
]

fold_added : (g : Graph) (s : Span) (f : Formula) → IsFold g → Fits g s f → HasAid g (size g) f → size g < 20000000 → IsGraph (g.parts ++ f ∷ []) → IsFold (added s f g)
fold_added g s f fold fits aid room graph = record {
  graph = graph;
  few = omega (arith, length-append g.parts (f ∷ []));
  count = length-append g.ranges (s ∷ []) ∙ ap (λ n. n + 1) fold.count ∙ sym (length-append g.parts (f ∷ []));
  fits = fits_at g s f fold fits;
  aids = aid_at g s f fold fits aid;
}

-- a list after a try is as before, or has one more formula
after_by : (P : Graph → Type 0) (g : Graph) (s : Span) (f : Formula) (parts' : List Formula) (o : Option ℕ) (id : ℕ) → length g.ranges ≡ size g → (id, parts') ≡ arena.interned_at g.parts f o → P g → (parts' ≡ g.parts ++ f ∷ [] → P (added s f g)) → P (after g s parts')
after_by P g s f parts' (Some i) id count e known new = subst P (sym (after_known g s parts' count (ap (λ p. p.1) e))) known
after_by P g s f parts' None id count e known new =
    let is : parts' ≡ g.parts ++ f ∷ [] = ap (λ p. p.1) e in
    subst P (sym (after_added g s f parts' count is)) (new is)

pub fold_after : (g : Graph) (s : Span) (f : Formula) (id : ℕ) (parts' : List Formula) (ranges' : List Span) → IsFold g → Fits g s f → HasAid g (size g) f → size g < 20000000 → IsGraph parts' → (id, parts') ≡ arena.interned g.parts f → ranges' ≡ take (length parts') (g.ranges ++ s ∷ []) → IsFold (record { parts = parts'; ranges = ranges' })
unfolding arena.interned
fold_after g s f id parts' ranges' fold fits aid room graph e ranges_are =
    subst (λ (rs : List Span). IsFold (record { parts = parts'; ranges = rs })) (sym ranges_are)
    (after_by IsFold g s f parts' (place_of g.parts f) id fold.count e fold (λ is. fold_added g s f fold fits aid room (subst IsGraph is graph)))

pub keeps_after : (g : Graph) (s : Span) (f : Formula) (id : ℕ) (parts' : List Formula) (ranges' : List Span) → length g.ranges ≡ size g → (id, parts') ≡ arena.interned g.parts f → ranges' ≡ take (length parts') (g.ranges ++ s ∷ []) → Keeps g (record { parts = parts'; ranges = ranges' })
unfolding arena.interned
keeps_after g s f id parts' ranges' count e ranges_are =
    subst (λ (rs : List Span). Keeps g (record { parts = parts'; ranges = rs })) (sym ranges_are)
    (after_by (Keeps g) g s f parts' (place_of g.parts f) id count e (keeps_same g) (λ is. keeps_added g s f count))
