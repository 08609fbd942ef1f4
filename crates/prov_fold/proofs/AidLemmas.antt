-- The truths that stand before an Abs and a Min: they stay, and asking for the `or` of truths again gives the same node.
use Rattle.std.proofs.Common.{◌≡◌, ◌∙◌, sym, ap, subst, ℕ, suc, ◌<◌, ◌≤◌, ◌==◌, nat_lt, Bool, true, false, cond, List, [], ◌∷◌, ◌++◌, length, map, flat_map, All, Option, Some, None, Result, Ok, Err, refl, arith}
use Rattle.std.specs.List.{list_any}
use Rattle.std.proofs.lemmas.List.{length_push}
use Rattle.prov_arena.specs.declared.part.Pair.{Pair}
use Rattle.prov_arena.specs.Formulas.{Formula, FalseNode, TrueNode, PresNode, CellNode, PosNode, NotNode, AndNode, OrNode, LinNode, GuardNode, AbsNode, TotNode, MinNode, kids_of}
use Rattle.prov_arena.specs.Graphs.{place_of}
use Rattle.prov_fold.specs.declared.span.Span.{Span}
use Rattle.prov_fold.specs.declared.fault.FoldFault.{FoldFault}
use Rattle.prov_fold.specs.declared.fault.FoldFault.TheVariants as fault
use Rattle.prov_fold.specs.Spans.{truth_span}
use Rattle.prov_fold.specs.Kinds.{is_truth}
use Rattle.prov_fold.specs.Graphs.{Graph, node, size, HasTruth, Keeps}
use Rattle.prov_fold.specs.Folds.{OrStandsBefore, HasAid}
use Rattle.prov_fold.specs.Rules.{Made, Rule, given, refused, added, interned_at, interned, node_of, left, or_kids, list_by, list_of, or_of}
use Rattle.prov_fold.proofs.SameLemmas.{All_cons}
use Rattle.prov_fold.proofs.StandLemmas.{keeps_same, keeps_on, by_rule, StoodBy, interned_stood, interned_again}

-- ---- the `or` of truths, asked again

-- where the rule gave a node, it gives it again in every list that keeps what it left, and appends nothing
abbrev pub SettledBy : Graph → Rule → Result ℕ FoldFault → Graph → Type 0
SettledBy g rule (Ok id) g' = Keeps g g' × (length g'.ranges ≡ size g') × ((h : Graph) → Keeps g' h → rule h ≡ given id h)
SettledBy g rule (Err e) g' = Unit {0}

abbrev pub Settled : Graph → Rule → Made → Type 0
Settled g rule made = SettledBy g rule made.gives made.list

or_many : (kids : List ℕ) (g : Graph) (r : Result ℕ FoldFault) (g' : Graph) → StoodBy g (OrNode kids) r g' → SettledBy g (node_of (OrNode kids)) r g'
or_many kids g (Ok id) g' stands = (stands.keeps, stands.count, λ h keeps. interned_again truth_span (OrNode kids) g' h id stands.place keeps)
or_many kids g (Err e) g' stands = tt

by_settled : (kids : List ℕ) (g : Graph) → length g.ranges ≡ size g → Settled g (list_by 0 (λ ks. OrNode ks) kids) (list_by 0 (λ ks. OrNode ks) kids g)
by_settled [] g count = (keeps_same g, count, λ h keeps. refl)
by_settled (k ∷ []) g count = (keeps_same g, count, λ h keeps. refl)
by_settled (k ∷ l ∷ rest) g count =
    let made = node_of (OrNode (k ∷ l ∷ rest)) g in
    or_many (k ∷ l ∷ rest) g made.gives made.list (interned_stood truth_span (OrNode (k ∷ l ∷ rest)) g count)

-- the truths, with the kids of each Or in its place
abbrev pub spread_in : Graph → List ℕ → List ℕ
spread_in g kids = flat_map (λ kid. or_kids kid (node g kid)) kids

spread_same : (kids : List ℕ) (g h : Graph) → All (λ k. node h k ≡ node g k) kids → spread_in h kids ≡ spread_in g kids
spread_same [] g h same = refl
spread_same (k ∷ kids) g h same =
    let here : node h k ≡ node g k = same 0 0 (omega arith) in
    let rest = spread_same kids g h (λ j d lt. same (suc j) d (omega arith)) in
    λ i. or_kids k (here i) ++ rest i

module _ (kids : List ℕ) (g : Graph) (count : length g.ranges ≡ size g) (below : All (λ k. k < size g) kids) where
  or_in : (h : Graph) → Keeps g h → or_of kids h ≡ list_of 0 1 (λ ks. OrNode ks) (spread_in g kids) h
  unfolding or_of
  or_in h keeps = ap (λ ks. list_of 0 1 (λ ks. OrNode ks) ks h) (spread_same kids g h (λ j d lt. keeps.nodes _ (below j d lt)))

  rest_settled : list_any (λ k. k == 1) (spread_in g kids) ≡ false → (r : Result ℕ FoldFault) (g' : Graph) → SettledBy g (list_by 0 (λ ks. OrNode ks) (left 0 (spread_in g kids))) r g' → SettledBy g (or_of kids) r g'
  rest_settled none (Ok id) g' s = (
    s.0,
    s.1,
    λ h keeps.
        or_in h (keeps_on g g' h s.0 keeps) ∙ ap (λ b. cond b (given 1) (list_by 0 (λ ks. OrNode ks) (left 0 (spread_in g kids))) h) none ∙ s.2 h keeps,
  )
  rest_settled none (Err e) g' s = tt

  pub or_settled : Settled g (or_of kids) (or_of kids g)
  unfolding or_of
  or_settled =
      let rest = list_by 0 (λ ks. OrNode ks) (left 0 (spread_in g kids)) in
      by_rule (Settled g (or_of kids)) (list_any (λ k. k == 1) (spread_in g kids)) (given 1) rest g
      (λ one. (keeps_same g, count, λ h keeps. or_in h keeps ∙ ap (λ b. cond b (given 1) rest h) one))
      (λ none. rest_settled none (rest g).gives (rest g).list (by_settled (left 0 (spread_in g kids)) g count))

  -- the node that the rule gave stands in the list that it left
  pub or_stands : (id : ℕ) (g' : Graph) → record { gives = Ok id; list = g' } ≡ or_of kids g → HasTruth g' id → OrStandsBefore g' (size g') kids
  or_stands id g' made stands = record {
    place = id;
    before = stands.below;
    truth = stands.kind;
    is = (subst (λ (m : Made). Settled g (or_of kids) m) (sym made) or_settled).2 g' (keeps_same g');
  }

-- where the `or` of truths is an Or, it is found at its place
abbrev id_of : Result ℕ FoldFault → Option ℕ
id_of (Ok id) = Some id
id_of (Err e) = None

given_found : (s : Span) (f : Formula) (g : Graph) (b : ℕ) (o : Option ℕ) → interned_at s f o g ≡ given b g → o ≡ Some b
given_found s f g b (Some i) e = ap (λ (m : Made). id_of m.gives) e
given_found s f g b None e = by_test (nat_lt (size g) 20000000) e
  where
    by_test : (t : Bool) → cond t (given (size g) (added s f g)) (refused fault.Full g) ≡ given b g → None ≡ Some b
    by_test true e = let same : length (g.parts ++ f ∷ []) ≡ length g.parts = ap (λ (m : Made). size m.list) e in absurd (omega (arith, same, length_push g.parts f))
    by_test false e = ap (λ (m : Made). id_of m.gives) e

pub or_found : (kids : List ℕ) (g : Graph) (b k l : ℕ) (rest : List ℕ) → or_of kids g ≡ given b g → list_any (λ k. k == 1) (spread_in g kids) ≡ false → left 0 (spread_in g kids) ≡ k ∷ l ∷ rest → place_of g.parts (OrNode (k ∷ l ∷ rest)) ≡ Some b
unfolding or_of interned
or_found kids g b k l rest e none some =
    given_found truth_span (OrNode (k ∷ l ∷ rest)) g b (place_of g.parts (OrNode (k ∷ l ∷ rest)))
    (sym (ap (λ t. cond t (given 1) (list_by 0 (λ ks. OrNode ks) (left 0 (spread_in g kids))) g) none ∙ ap (λ ks. list_by 0 (λ ks. OrNode ks) ks g) some) ∙ e)

-- ---- what stands before a formula stays

pub truths_below : (n : ℕ) (pairs : List Pair) → All (λ kid. kid < n) (kids_of (MinNode pairs)) → All (λ kid. kid < n) (map (λ (p : Pair). p.truth) pairs)
truths_below n [] h = h
truths_below n (p ∷ pairs) h = All_cons (λ kid. kid < n) p.truth (map (λ (p : Pair). p.truth) pairs) (h 0 0 (omega arith)) (truths_below n pairs (λ k d lt. h (suc (suc k)) d (omega arith)))

pub aid_kept : (g h : Graph) (i : ℕ) (f : Formula) → length g.ranges ≡ size g → i ≤ size g → All (λ kid. kid < size g) (kids_of f) → Keeps g h → HasAid g i f → HasAid h i f
aid_kept g h i FalseNode count le kids keeps aid = tt
aid_kept g h i TrueNode count le kids keeps aid = tt
aid_kept g h i (PresNode column) count le kids keeps aid = tt
aid_kept g h i (CellNode column) count le kids keeps aid = tt
aid_kept g h i (PosNode number) count le kids keeps aid = tt
aid_kept g h i (NotNode truth) count le kids keeps aid = tt
aid_kept g h i (AndNode truths) count le kids keeps aid = tt
aid_kept g h i (OrNode truths) count le kids keeps aid = tt
aid_kept g h i (LinNode c terms) count le kids keeps aid = tt
aid_kept g h i (GuardNode truth number) count le kids keeps aid = tt
aid_kept g h i (AbsNode number) count le kids keeps aid =
    let before = aid.before in
    record { place = aid.place; before = aid.before; is = keeps.nodes aid.place (omega (arith, before, le)) ∙ aid.is }
aid_kept g h i (TotNode number) count le kids keeps aid = tt
aid_kept g h i (MinNode pairs) count le kids keeps aid =
    let truths = map (λ (p : Pair). p.truth) pairs in
    let before = aid.before in
    record {
      place = aid.place;
      before = aid.before;
      truth = ap is_truth (keeps.nodes aid.place (omega (arith, before, le))) ∙ aid.truth;
      is = (subst (λ (m : Made). Settled g (or_of truths) m) aid.is (or_settled truths g count (truths_below (size g) pairs kids))).2 h keeps;
    }
