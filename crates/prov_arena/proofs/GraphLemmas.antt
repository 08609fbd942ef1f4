-- The place of a formula, and lists with one more formula.
use Rattle.std.proofs.Common.{◌≡◌, ◌≢◌, ◌∙◌, sym, ap, subst, refl, ℕ, zero, suc, ◌+◌, ◌<◌, inl, inr, Bool, true, false, cond, List, [], ◌∷◌, ◌++◌, length, get_or, take, drop, All, Option, Some, None, arith, length-append, true≢false}
use Rattle.std.specs.Bool.{Decides}
use Rattle.std.proofs.lemmas.Bool.{cases_lt}
use Rattle.std.proofs.lemmas.Bool.Decides.{Decides-int_eq, Decides-eqb, Decides-and, Decides-like}
use Rattle.std.proofs.lemmas.List.{get_or_append_left, get_or_push, take_at}
use Rattle.std.proofs.lemmas.Slice.Eq.{slice_eq-Decides}
use Rattle.prov_arena.specs.Formulas.{Formula, FalseNode, kids_of}
use Rattle.prov_arena.specs.Words.{words_of, is_same, is_same_term, is_same_pair}
use Rattle.prov_arena.specs.Graphs.{at, IsGraph, IsAbsent, behind, place_of, interned, interned_at}
use Rattle.prov_arena.specs.Hashes.{hash_of}
use Rattle.prov_arena.specs.declared.chains.Node.{Node}
use Rattle.prov_arena.specs.Chains.{formulas, Linked, Kept, Sought}
use Rattle.prov_arena.proofs.Items.{term_Decides, pair_Decides}
use Rattle.prov_arena.proofs.Spellings.{same_formula}

pub is_same_Decides : (f g : Formula) → Decides (is_same f g) (f ≡ g)
unfolding is_same
is_same_Decides f g =
    let a = words_of f in
    let b = words_of g in
    Decides-like _ (λ e. same_formula f g (e.0, e.1.0, e.1.1.0, e.1.1.1.0) (e.1.1.1.1.0, e.1.1.1.1.1.0, e.1.1.1.1.1.1))
    (λ e. let s = ap words_of e in (ap (λ w. w.kind) s, (ap (λ w. w.number) s, (ap (λ w. w.left) s, (ap (λ w. w.right) s, (ap (λ w. w.kids) s, (ap (λ w. w.terms) s, ap (λ w. w.pairs) s)))))))
    (Decides-and _ _ (Decides-eqb a.kind b.kind) (Decides-and _ _ (Decides-int_eq a.number b.number) (Decides-and _ _ (Decides-eqb a.left b.left) (Decides-and _ _ (Decides-eqb a.right b.right)
    (Decides-and _ _ (slice_eq-Decides Decides-eqb a.kids b.kids _ refl) (Decides-and _ _ (slice_eq-Decides {E = is_same_term} term_Decides a.terms b.terms _ refl) (slice_eq-Decides {E = is_same_pair} pair_Decides a.pairs b.pairs _ refl)))))))

-- the formula is absent from an empty list, and from one that begins with another
absent_more : (parts : List Formula) (f g : Formula) → g ≢ f → IsAbsent parts f → IsAbsent (g ∷ parts) f
absent_more parts f g other absent zero lt = other
absent_more parts f g other absent (suc i) lt = absent i (omega arith)

-- what a place says
Placed : List Formula → Formula → Option ℕ → Type 0
Placed parts f (Some i) = (i < length parts) × (at parts i ≡ f)
Placed parts f None = IsAbsent parts f

placed_behind : (parts : List Formula) (f g : Formula) (o : Option ℕ) → g ≢ f → Placed parts f o → Placed (g ∷ parts) f (behind o)
unfolding Placed
placed_behind parts f g (Some i) other placed = (omega (arith, placed.0), placed.1)
placed_behind parts f g None other placed = absent_more parts f g other placed

placed_step : (parts : List Formula) (f g : Formula) (o : Option ℕ) (b : Bool) → is_same g f ≡ b → Placed parts f o → Placed (g ∷ parts) f (cond b (Some 0) (behind o))
unfolding Placed
placed_step parts f g o true e placed = (omega arith, (is_same_Decides g f).0 e)
placed_step parts f g o false e placed = placed_behind parts f g o (λ same. true≢false (sym ((is_same_Decides g f).1 same) ∙ e)) placed

placed : (parts : List Formula) (f : Formula) → Placed parts f (place_of parts f)
unfolding Placed place_of
placed [] f = λ i lt. absurd (omega arith)
placed (g ∷ parts) f = placed_step parts f g (place_of parts f) (is_same g f) refl (placed parts f)

pub place_found : (parts : List Formula) (f : Formula) (i : ℕ) → place_of parts f ≡ Some i → (i < length parts) × (at parts i ≡ f)
unfolding Placed
place_found parts f i e = subst (Placed parts f) e (placed parts f)

pub place_none : (parts : List Formula) (f : Formula) → place_of parts f ≡ None → IsAbsent parts f
unfolding Placed
place_none parts f e = subst (Placed parts f) e (placed parts f)

-- two places of one formula are one
same_place : (parts : List Formula) (i j : ℕ) → IsGraph parts → i < length parts → j < length parts → at parts i ≡ at parts j → i ≡ j
same_place parts i j graph lt_i lt_j same = elim (cases_lt i j) as (λ _. i ≡ j) [
  | inl less ↦ absurd (graph.distinct i j less lt_j same)
  | inr more ↦ elim (cases_lt j i) as (λ _. i ≡ j) [ inl less ↦ absurd (graph.distinct j i less lt_i (sym same)) | inr equal ↦ omega arith ]
]

place_by : (parts : List Formula) (f : Formula) (i : ℕ) (o : Option ℕ) → IsGraph parts → i < length parts → at parts i ≡ f → Placed parts f o → o ≡ Some i
unfolding Placed
place_by parts f i (Some j) graph lt is p = ap (λ k. Some k) (same_place parts j i graph p.0 lt (p.1 ∙ sym is))
place_by parts f i None graph lt is p = absurd (p i lt is)

pub place_is : (parts : List Formula) (f : Formula) (i : ℕ) → IsGraph parts → i < length parts → at parts i ≡ f → place_of parts f ≡ Some i
place_is parts f i graph lt is = place_by parts f i (place_of parts f) graph lt is (placed parts f)

absent_by : (parts : List Formula) (f : Formula) (o : Option ℕ) → IsAbsent parts f → Placed parts f o → o ≡ None
unfolding Placed
absent_by parts f (Some i) absent p = absurd (absent i p.0 p.1)
absent_by parts f None absent p = refl

pub place_absent : (parts : List Formula) (f : Formula) → IsAbsent parts f → place_of parts f ≡ None
place_absent parts f absent = absent_by parts f (place_of parts f) absent (placed parts f)

pub interned_known : (parts : List Formula) (f : Formula) (i : ℕ) → IsGraph parts → i < length parts → at parts i ≡ f → interned parts f ≡ (i, parts)
unfolding interned
interned_known parts f i graph lt is = ap (interned_at parts f) (place_is parts f i graph lt is)

pub interned_new : (parts : List Formula) (f : Formula) → IsAbsent parts f → interned parts f ≡ (length parts, parts ++ f ∷ [])
unfolding interned
interned_new parts f absent = ap (interned_at parts f) (place_absent parts f absent)

-- ---- one more formula

module _ (parts : List Formula) (f : Formula) (graph : IsGraph parts) (kids : All (λ kid. kid < length parts) (kids_of f)) (absent : IsAbsent parts f) (room : length parts < 20000001) where
  more : List Formula
  more = parts ++ f ∷ []

  more_length : length more ≡ length parts + 1
  unfolding more
  more_length = length-append parts (f ∷ [])

  old_at : (i : ℕ) → i < length parts → at more i ≡ at parts i
  unfolding more
  old_at i lt = get_or_append_left parts (f ∷ []) FalseNode i lt

  new_at : at more (length parts) ≡ f
  unfolding more
  new_at = get_or_push parts f FalseNode (length parts) refl

  below_by : (i : ℕ) → i < length more → All (λ kid. kid < i) (kids_of (at more i))
  below_by i lt = elim (cases_lt i (length parts)) as (λ _. All (λ kid. kid < i) (kids_of (at more i))) [
    | inl less ↦ subst (λ (g : Formula). All (λ kid. kid < i) (kids_of g)) (sym (old_at i less)) (graph.below i less)
    | inr past ↦
        let here : length parts ≡ i = omega (arith, more_length) in
        subst (λ (j : ℕ). All (λ kid. kid < j) (kids_of (at more j))) here (subst (λ (g : Formula). All (λ kid. kid < length parts) (kids_of g)) (sym new_at) kids)
  ]

  distinct_by : (i j : ℕ) → i < j → j < length more → at more i ≢ at more j
  distinct_by i j less lt same = elim (cases_lt j (length parts)) as (λ _. ⊥) [
    | inl within ↦ graph.distinct i j less within (sym (old_at i (omega arith)) ∙ same ∙ old_at j within)
    | inr past ↦
        let here : j ≡ length parts = omega (arith, more_length) in
        absent i (omega arith) (sym (old_at i (omega arith)) ∙ same ∙ ap (at more) here ∙ new_at)
  ]

  pub graph_more : IsGraph (parts ++ f ∷ [])
  unfolding more
  graph_more = record {
    few = omega (arith, more_length);
    some = omega (arith, more_length, graph.some);
    false_at = old_at 0 (omega (arith, graph.some)) ∙ graph.false_at;
    true_at = old_at 1 (omega (arith, graph.some)) ∙ graph.true_at;
    below = below_by;
    distinct = distinct_by;
  }

hashed_more : (parts : List Formula) (hashes links heads : List ℕ) (f : Formula) (hash : ℕ) → Kept parts hashes links heads → length hashes ≡ length parts → hash ≡ hash_of f → (i : ℕ) → i < length (parts ++ f ∷ []) → get_or (hashes ++ hash ∷ []) i 0 ≡ hash_of (at (parts ++ f ∷ []) i)
hashed_more parts hashes links heads f hash kept len is i lt = elim (cases_lt i (length parts)) as (λ _. get_or (hashes ++ hash ∷ []) i 0 ≡ hash_of (at (parts ++ f ∷ []) i)) [
  | inl less ↦ get_or_append_left hashes (hash ∷ []) 0 i (omega arith) ∙ kept.hashed i less ∙ ap hash_of (sym (get_or_append_left parts (f ∷ []) FalseNode i less))
  | inr past ↦
      let here : length parts ≡ i = omega (arith, length-append parts (f ∷ [])) in
      get_or_push hashes hash 0 i (len ∙ here) ∙ is ∙ ap hash_of (sym (get_or_push parts f FalseNode i here))
]

-- the nodes and chains of a list with one more formula
pub kept_more : (parts : List Formula) (hashes links heads : List ℕ) (f : Formula) (hash : ℕ) (parts' : List Formula) (hashes' links' heads' : List ℕ)
    → Kept parts hashes links heads → All (λ kid. kid < length parts) (kids_of f) → IsAbsent parts f → length parts < 20000001 → length hashes ≡ length parts → hash ≡ hash_of f
    → parts' ≡ parts ++ f ∷ [] → hashes' ≡ hashes ++ hash ∷ [] → Linked (length parts') hashes' links' heads' → Kept parts' hashes' links' heads'
kept_more parts hashes links heads f hash parts' hashes' links' heads' kept kids absent room hashes_len hash_is parts_is hashes_are linked = record {
  graph = subst IsGraph (sym parts_is) (graph_more parts f kept.graph kids absent room);
  hashed = rw (parts_is, hashes_are) (hashed_more parts hashes links heads f hash kept hashes_len hash_is);
  linked = linked;
}

-- what a list holds after a slice of it was written whole
pub stored : {A : Type 0} (n : ℕ) (written before : List A) → length written ≡ n → take n (written ++ drop (length written) before) ≡ written
stored n written before is = take_at written (drop (length written) before) n is

-- a search in what was lent of a list is one in the list
pub sought_in : (lent held : List Node) (parts : List Formula) (f : Formula) (link : ℕ) → lent ≡ held → formulas held ≡ parts → Sought (formulas lent) f link → Sought parts f link
sought_in lent held parts f link same view s = subst (λ (ps : List Formula). Sought ps f link) (ap formulas same ∙ view) s
