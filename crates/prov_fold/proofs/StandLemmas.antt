-- Lists that begin with another, and where a formula stands that is interned.
use Rattle.std.proofs.Common.{◌≡◌, ◌∙◌, ap, ℕ, suc, ◌<◌, ◌≤◌, nat_lt, pos, Bool, true, false, cond, List, [], ◌∷◌, ◌++◌, length, Option, Some, None, Result, Ok, Err, refl, arith, length-append}
use Rattle.std.proofs.lemmas.List.{get_or_append_left, get_or_push, length_push}
use Rattle.prov_arena.specs.Formulas.{Formula, FalseNode}
use Rattle.prov_arena.specs.Words.{is_same}
use Rattle.prov_arena.specs.Graphs.{at, behind, place_of}
use Rattle.prov_arena.proofs.GraphLemmas.{is_same_Decides, place_found}
use Rattle.prov_fold.specs.declared.span.Span.{Span}
use Rattle.prov_fold.specs.declared.fault.FoldFault.{FoldFault}
use Rattle.prov_fold.specs.declared.fault.FoldFault.TheVariants as fault
use Rattle.prov_fold.specs.Graphs.{Graph, node, size, Keeps}
use Rattle.prov_fold.specs.Rules.{Made, Rule, given, refused, added, interned_at, interned}

-- ---- lists that begin with another

pub keeps_same : (g : Graph) → Keeps g g
keeps_same g = record { longer = omega arith; nodes = λ i lt. refl; ranges = λ i lt. refl }

pub keeps_on : (a b c : Graph) → Keeps a b → Keeps b c → Keeps a c
keeps_on a b c h k = let m = h.longer in let n = k.longer in record {
  longer = omega arith;
  nodes = λ i lt. k.nodes i (omega arith) ∙ h.nodes i lt;
  ranges = λ i lt. k.ranges i (omega arith) ∙ h.ranges i lt;
}

pub keeps_added : (g : Graph) (s : Span) (f : Formula) → length g.ranges ≡ size g → Keeps g (added s f g)
keeps_added g s f count = record {
  longer = omega (arith, length-append g.parts (f ∷ []));
  nodes = λ i lt. get_or_append_left g.parts (f ∷ []) FalseNode i lt;
  ranges = λ i lt. get_or_append_left g.ranges (s ∷ []) (record { lo = pos 0; hi = pos 0 }) i (omega arith);
}

-- ---- cases of a rule

pub by_if : (P : Made → Type 0) (b : Bool) (x y : Made) → (b ≡ true → P x) → (b ≡ false → P y) → P (cond b x y)
by_if P true x y h k = h refl
by_if P false x y h k = k refl

pub by_rule : (P : Made → Type 0) (b : Bool) (x y : Rule) (g : Graph) → (b ≡ true → P (x g)) → (b ≡ false → P (y g)) → P (cond b x y g)
by_rule P true x y g h k = h refl
by_rule P false x y g h k = k refl

-- ---- a formula that is interned

-- where a formula stands first, it stands first in each list that begins with this one
pub place_stays : (f : Formula) (parts parts' : List Formula) (i : ℕ) → ((k : ℕ) → k < length parts → at parts' k ≡ at parts k) → length parts ≤ length parts' → place_of parts f ≡ Some i → place_of parts' f ≡ Some i
unfolding place_of
place_stays f [] parts' i same le e = cc
place_stays f (x ∷ xs) [] i same le e = absurd (omega arith)
place_stays f (x ∷ xs) (y ∷ ys) i same le e = by_test (is_same x f) refl (place_of xs f) refl e (λ j. place_stays f xs ys j (λ k lt. same (suc k) (omega arith)) (omega arith))
  where
    here : y ≡ x
    here = same 0 (omega arith)

    by_test : (b : Bool) → is_same x f ≡ b → (o : Option ℕ) → place_of xs f ≡ o → cond b (Some 0) (behind o) ≡ Some i → ((j : ℕ) → place_of xs f ≡ Some j → place_of ys f ≡ Some j)
        → cond (is_same y f) (Some 0) (behind (place_of ys f)) ≡ Some i
    by_test true t o p e more = ap (λ z. cond (is_same z f) (Some 0) (behind (place_of ys f))) here ∙ ap (λ b. cond b (Some 0) (behind (place_of ys f))) t ∙ e
    by_test false t None p e more = cc
    by_test false t (Some j) p e more =
        ap (λ z. cond (is_same z f) (Some 0) (behind (place_of ys f))) here ∙ ap (λ b. cond b (Some 0) (behind (place_of ys f))) t ∙ ap behind (more j p) ∙ e

-- a formula that stood nowhere stands first at the end
pub place_new : (f : Formula) (parts : List Formula) → place_of parts f ≡ None → place_of (parts ++ f ∷ []) f ≡ Some (length parts)
unfolding place_of
place_new f [] e = ap (λ b. cond b (Some 0) (behind None)) ((is_same_Decides f f).1 refl)
place_new f (x ∷ xs) e = by_test (is_same x f) refl (place_of xs f) refl e (place_new f xs)
  where
    by_test : (b : Bool) → is_same x f ≡ b → (o : Option ℕ) → place_of xs f ≡ o → cond b (Some 0) (behind o) ≡ None → (place_of xs f ≡ None → place_of (xs ++ f ∷ []) f ≡ Some (length xs))
        → cond (is_same x f) (Some 0) (behind (place_of (xs ++ f ∷ []) f)) ≡ Some (suc (length xs))
    by_test true t o p e more = cc
    by_test false t None p e more = ap (λ b. cond b (Some 0) (behind (place_of (xs ++ f ∷ []) f))) t ∙ ap behind (more p)
    by_test false t (Some j) p e more = cc

-- the list is kept, and the formula stands first at the node that is given
pub record Stands (g : Graph) (f : Formula) (id : ℕ) (g' : Graph) : Type 0 where
  pub keeps : Keeps g g'
  pub place : place_of g'.parts f ≡ Some id
  pub below : id < size g'
  pub is : node g' id ≡ f
  pub count : length g'.ranges ≡ size g'

abbrev pub StoodBy : Graph → Formula → Result ℕ FoldFault → Graph → Type 0
StoodBy g f (Ok id) g' = Stands g f id g'
StoodBy g f (Err e) g' = Unit {0}

abbrev pub Stood : Graph → Formula → Made → Type 0
Stood g f made = StoodBy g f made.gives made.list

pub interned_stood : (s : Span) (f : Formula) (g : Graph) → length g.ranges ≡ size g → Stood g f (interned s f g)
unfolding interned
interned_stood s f g count = by_place (place_of g.parts f) refl
  where
    by_place : (o : Option ℕ) → place_of g.parts f ≡ o → Stood g f (interned_at s f o g)
    by_place (Some i) p = let found = place_found g.parts f i p in record { keeps = keeps_same g; place = p; below = found.0; is = found.1; count = count }
    by_place None p =
        let parts = length_push g.parts f in
        let ranges = length_push g.ranges s in
        by_if (Stood g f) (nat_lt (size g) 20000000) (given (size g) (added s f g)) (refused fault.Full g)
        (λ _. record { keeps = keeps_added g s f count; place = place_new f g.parts p; below = omega (arith, parts); is = get_or_push g.parts f FalseNode (size g) refl; count = omega (arith, parts, ranges, count) })
        (λ _. tt)

-- a formula that stands in a list is given in each that keeps it, and that list stays
pub interned_again : (s : Span) (f : Formula) (g h : Graph) (id : ℕ) → place_of g.parts f ≡ Some id → Keeps g h → interned s f h ≡ given id h
unfolding interned
interned_again s f g h id place keeps = ap (λ o. interned_at s f o h) (place_stays f g.parts h.parts id keeps.nodes keeps.longer place)
