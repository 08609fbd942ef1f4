-- What is meant of the node that a rule gives, by cases on what was made; and of a formula that is interned.
use Rattle.std.proofs.Common.{◌≡◌, ◌∙◌, sym, ap, subst, ℕ, ℤ, pos, ◌+ℤ◌, ◌*ℤ◌, List, [], ◌∷◌, length, Result, Ok, Err, arith}
use Rattle.std.specs.Prelude.{IfOk}
use Rattle.std.proofs.lemmas.Int.{ints}
use Rattle.prov_arena.specs.Formulas.{Formula, LinNode}
use Rattle.prov_fold.specs.declared.span.Span.{Span}
use Rattle.prov_fold.specs.declared.fault.FoldFault.{FoldFault}
use Rattle.prov_fold.specs.Spans.{span_of, truth_span}
use Rattle.prov_fold.specs.Graphs.{Graph, range, size, Keeps}
use Rattle.prov_fold.specs.Values.{value_of}
use Rattle.prov_fold.specs.Meanings.{values_in, IsLater, Means}
use Rattle.prov_fold.specs.Rules.{Made, Rule, Follows, given, then_by, interned, node_of, number_of}
use Rattle.prov_fold.proofs.StandLemmas.{keeps_same, keeps_on, Stands, StoodBy, interned_stood}
use Rattle.prov_fold.proofs.PlaceLemmas.{later_of, means_by, told_by, value_kept}

-- where a rule gives a node, it keeps the list before, and what is told of the node is meant of the list behind
abbrev pub MeantBy : Graph → (ℕ → List ℤ → (ℕ → ℤ) → Type 0) → Result ℕ FoldFault → Graph → Type 0
MeantBy g Tells (Ok id) g' = Keeps g g' × Means g' (Tells id)
MeantBy g Tells (Err e) g' = Unit {0}

abbrev pub Meant : Graph → (ℕ → List ℤ → (ℕ → ℤ) → Type 0) → Made → Type 0
Meant g Tells made = MeantBy g Tells made.gives made.list

-- what a rule means is meant by a call that follows it
pub said : (rule : Rule) (g g' : Graph) (r : Result ℕ FoldFault) (Tells : ℕ → List ℤ → (ℕ → ℤ) → Type 0) → Meant g Tells (rule g) → Follows (rule g) r g' → IfOk r (λ id. Means g' (Tells id))
said rule g g' (Ok id) Tells meant follows =
    let is : record { gives = Ok id; list = g' } ≡ rule g = follows (λ e. cc) in
    (subst (λ (m : Made). Meant g Tells m) (sym is) meant).1
said rule g g' (Err e) Tells meant follows = tt

-- ---- what follows from what is meant

pub given_meant : (g : Graph) (Tells : ℕ → List ℤ → (ℕ → ℤ) → Type 0) (id : ℕ) → ((h : Graph) (world : List ℤ) → IsLater g h world → Tells id world (values_in h world)) → Meant g Tells (given id g)
given_meant g Tells id tells = (keeps_same g, means_by g (Tells id) tells)

-- what follows, on every later list, from what was meant
so_by : (g : Graph) (Tells So : ℕ → List ℤ → (ℕ → ℤ) → Type 0) → ((id : ℕ) (h : Graph) (world : List ℤ) → IsLater g h world → Tells id world (values_in h world) → So id world (values_in h world)) → (r : Result ℕ FoldFault) (g' : Graph) → MeantBy g Tells r g' → MeantBy g So r g'
so_by g Tells So so (Ok id) g' m = (m.0, means_by g' (So id) (λ h world later. so id h world (later_of g g' h world m.0 later) (told_by g' (Tells id) m.1 h world later)))
so_by g Tells So so (Err e) g' m = tt

pub meant_so : (g : Graph) (Tells So : ℕ → List ℤ → (ℕ → ℤ) → Type 0) (m : Made) → ((id : ℕ) (h : Graph) (world : List ℤ) → IsLater g h world → Tells id world (values_in h world) → So id world (values_in h world)) → Meant g Tells m → Meant g So m
meant_so g Tells So m so h = so_by g Tells So so m.gives m.list h

-- what is meant from a later list on is meant from the list before
from_by : (g g1 : Graph) (Tells : ℕ → List ℤ → (ℕ → ℤ) → Type 0) → Keeps g g1 → (r : Result ℕ FoldFault) (g' : Graph) → MeantBy g1 Tells r g' → MeantBy g Tells r g'
from_by g g1 Tells keeps (Ok id) g' m = (keeps_on g g1 g' keeps m.0, m.1)
from_by g g1 Tells keeps (Err e) g' m = tt

pub meant_from : (g g1 : Graph) (Tells : ℕ → List ℤ → (ℕ → ℤ) → Type 0) (m : Made) → Keeps g g1 → Meant g1 Tells m → Meant g Tells m
meant_from g g1 Tells m keeps h = from_by g g1 Tells keeps m.gives m.list h

-- ---- a formula that is interned

-- a node is worth what X says
abbrev pub IsWorth : (List ℤ → (ℕ → ℤ) → ℤ) → ℕ → List ℤ → (ℕ → ℤ) → Type 0
IsWorth X id world v = v id ≡ X world v

-- a formula is
abbrev pub Worth : Graph → Formula → (List ℤ → (ℕ → ℤ) → ℤ) → Type 0
Worth g f X = (h : Graph) (world : List ℤ) → IsLater g h world → value_of world (values_in h world) f ≡ X world (values_in h world)

stands_worth : (g g' : Graph) (f : Formula) (X : List ℤ → (ℕ → ℤ) → ℤ) (id : ℕ) → Worth g f X → Stands g f id g' → (h : Graph) (world : List ℤ) → IsLater g' h world → IsWorth X id world (values_in h world)
stands_worth g g' f X id is stands h world later =
    value_kept g' h world later id stands.below ∙ ap (value_of world (values_in h world)) stands.is ∙ is h world (later_of g g' h world stands.keeps later)

worth_by : (g : Graph) (f : Formula) (X : List ℤ → (ℕ → ℤ) → ℤ) → Worth g f X → (r : Result ℕ FoldFault) (g' : Graph) → StoodBy g f r g' → MeantBy g (IsWorth X) r g'
worth_by g f X is (Ok id) g' stands = (stands.keeps, means_by g' (IsWorth X id) (stands_worth g g' f X id is stands))
worth_by g f X is (Err e) g' stands = tt

pub interned_meant : (s : Span) (f : Formula) (g : Graph) (X : List ℤ → (ℕ → ℤ) → ℤ) → length g.ranges ≡ size g → Worth g f X → Meant g (IsWorth X) (interned s f g)
interned_meant s f g X count is = worth_by g f X is (interned s f g).gives (interned s f g).list (interned_stood s f g count)

pub node_meant : (f : Formula) (g : Graph) (X : List ℤ → (ℕ → ℤ) → ℤ) → length g.ranges ≡ size g → Worth g f X → Meant g (IsWorth X) (node_of f g)
node_meant f g X count is = interned_meant (span_of truth_span (range g) f) f g X count is

-- ---- an atom and its number

one_times : (x : ℤ) → pos 0 +ℤ (pos 1 *ℤ x +ℤ pos 0) ≡ x
one_times x = omega (arith, ints)

once : ℕ → Rule
once atom = node_of (LinNode (pos 0) (record { factor = pos 1; node = atom } ∷ []))

number_by : (g : Graph) (f : Formula) (X : List ℤ → (ℕ → ℤ) → ℤ) → Worth g f X → (r : Result ℕ FoldFault) (g' : Graph) → StoodBy g f r g' → Meant g (IsWorth X) (then_by r g' once)
unfolding once
number_by g f X is (Ok id) g' stands =
    meant_from g g' (IsWorth X) (once id g') stands.keeps
    (node_meant (LinNode (pos 0) (record { factor = pos 1; node = id } ∷ [])) g' X stands.count (λ h world later. one_times (values_in h world id) ∙ stands_worth g g' f X id is stands h world later))
number_by g f X is (Err e) g' stands = tt

pub number_meant : (s : Span) (f : Formula) (g : Graph) (X : List ℤ → (ℕ → ℤ) → ℤ) → length g.ranges ≡ size g → Worth g f X → Meant g (IsWorth X) (number_of s f g)
unfolding once
number_meant s f g X count is = number_by g f X is (interned s f g).gives (interned s f g).list (interned_stood s f g count)
