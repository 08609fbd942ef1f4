-- The fold rules: what each call gives, and the list that it leaves.
use Rattle.std.specs.Prelude.{◌≡◌, ◌≢◌, ℕ, ◌==◌, nat_lt, ℤ, pos, ◌+ℤ◌, ◌*ℤ◌, neg_ℤ, int_lt, int_le, Bool, not, ◌&&◌, if◌then◌else◌, List, [], ◌∷◌, ◌++◌, map, filter, flat_map, Option, Some, None, Result, Ok, Err}
use Rattle.std.specs.List.{list_any, range_with_len}
use Rattle.std.specs.Ordering.{int_eq}
use Rattle.prov_arena.specs.declared.part.Term.{Term}
use Rattle.prov_arena.specs.declared.part.Pair.{Pair}
use Rattle.prov_arena.specs.Formulas.{Formula, FalseNode, TrueNode, PresNode, CellNode, PosNode, NotNode, AndNode, OrNode, LinNode, GuardNode, AbsNode, TotNode, MinNode}
use Rattle.prov_arena.specs.Graphs.{place_of}
use Rattle.prov_fold.specs.declared.fault.FoldFault.{FoldFault}
use Rattle.prov_fold.specs.declared.fault.FoldFault.TheVariants as fault
use Rattle.prov_fold.specs.declared.span.Span.{Span}
use Rattle.prov_fold.specs.declared.span.Scaled.{Scaled}
use Rattle.prov_fold.specs.Sums.{total_by}
use Rattle.prov_fold.specs.Spans.{span_of, truth_span, lin_low, lin_high, min_span, passes}
use Rattle.prov_fold.specs.Graphs.{Graph, node, range, size}

-- what a call gives, and the list behind it
pub record Made : Type 0 where
  pub gives : Result ℕ FoldFault
  pub list : Graph

-- a rule, from the list before
abbrev pub Rule : Type 0
Rule = Graph → Made

-- a call does what the rule says, unless memory is wanting
abbrev pub Follows : Made → Result ℕ FoldFault → Graph → Type 0
Follows made result after = result ≢ Err fault.Memory → record { gives = result; list = after } ≡ made

abbrev pub given : ℕ → Rule
given id g = record { gives = Ok id; list = g }

abbrev pub refused : FoldFault → Rule
refused e g = record { gives = Err e; list = g }

-- one rule, and then another with the node that it gave
abbrev pub then_by : Result ℕ FoldFault → Graph → (ℕ → Rule) → Made
then_by (Ok id) g next = next id g
then_by (Err e) g next = record { gives = Err e; list = g }

abbrev pub then_ : Made → (ℕ → Rule) → Made
then_ made next = then_by made.gives made.list next

-- ---- one formula

abbrev pub added : Span → Formula → Graph → Graph
added s f g = record { parts = g.parts ++ f ∷ []; ranges = g.ranges ++ s ∷ [] }

abbrev pub interned_at : Span → Formula → Option ℕ → Rule
interned_at s f (Some id) g = given id g
interned_at s f None g = if nat_lt (size g) 20000000 then given (size g) (added s f g) else refused fault.Full g

-- the formula where it stands, else appended with this range
unfoldable pub interned : Span → Formula → Rule
interned s f g = interned_at s f (place_of g.parts f) g

-- the same with its range
abbrev pub node_of : Formula → Rule
node_of f g = interned (span_of truth_span (range g) f) f g

-- an atom with its range, and then the number that is once the atom
abbrev pub number_of : Span → Formula → Rule
number_of s f g = then_ (interned s f g) (λ atom. node_of (LinNode (pos 0) (record { factor = pos 1; node = atom } ∷ [])))

-- ---- the rules

unfoldable pub constant : ℤ → Rule
constant c g = if passes c then refused (fault.Wide c) g else node_of (LinNode c []) g

unfoldable pub pres : ℕ → Rule
pres column = node_of (PresNode column)

unfoldable pub cell : ℕ → Span → Rule
cell column s g = if int_eq s.lo s.hi then constant s.lo g else number_of s (CellNode column) g

unfoldable pub pos_of : ℕ → Rule
pos_of number g =
    if int_le (pos 0) (range g number).lo then given 1 g
    else (if int_lt (range g number).hi (pos 0) then given 0 g else node_of (PosNode number) g)

abbrev pub not_by : ℕ → Formula → Rule
not_by truth FalseNode = given 1
not_by truth TrueNode = given 0
not_by truth (NotNode kid) = given kid
not_by truth _ = node_of (NotNode truth)

unfoldable pub not_of : ℕ → Rule
not_of truth g = not_by truth (node g truth) g

-- ---- sums

-- the terms and the constant of a part of a sum
abbrev pub terms_in : ℕ → Formula → List Term
terms_in id (LinNode c terms) = terms
terms_in id FalseNode = []
terms_in id TrueNode = []
terms_in id _ = record { factor = pos 1; node = id } ∷ []

abbrev pub constant_in : Formula → ℤ
constant_in (LinNode c terms) = c
constant_in TrueNode = pos 1
constant_in _ = pos 0

-- all terms of a sum, each times its part's factor
abbrev pub scaled : ℤ → List Term → List Term
scaled k terms = map (λ (t : Term). record { factor = k *ℤ t.factor; node = t.node }) terms

abbrev pub spread : Graph → List Scaled → List Term
spread g parts = flat_map (λ (p : Scaled). scaled p.factor (terms_in p.number (node g p.number))) parts

abbrev pub constant_of : Graph → ℤ → List Scaled → ℤ
constant_of g c parts = c +ℤ total_by (λ (p : Scaled). p.factor *ℤ constant_in (node g p.number)) parts

-- the factors at one node together
abbrev pub factor_at : List Term → ℕ → ℤ
factor_at terms node = total_by (λ (t : Term). if t.node == node then t.factor else pos 0) terms

-- like terms joined, by rising nodes below n, and those of factor 0 left out
unfoldable pub joined : ℕ → List Term → List Term
joined n terms = filter (λ (t : Term). not (int_eq t.factor (pos 0))) (map (λ node. record { factor = factor_at terms node; node = node }) (range_with_len 0 n))

-- a linear form, where its constant and the ends of its range do not pass
unfoldable pub judged : ℤ → List Term → Rule
judged c terms g =
    if passes c then refused (fault.Wide c) g
    else (if passes (lin_low (range g) c terms) then refused (fault.Wide (lin_low (range g) c terms)) g
    else (if passes (lin_high (range g) c terms) then refused (fault.Wide (lin_high (range g) c terms)) g
    else node_of (LinNode c terms) g))

unfoldable pub sum : ℤ → List Scaled → Rule
sum c parts g = judged (constant_of g c parts) (joined (size g) (spread g parts)) g

-- ---- atoms

abbrev pub guard_constant : ℕ → Formula → ℤ → Rule
guard_constant truth (NotNode kid) c = sum c (record { factor = neg_ℤ c; number = kid } ∷ [])
guard_constant truth _ c = sum (pos 0) (record { factor = c; number = truth } ∷ [])

abbrev pub guard_number : ℕ → ℕ → Formula → Rule
guard_number truth number (LinNode c []) g = guard_constant truth (node g truth) c g
guard_number truth number _ g = number_of (span_of truth_span (range g) (GuardNode truth number)) (GuardNode truth number) g

abbrev pub guard_by : ℕ → ℕ → Formula → Rule
guard_by truth number FalseNode g = constant (pos 0) g
guard_by truth number TrueNode g = given number g
guard_by truth number _ g = guard_number truth number (node g number) g

unfoldable pub guard : ℕ → ℕ → Rule
guard truth number g = guard_by truth number (node g truth) g

unfoldable pub abs : ℕ → Rule
abs number g =
    if int_le (pos 0) (range g number).lo then given number g
    else (if int_le (range g number).hi (pos 0) then sum (pos 0) (record { factor = neg_ℤ (pos 1); number = number } ∷ []) g
    else then_ (node_of (PosNode number) g) (λ _ g. number_of (span_of truth_span (range g) (AbsNode number)) (AbsNode number) g))

abbrev pub tot_by : ℕ → Formula → Rule
tot_by number (LinNode c []) g = given number g
tot_by number (LinNode c (t ∷ [])) g = given number g
tot_by number _ g = number_of (range g number) (TotNode number) g

unfoldable pub tot : ℕ → Rule
tot number g = tot_by number (node g number) g

-- ---- lists of truths

-- each number once, where it comes first
abbrev pub firsts : List ℕ → List ℕ
firsts [] = []
firsts (x ∷ xs) = x ∷ filter (λ y. not (y == x)) (firsts xs)

abbrev pub and_kids : ℕ → Formula → List ℕ
and_kids kid (AndNode kids) = kids
and_kids kid _ = kid ∷ []

abbrev pub or_kids : ℕ → Formula → List ℕ
or_kids kid (OrNode kids) = kids
or_kids kid _ = kid ∷ []

-- the truths that are left of a list: without the one that changes nothing, and without repeats
abbrev pub left : ℕ → List ℕ → List ℕ
left unit kids = firsts (filter (λ kid. not (kid == unit)) kids)

abbrev pub list_by : ℕ → (List ℕ → Formula) → List ℕ → Rule
list_by unit word [] = given unit
list_by unit word (kid ∷ []) = given kid
list_by unit word (kid ∷ more ∷ rest) = node_of (word (kid ∷ more ∷ rest))

-- of `zero` and `unit` the first decides, and the second changes nothing
abbrev pub list_of : ℕ → ℕ → (List ℕ → Formula) → List ℕ → Rule
list_of unit decides word kids = if list_any (λ kid. kid == decides) kids then given decides else list_by unit word (left unit kids)

unfoldable pub and_of : List ℕ → Rule
and_of kids g = list_of 1 0 (λ ks. AndNode ks) (flat_map (λ kid. and_kids kid (node g kid)) kids) g

unfoldable pub or_of : List ℕ → Rule
or_of kids g = list_of 0 1 (λ ks. OrNode ks) (flat_map (λ kid. or_kids kid (node g kid)) kids) g

-- ---- the least

abbrev pub is_same_key : ℕ × ℕ → ℕ × ℕ → Bool
is_same_key a b = (a.0 == b.0) && (a.1 == b.1)

abbrev pub is_same_pair : Pair → Pair → Bool
is_same_pair p q = is_same_key (p.truth, p.number) (q.truth, q.number)

abbrev pub first_pairs : List Pair → List Pair
first_pairs [] = []
first_pairs (p ∷ ps) = p ∷ filter (λ q. not (is_same_pair q p)) (first_pairs ps)

abbrev pub pairs_left : List Pair → List Pair
pairs_left pairs = first_pairs (filter (λ (p : Pair). not (p.truth == 0)) pairs)

abbrev pub least_of : List Pair → Rule
least_of pairs g =
    if int_eq (min_span (range g) pairs).lo (min_span (range g) pairs).hi then constant (min_span (range g) pairs).lo g
    else number_of (min_span (range g) pairs) (MinNode pairs) g

abbrev pub min_by : List Pair → Rule
min_by [] = constant (pos 0)
min_by (p ∷ []) = guard p.truth p.number
min_by (p ∷ q ∷ more) = λ g. then_ (or_of (map (λ (r : Pair). r.truth) (p ∷ q ∷ more)) g) (λ _. least_of (p ∷ q ∷ more))

unfoldable pub min_of : List Pair → Rule
min_of pairs = min_by (pairs_left pairs)
