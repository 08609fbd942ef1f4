-- What a list of formulas with their ranges is.
use Rattle.std.specs.Prelude.{◌≡◌, ◌≢◌, ℕ, ◌<◌, ◌≤◌, ℤ, pos, ◌≤ℤ◌, ◌<ℤ◌, unsigned_abs, true, false, List, length, map, All}
use Rattle.std.specs.List.Sorted.{IsStrictlyIncreasing}
use Rattle.prov_arena.specs.declared.part.Term.{Term}
use Rattle.prov_arena.specs.declared.part.Pair.{Pair}
use Rattle.prov_arena.specs.Formulas.{Formula, PosNode, NotNode, AndNode, OrNode, LinNode, GuardNode, AbsNode, TotNode, MinNode, kids_of}
use Rattle.prov_arena.specs.Graphs.{at}
use Rattle.prov_fold.specs.declared.span.Span.{Span}
use Rattle.prov_fold.specs.Spans.{span_at, span_of}
use Rattle.prov_fold.specs.Kinds.{is_number, is_plain, is_truth, is_term, is_summand}

-- the formulas, and the range of each
pub record Graph : Type 0 where
  pub parts : List Formula
  pub ranges : List Span

-- the formula at a place, and its range
abbrev pub node : Graph → ℕ → Formula
node g i = at g.parts i

abbrev pub range : Graph → ℕ → Span
range g i = span_at g.ranges i

abbrev pub size : Graph → ℕ
size g = length g.parts

-- a place of the list at which a truth, or a number, stands
pub record HasTruth (g : Graph) (i : ℕ) : Type 0 where
  pub below : i < size g
  pub kind : is_truth (node g i) ≡ true

pub record HasNumber (g : Graph) (i : ℕ) : Type 0 where
  pub below : i < size g
  pub kind : is_number (node g i) ≡ true

-- the same of what may be a part of a sum
pub record HasSummand (g : Graph) (i : ℕ) : Type 0 where
  pub below : i < size g
  pub kind : is_summand (node g i) ≡ true

-- a pair of a truth and a number
pub record HasPair (g : Graph) (p : Pair) : Type 0 where
  pub truth : HasTruth g p.truth
  pub number : HasNumber g p.number

-- what a linear form is: its terms rise by node, have no factor 0, and name atoms and plain truths
pub record IsLinear (g : Graph) (constant : ℤ) (terms : List Term) : Type 0 where
  pub small : unsigned_abs constant ≤ 100000000000000000
  pub rising : IsStrictlyIncreasing (map (λ (t : Term). t.node) terms)
  pub factors : All (λ (t : Term). t.factor ≢ pos 0) terms
  pub kinds : All (λ (t : Term). is_term (node g t.node) ≡ true) terms

-- the kinds of the places that a formula names
abbrev pub IsTyped : Graph → Formula → Type 0
IsTyped g (PosNode number) = is_number (node g number) ≡ true
IsTyped g (NotNode truth) = is_plain (node g truth) ≡ true
IsTyped g (AndNode kids) = All (λ kid. is_truth (node g kid) ≡ true) kids
IsTyped g (OrNode kids) = All (λ kid. is_truth (node g kid) ≡ true) kids
IsTyped g (LinNode constant terms) = IsLinear g constant terms
IsTyped g (GuardNode truth number) = (is_truth (node g truth) ≡ true) × (is_number (node g number) ≡ true)
IsTyped g (AbsNode number) = is_number (node g number) ≡ true
IsTyped g (TotNode number) = is_number (node g number) ≡ true
IsTyped g (MinNode pairs) = All (λ (p : Pair). (is_truth (node g p.truth) ≡ true) × (is_number (node g p.number) ≡ true)) pairs
IsTyped g _ = Unit {0}

-- a formula with its range, over the list whose places it names. What is no number has more than one value
pub record Fits (g : Graph) (s : Span) (f : Formula) : Type 0 where
  pub kids : All (λ kid. kid < size g) (kids_of f)
  pub typed : IsTyped g f
  pub ranged : s ≡ span_of s (range g) f
  pub order : s.lo ≤ℤ s.hi
  pub wide : is_number f ≡ false → s.lo <ℤ s.hi
  pub small_lo : unsigned_abs s.lo ≤ 100000000000000000
  pub small_hi : unsigned_abs s.hi ≤ 100000000000000000

-- the list before is the beginning of the list after
pub record Keeps (before after : Graph) : Type 0 where
  pub longer : size before ≤ size after
  pub nodes : (i : ℕ) → i < size before → node after i ≡ node before i
  pub ranges : (i : ℕ) → i < size before → range after i ≡ range before i
