-- The values of formulas on a world, which is the list of the columns' numbers.
use Rattle.std.specs.Prelude.{ℕ, ◌<◌, ◌≤ℤ◌, length, ℤ, pos, ◌+ℤ◌, ◌*ℤ◌, neg_ℤ, int_lt, int_le, Bool, if◌then◌else◌, ◌≤◌, unsigned_abs, Option, Some, None, All, List, [], ◌∷◌, ◌++◌, map, filter, fold, slice_index_or}
use Rattle.std.specs.List.{list_any, list_all}
use Rattle.std.specs.Ordering.{int_eq}
use Rattle.prov_arena.specs.declared.part.Term.{Term}
use Rattle.prov_arena.specs.declared.part.Pair.{Pair}
use Rattle.prov_arena.specs.Formulas.{Formula, FalseNode, TrueNode, PresNode, CellNode, PosNode, NotNode, AndNode, OrNode, LinNode, GuardNode, AbsNode, TotNode, MinNode}
use Rattle.prov_fold.specs.declared.span.Span.{Span}
use Rattle.prov_fold.specs.Graphs.{Graph, node, range, size}
use Rattle.prov_fold.specs.Sums.{total_by, added_by}
use Rattle.prov_fold.specs.Spans.{least, lesser}

abbrev pub number_at : List ℤ → ℕ → ℤ
number_at numbers i = slice_index_or numbers i (pos 0)

-- 1 for true, and 0 for false
abbrev pub as_number : Bool → ℤ
as_number b = if b then pos 1 else pos 0

-- whether a truth holds
abbrev pub holds : (ℕ → ℤ) → ℕ → Bool
holds value truth = int_eq (value truth) (pos 1)

-- the value of a formula by the values of the places that it names
abbrev pub value_of : List ℤ → (ℕ → ℤ) → Formula → ℤ
value_of world value FalseNode = pos 0
value_of world value TrueNode = pos 1
value_of world value (PresNode column) = as_number (int_eq (number_at world column) (pos 1))
value_of world value (CellNode column) = number_at world column
value_of world value (PosNode number) = as_number (int_le (pos 0) (value number))
value_of world value (NotNode truth) = if holds value truth then pos 0 else pos 1
value_of world value (AndNode kids) = as_number (list_all (holds value) kids)
value_of world value (OrNode kids) = as_number (list_any (holds value) kids)
value_of world value (LinNode constant terms) = constant +ℤ total_by (λ (t : Term). t.factor *ℤ value t.node) terms
value_of world value (GuardNode truth number) = if holds value truth then value number else pos 0
value_of world value (AbsNode number) = if int_lt (value number) (pos 0) then neg_ℤ (value number) else value number
value_of world value (TotNode number) = value number
value_of world value (MinNode pairs) = least (map (λ (p : Pair). value p.number) (filter (λ (p : Pair). holds value p.truth) pairs))

-- a column's number is there, and lies in the range
pub record IsThere (world : List ℤ) (column : ℕ) (s : Span) : Type 0 where
  pub there : column < length world
  pub low : s.lo ≤ℤ number_at world column
  pub high : number_at world column ≤ℤ s.hi

-- the same of the column that a formula names
abbrev pub HasColumn : List ℤ → Span → Formula → Type 0
HasColumn world s (PresNode column) = IsThere world column s
HasColumn world s (CellNode column) = IsThere world column s
HasColumn world s _ = Unit {0}

-- a world has a number for each column that the list names
pub record HasNumbers (g : Graph) (world : List ℤ) : Type 0 where
  pub columns : (i : ℕ) → i < size g → HasColumn world (range g i) (node g i)

-- the values of a list of formulas, place by place
unfoldable pub values_of : List ℤ → List Formula → List ℤ
values_of world parts = fold (λ done f. done ++ value_of world (number_at done) f ∷ []) [] parts

-- numbers of at most 10^17 in size
abbrev pub IsNear : ℤ → Type 0
IsNear n = unsigned_abs n ≤ 100000000000000000

-- the lesser of a number, where there is one, and another
abbrev pub nearest : Option ℤ → ℤ → ℤ
nearest None n = n
nearest (Some a) n = lesser a n

-- what the value of a formula is computed from is there, and small
pub record CanLinear (values : List ℤ) (constant : ℤ) (terms : List Term) : Type 0 where
  pub below : All (λ (t : Term). t.node < length values) terms
  pub near : All (λ (t : Term). IsNear (number_at values t.node)) terms
  pub factors : added_by (λ (t : Term). unsigned_abs t.factor) terms ≤ 200000000000000000
  pub constant_near : IsNear constant
  pub whole : IsNear (constant +ℤ total_by (λ (t : Term). t.factor *ℤ number_at values t.node) terms)

abbrev pub CanValue : List ℤ → List ℤ → Formula → Type 0
CanValue world values (PresNode column) = column < length world
CanValue world values (CellNode column) = column < length world
CanValue world values (PosNode number) = number < length values
CanValue world values (NotNode truth) = truth < length values
CanValue world values (AndNode kids) = All (λ kid. kid < length values) kids
CanValue world values (OrNode kids) = All (λ kid. kid < length values) kids
CanValue world values (LinNode constant terms) = CanLinear values constant terms
CanValue world values (GuardNode truth number) = (truth < length values) × (number < length values)
CanValue world values (AbsNode number) = (number < length values) × IsNear (number_at values number)
CanValue world values (TotNode number) = number < length values
CanValue world values (MinNode pairs) = All (λ (p : Pair). (p.truth < length values) × (p.number < length values)) pairs
CanValue world values _ = Unit {0}
