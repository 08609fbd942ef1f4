-- The ranges of formulas.
use Rattle.std.specs.Prelude.{ℕ, ◌==◌, ◌≤◌, ◌≤ℤ◌, nat_lt, ℤ, pos, negsuc, ◌+ℤ◌, ◌*ℤ◌, neg_ℤ, int_lt, unsigned_abs, Bool, if◌then◌else◌, List, [], ◌∷◌, map, filter, fold, slice_index_or}
use Rattle.prov_arena.specs.declared.part.Term.{Term}
use Rattle.prov_arena.specs.declared.part.Pair.{Pair}
use Rattle.prov_arena.specs.Formulas.{Formula, CellNode, LinNode, GuardNode, AbsNode, TotNode, MinNode}
use Rattle.prov_fold.specs.declared.span.Span.{Span}
use Rattle.prov_fold.specs.Sums.{total_by}

-- ranges are kept by place; outside of the list it is 0 .. 0
abbrev pub span_at : List Span → ℕ → Span
span_at ranges i = slice_index_or ranges i (record { lo = pos 0; hi = pos 0 })

abbrev pub truth_span : Span
truth_span = record { lo = pos 0; hi = pos 1 }

abbrev pub lesser : ℤ → ℤ → ℤ
lesser a b = if int_lt a b then a else b

abbrev pub greater : ℤ → ℤ → ℤ
greater a b = if int_lt a b then b else a

abbrev pub widened : Span → Span
widened s = record { lo = lesser s.lo (pos 0); hi = greater s.hi (pos 0) }

-- of the sizes of a range that holds 0 within
abbrev pub size_span : Span → Span
size_span s = record { lo = pos 0; hi = greater (neg_ℤ s.lo) s.hi }

-- a factor times a range
abbrev pub low_of : ℤ → Span → ℤ
low_of (pos n) s = pos n *ℤ s.lo
low_of (negsuc n) s = negsuc n *ℤ s.hi

abbrev pub high_of : ℤ → Span → ℤ
high_of (pos n) s = pos n *ℤ s.hi
high_of (negsuc n) s = negsuc n *ℤ s.lo

-- a constant plus the intervals of terms
unfoldable pub lin_low : (ℕ → Span) → ℤ → List Term → ℤ
lin_low range constant terms = constant +ℤ total_by (λ (t : Term). low_of t.factor (range t.node)) terms

unfoldable pub lin_high : (ℕ → Span) → ℤ → List Term → ℤ
lin_high range constant terms = constant +ℤ total_by (λ (t : Term). high_of t.factor (range t.node)) terms

-- the least, and the greatest, of a list; of no number 0
abbrev pub least : List ℤ → ℤ
least [] = pos 0
least (x ∷ xs) = fold lesser x xs

abbrev pub greatest : List ℤ → ℤ
greatest [] = pos 0
greatest (x ∷ xs) = fold greater x xs

-- the pairs whose truth is True
abbrev pub sure : List Pair → List Pair
sure pairs = filter (λ p. p.truth == 1) pairs

abbrev pub min_span_by : (ℕ → Span) → List Pair → List Pair → Span
min_span_by range pairs [] = widened (record { lo = least (map (λ (p : Pair). (range p.number).lo) pairs); hi = greatest (map (λ (p : Pair). (range p.number).hi) pairs) })
min_span_by range pairs (p ∷ more) = record { lo = least (map (λ (p : Pair). (range p.number).lo) pairs); hi = least (map (λ (p : Pair). (range p.number).hi) (p ∷ more)) }

unfoldable pub min_span : (ℕ → Span) → List Pair → Span
min_span range pairs = min_span_by range pairs (sure pairs)

-- the range of a formula by the ranges of the places that it names; that of a cell is given
abbrev pub span_of : Span → (ℕ → Span) → Formula → Span
span_of given range (CellNode column) = given
span_of given range (LinNode constant terms) = record { lo = lin_low range constant terms; hi = lin_high range constant terms }
span_of given range (GuardNode truth number) = widened (range number)
span_of given range (AbsNode number) = size_span (range number)
span_of given range (TotNode number) = range number
span_of given range (MinNode pairs) = min_span range pairs
span_of given range _ = truth_span

-- whether a number passes 10^17 in size
abbrev pub passes : ℤ → Bool
passes n = nat_lt 100000000000000000 (unsigned_abs n)

-- what the range of a least number is: not empty, and small
pub record IsLeastSpan (s : Span) : Type 0 where
  pub order : s.lo ≤ℤ s.hi
  pub small_lo : unsigned_abs s.lo ≤ 100000000000000000
  pub small_hi : unsigned_abs s.hi ≤ 100000000000000000
