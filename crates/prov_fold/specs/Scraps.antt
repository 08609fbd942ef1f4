-- The terms of a sum in the code, whose factors are not judged yet.
use Rattle.std.specs.Prelude.{◌≡◌, ℕ, ◌*◌, ◌<◌, ◌==◌, Bool, true, not, map, filter, ℤ, pos, ◌+ℤ◌, ◌-ℤ◌, ◌*ℤ◌, unsigned_abs, if◌then◌else◌, List, [], ◌∷◌}
use Rattle.prov_arena.specs.declared.part.Term.{Term}
use Rattle.prov_fold.specs.declared.sums.Scrap.{Scrap}
use Rattle.prov_fold.specs.declared.span.Span.{Span}
use Rattle.prov_fold.specs.declared.span.Scaled.{Scaled}
use Rattle.prov_fold.specs.Sums.{total_by}
use Rattle.std.specs.Int.{int_min, int_max}
use Rattle.std.specs.List.Sorted.{IsPermutation, IsNonDecreasingBy}
use Rattle.std.specs.Ordering.{int_eq}
use Rattle.prov_fold.specs.Kinds.{is_term}
use Rattle.prov_fold.specs.Graphs.{Graph, node, range, size}
use Rattle.prov_fold.specs.Rules.{terms_in, constant_in, spread}

abbrev pub told : Scrap → Term
told s = record { factor = s.factor; node = s.node }

-- two terms of one node together
abbrev pub together : Scrap → Scrap → Scrap
together a b = record { node = a.node; factor = a.factor +ℤ b.factor }

-- like terms that stand side by side, together
abbrev pub joins_from : Scrap → List Scrap → List Scrap
joins_from a [] = a ∷ []
joins_from a (b ∷ more) = if a.node == b.node then joins_from (together a b) more else a ∷ joins_from b more

abbrev pub joins : List Scrap → List Scrap
joins [] = []
joins (a ∷ more) = joins_from a more

-- how far the ends of a range are apart
abbrev pub width_of : Span → ℕ
width_of s = unsigned_abs (s.hi -ℤ s.lo)

-- the size of a factor times the width of its node
abbrev pub weight_of : Graph → Term → ℕ
weight_of g t = unsigned_abs t.factor * width_of (range g t.node)

-- how far a term goes, from its value at the lower end of its node: down, and up
abbrev pub reach_of : Graph → Term → ℤ
reach_of g t = t.factor *ℤ ((range g t.node).hi -ℤ (range g t.node).lo)

abbrev pub fall_of : Graph → Term → ℤ
fall_of g t = int_min (reach_of g t) (pos 0)

abbrev pub rise_of : Graph → Term → ℤ
rise_of g t = int_max (reach_of g t) (pos 0)

-- a term with its node at the lower end
abbrev pub at_low : Graph → Term → ℤ
at_low g t = t.factor *ℤ (range g t.node).lo

-- the value of a part with each node at the lower end of its range
abbrev pub base_in : Graph → ℕ → ℤ
base_in g number = constant_in (node g number) +ℤ total_by (at_low g) (terms_in number (node g number))

abbrev pub base_of : Graph → ℤ → List Scaled → ℤ
base_of g c parts = c +ℤ total_by (λ (p : Scaled). p.factor *ℤ base_in g p.number) parts

-- a node that is there and may stand in a number
pub record IsGood (g : Graph) (n : ℕ) : Type 0 where
  pub below : n < size g
  pub kind : is_term (node g n) ≡ true

-- the terms whose factors are not 0
abbrev pub nonzero : Term → Bool
nonzero t = not (int_eq t.factor (pos 0))

abbrev pub kept : List Scrap → List Term
kept all = filter nonzero (map told all)

-- the terms of parts, sorted by node and joined
pub record Comes (g : Graph) (parts : List Scaled) (all : List Scrap) : Type 0 where
  pub scraps : List Scrap
  pub sorted : List Scrap
  pub spread_out : map told scraps ≡ spread g parts
  pub permutation : IsPermutation scraps sorted
  pub rising : IsNonDecreasingBy (λ (s : Scrap). s.node) sorted
  pub joined : all ≡ joins sorted
