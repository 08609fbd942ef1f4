-- The range of a least number where one of its pairs is there.
use Rattle.std.specs.Prelude.{ℕ, List, [], ◌∷◌, map}
use Rattle.prov_arena.specs.declared.part.Pair.{Pair}
use Rattle.prov_fold.specs.declared.span.Span.{Span}
use Rattle.prov_fold.specs.Spans.{least, greatest, sure}

abbrev pub narrow_by : (ℕ → Span) → List Pair → List Pair → Span
narrow_by range pairs [] = record { lo = least (map (λ (p : Pair). (range p.number).lo) pairs); hi = greatest (map (λ (p : Pair). (range p.number).hi) pairs) }
narrow_by range pairs (p ∷ more) = record { lo = least (map (λ (p : Pair). (range p.number).lo) pairs); hi = least (map (λ (p : Pair). (range p.number).hi) (p ∷ more)) }

-- from the least lower end; where some pair's truth is True, to the least upper end among such pairs, else to the greatest one
unfoldable pub narrow_span : (ℕ → Span) → List Pair → Span
narrow_span range pairs = narrow_by range pairs (sure pairs)
