use Rattle.std.proofs.Common.{◌≡◌, drop, map, filter}
use Rattle.prov_arena.specs.declared.part.Pair.{Pair}
use Rattle.prov_fold.specs.Spans.{least}
use Rattle.prov_fold.specs.Values.{number_at, holds}
use Rattle.prov_fold.proofs.ValueLemmas.{least_by}
use Rattle.prov_fold.proofs.values.least.Given as goal

abbrev pub invariant-loop-pair : goal.invariant-loop-pair
invariant-loop-pair l = least_by l.found (map (λ (p : Pair). number_at l.values p.number) (filter (λ (p : Pair). holds (number_at l.values) p.truth) (drop l.pair-index l.pairs)))
    ≡ least (map (λ (p : Pair). number_at l.values p.number) (filter (λ (p : Pair). holds (number_at l.values) p.truth) l.pairs))
