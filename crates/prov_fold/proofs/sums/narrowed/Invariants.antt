use Rattle.std.proofs.Common.{◌≡◌, pos, drop, map, filter, not, ◌++◌}
use Rattle.prov_arena.specs.declared.part.Term.{Term}
use Rattle.prov_fold.specs.Scraps.{told}
use Rattle.std.specs.Ordering.{int_eq}
use Rattle.prov_fold.proofs.sums.narrowed.Given as goal

abbrev pub invariant-loop-scrap : goal.invariant-loop-scrap
invariant-loop-scrap l =
    l.terms.items ++ filter (λ (t : Term). not (int_eq t.factor (pos 0))) (map told (drop l.scrap-index l.joined)) ≡ filter (λ (t : Term). not (int_eq t.factor (pos 0))) (map told l.joined)
