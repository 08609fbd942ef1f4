use Rattle.std.proofs.Common.{◌≡◌, drop, map, ◌++◌}
use Rattle.prov_fold.specs.Scraps.{told}
use Rattle.prov_fold.specs.Rules.{scaled}
use Rattle.prov_fold.proofs.sums.scale_terms.Given as goal

abbrev pub invariant-loop-term : goal.invariant-loop-term
invariant-loop-term l =
    map told l.scraps.items ++ scaled l.factor (drop l.term-index l.terms) ≡ map told l.initial.scraps.items ++ scaled l.factor l.terms
