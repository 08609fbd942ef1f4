use Rattle.std.proofs.Common.{◌≡◌, drop, map, ◌++◌}
use Rattle.prov_fold.specs.Scraps.{told}
use Rattle.prov_fold.specs.Rules.{spread}
use Rattle.prov_fold.proofs.fold.Fold.scraps.Given as goal

abbrev pub invariant-loop-part : goal.invariant-loop-part
invariant-loop-part l =
    map told l.scraps.items ++ spread l.self (drop l.part-index l.parts) ≡ spread l.self l.parts
