use Rattle.std.proofs.Common.{◌≡◌, drop}
use Rattle.std.specs.List.{list_any}
use Rattle.prov_fold.specs.Values.{number_at, holds}
use Rattle.prov_fold.proofs.values.one_holds.Given as goal

abbrev pub invariant-loop-kid : goal.invariant-loop-kid
invariant-loop-kid l = list_any (holds (number_at l.values)) (drop l.kid-index l.kids) ≡ list_any (holds (number_at l.values)) l.kids
