use Rattle.std.proofs.Common.{◌≡◌, drop}
use Rattle.std.specs.List.{list_all}
use Rattle.prov_fold.specs.Values.{number_at, holds}
use Rattle.prov_fold.proofs.values.all_hold.Given as goal

abbrev pub invariant-loop-kid : goal.invariant-loop-kid
invariant-loop-kid l = list_all (holds (number_at l.values)) (drop l.kid-index l.kids) ≡ list_all (holds (number_at l.values)) l.kids
