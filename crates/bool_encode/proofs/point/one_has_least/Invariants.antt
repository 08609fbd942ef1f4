use Rattle.std.proofs.Common.{◌≡◌, drop}
use Rattle.std.specs.List.{list_any}
use Rattle.prov_fold.specs.Values.{number_at}
use Rattle.bool_encode.specs.Points.{has_least}
use Rattle.bool_encode.proofs.point.one_has_least.Given as goal

abbrev pub invariant-loop-pair : goal.invariant-loop-pair
invariant-loop-pair l = list_any (has_least (number_at l.values) l.least) (drop l.pair-index l.pairs) ≡ list_any (has_least (number_at l.values) l.least) l.pairs
