use Rattle.std.proofs.Common.{◌≡◌, ◌++◌, drop, map}
use Rattle.prov_fold.specs.Values.{number_at}
use Rattle.bool_encode.specs.Points.{number_by}
use Rattle.bool_encode.proofs.point.numbers.Given as goal

abbrev pub invariant-loop-stand : goal.invariant-loop-stand
invariant-loop-stand l = l.point ++ map (number_by l.fold l.world (number_at l.values)) (drop l.stand-index l.stands) ≡ map (number_by l.fold l.world (number_at l.values)) l.stands
