use Rattle.std.proofs.Common.{take}
use Rattle.prov_fold.specs.Graphs.{range}
use Rattle.cmp_encode.specs.Tables.{below_forms}
use Rattle.least_encode.specs.Groups.{Appends}
use Rattle.least_encode.proofs.groups.below_rows.Given as goal

abbrev pub invariant-loop-pair : goal.invariant-loop-pair
invariant-loop-pair l = Appends l.fold l.map.stands (below_forms l.span (range l.fold) l.id 0 (take l.pair l.pairs)) l.initial.rows l.rows
