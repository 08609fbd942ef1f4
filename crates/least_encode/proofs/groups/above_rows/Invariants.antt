use Rattle.std.proofs.Common.{take}
use Rattle.prov_fold.specs.Graphs.{range}
use Rattle.cmp_encode.specs.Tables.{above_forms}
use Rattle.least_encode.specs.Groups.{Appends}
use Rattle.least_encode.proofs.groups.above_rows.Given as goal

abbrev pub invariant-loop-pair : goal.invariant-loop-pair
invariant-loop-pair l = Appends l.fold l.map.stands (above_forms l.span (range l.fold) l.id (take l.pair-index l.pairs)) l.initial.rows l.rows
