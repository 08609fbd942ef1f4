use Rattle.std.proofs.Common.{take}
use Rattle.cmp_encode.specs.Tables.{present_forms}
use Rattle.least_encode.specs.Groups.{Appends}
use Rattle.least_encode.proofs.groups.present_rows.Given as goal

abbrev pub invariant-loop-pair : goal.invariant-loop-pair
invariant-loop-pair l = Appends l.fold l.map.stands (present_forms l.id 0 (take l.pair l.pairs)) l.initial.rows l.rows
