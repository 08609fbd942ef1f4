use Rattle.ip_partition.specs.Spreading.{SpreadsColumn}
use Rattle.ip_partition.proofs.spread.spread_column.Given as goal

abbrev pub invariant-loop-row : goal.invariant-loop-row
invariant-loop-row l = SpreadsColumn l.grid l.part l.at l.column l.fn.labels l.labels l.seen l.reached.items l.row-iterator
