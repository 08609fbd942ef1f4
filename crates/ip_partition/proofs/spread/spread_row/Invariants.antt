use Rattle.ip_partition.specs.Spreading.{SpreadsRow}
use Rattle.ip_partition.proofs.spread.spread_row.Given as goal

abbrev pub invariant-loop-column : goal.invariant-loop-column
invariant-loop-column l = SpreadsRow l.grid l.row l.part l.fn.labels l.fn.reached.items l.labels l.reached.items l.column-iterator
