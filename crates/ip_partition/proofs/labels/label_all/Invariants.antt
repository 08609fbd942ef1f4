use Rattle.ip_partition.specs.Spreading.{IsLabelled}
use Rattle.ip_partition.proofs.labels.label_all.Given as goal

abbrev pub invariant-loop-column : goal.invariant-loop-column
invariant-loop-column l = IsLabelled l.grid l.columns l.column-index l.count l.labels l.seen l.reached.items
