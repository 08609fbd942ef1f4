use Rattle.std.proofs.Common.{drop}
use Rattle.ip_partition.specs.Spreading.{part_of}
use Rattle.ip_partition.proofs.FillLemmas.{FillsColumns}
use Rattle.ip_partition.proofs.split.add_columns.Given as goal

abbrev pub invariant-loop-column : goal.invariant-loop-column
invariant-loop-column l = FillsColumns (part_of l.labels) l.columns (drop l.column-index l.columns) l.fn.parts l.parts
