use Rattle.std.proofs.Common.{◌-◌}
use Rattle.std.specs.List.{range_with_len}
use Rattle.ip_partition.specs.Spreading.{row_part}
use Rattle.ip_partition.proofs.FillLemmas.{FillsRows}
use Rattle.ip_partition.proofs.split.add_rows.Given as goal

abbrev pub invariant-loop-row : goal.invariant-loop-row
invariant-loop-row l = FillsRows (row_part l.grid l.labels) (range_with_len 0 l.end) (range_with_len l.row (l.end - l.row)) l.fn.parts l.parts
