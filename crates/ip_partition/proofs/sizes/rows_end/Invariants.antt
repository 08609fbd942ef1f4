use Rattle.std.proofs.Common.{◌≤◌, ◌^◌}
use Rattle.ip_partition.proofs.SizeLemmas.{AreBeyond}
use Rattle.ip_partition.proofs.sizes.rows_end.Given as goal

abbrev pub invariant-loop-column : goal.invariant-loop-column
invariant-loop-column l = record {
  beyond : AreBeyond l.grid l.columns l.column-index l.end;
  within : l.end ≤ l.grid.rows;
  small : l.end ≤ 2 ^ 32;
}
