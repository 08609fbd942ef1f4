use Rattle.ip_partition.proofs.SizeLemmas.{IsBeyond}
use Rattle.ip_partition.proofs.sizes.rows_end_of.Given as goal

abbrev pub invariant-loop-row : goal.invariant-loop-row
invariant-loop-row l = IsBeyond l.grid l.column l.end l.row-iterator
