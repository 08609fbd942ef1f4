use Rattle.std.proofs.Common.{◌≡◌, filter}
use Rattle.std.specs.Prelude.{not}
use Rattle.std.specs.List.{range_with_len}
use Rattle.ip_rows.specs.Programs.{sides_of, is_fixed}
use Rattle.ip_reduce.proofs.entries.open_columns.Given as goal

abbrev pub invariant-loop-column : goal.invariant-loop-column
invariant-loop-column l = l.made ≡ filter (λ column. not (is_fixed (sides_of l.columns) column)) (range_with_len 0 l.column)
