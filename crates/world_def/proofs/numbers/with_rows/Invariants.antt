use Rattle.std.proofs.Common.{◌≡◌, ◌≤◌, ◌++◌, length, drop}
use Rattle.world_def.specs.Worlds.{rows_numbers}
use Rattle.world_def.proofs.numbers.with_rows.Given as goal

abbrev pub invariant-loop-at : goal.invariant-loop-at
invariant-loop-at l = record {
  so_far : l.made ++ rows_numbers l.at (drop l.at l.bases) (drop l.from l.columns) (drop l.next l.picks) (drop l.next l.rows) ≡ l.fn.before ++ rows_numbers 0 l.bases l.columns l.picks l.rows;
  columns : l.from ≤ length l.columns;
  picks : l.next ≤ length l.picks;
  rows : l.next ≤ length l.rows;
}
