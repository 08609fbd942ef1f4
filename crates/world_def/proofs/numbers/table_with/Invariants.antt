use Rattle.std.proofs.Common.{◌≡◌, ◌≤◌, ◌++◌, length, drop}
use Rattle.world_def.specs.Worlds.{rows_at}
use Rattle.world_def.proofs.numbers.table_with.Given as goal

abbrev pub invariant-loop-at : goal.invariant-loop-at
invariant-loop-at l = record {
  picks : l.made.picks ++ (rows_at l.at (drop l.at l.bases) (drop l.from l.columns) (drop l.from l.numbers)).picks ≡ (rows_at 0 l.bases l.columns l.numbers).picks;
  rows : l.made.rows ++ (rows_at l.at (drop l.at l.bases) (drop l.from l.columns) (drop l.from l.numbers)).rows ≡ (rows_at 0 l.bases l.columns l.numbers).rows;
  columns : l.from ≤ length l.columns;
}
