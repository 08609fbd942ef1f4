use Rattle.std.proofs.Common.{◌≡◌, ◌≤◌, ◌++◌, length, drop}
use Rattle.world_def.specs.Worlds.{world_numbers}
use Rattle.world_def.proofs.numbers.world_numbers.Given as goal

abbrev pub invariant-loop-at : goal.invariant-loop-at
invariant-loop-at l = record {
  so_far : l.made ++ world_numbers l.tables l.world l.at (drop l.at l.hypos) (drop l.from l.columns) ≡ world_numbers l.tables l.world 0 l.hypos l.columns;
  columns : l.from ≤ length l.columns;
}
