use Rattle.std.proofs.Common.{◌≡◌, ◌≤◌, ◌++◌, length, drop}
use Rattle.world_def.specs.Worlds.{tables_at}
use Rattle.world_def.proofs.numbers.tables_at.Given as goal

abbrev pub invariant-loop-at : goal.invariant-loop-at
invariant-loop-at l = record {
  so_far : l.made ++ tables_at l.tables l.at (drop l.at l.hypos) (drop l.from l.columns) (drop l.from l.numbers) ≡ tables_at l.tables 0 l.hypos l.columns l.numbers;
  columns : l.from ≤ length l.columns;
}
