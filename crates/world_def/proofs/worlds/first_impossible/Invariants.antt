use Rattle.std.proofs.Common.{◌≡◌, ◌≤◌, length, drop}
use Rattle.world_def.specs.Worlds.{first_impossible}
use Rattle.world_def.proofs.worlds.first_impossible.Given as goal

abbrev pub invariant-loop-at : goal.invariant-loop-at
invariant-loop-at l = record {
  so_far : first_impossible l.tables l.world l.at (drop l.at l.hypos) (drop l.from l.columns) ≡ first_impossible l.tables l.world 0 l.hypos l.columns;
  columns : l.from ≤ length l.columns;
}
