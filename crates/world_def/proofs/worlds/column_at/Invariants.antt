use Rattle.std.proofs.Common.{◌≡◌, drop}
use Rattle.world_def.specs.Worlds.{column_at}
use Rattle.world_def.proofs.worlds.column_at.Given as goal

abbrev pub invariant-loop-column : goal.invariant-loop-column
invariant-loop-column l = column_at (drop l.column-index l.columns) l.place ≡ column_at l.columns l.place
