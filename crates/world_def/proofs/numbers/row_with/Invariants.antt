use Rattle.std.proofs.Common.{◌≡◌, drop}
use Rattle.world_def.specs.Worlds.{row_with}
use Rattle.world_def.proofs.numbers.row_with.Given as goal

abbrev pub invariant-loop-at : goal.invariant-loop-at
invariant-loop-at l = row_with (drop l.at l.columns) (drop l.at l.numbers) l.row ≡ row_with l.columns l.numbers l.base
