use Rattle.std.proofs.Common.{◌≡◌, drop}
use Rattle.world_def.specs.Turns.{turns}
use Rattle.world_def.specs.Columns.{with_hypo}
use Rattle.world_def.proofs.columns.with_hypos.Given as goal

abbrev pub invariant-loop-at : goal.invariant-loop-at
invariant-loop-at l = turns (with_hypo l.tables) l.at (drop l.at l.hypos) l.made ≡ turns (with_hypo l.tables) 0 l.hypos l.fn.before
