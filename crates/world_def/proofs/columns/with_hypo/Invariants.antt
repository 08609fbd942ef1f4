use Rattle.std.proofs.Common.{◌≡◌, drop}
use Rattle.world_def.specs.Turns.{turns}
use Rattle.world_def.specs.Columns.{with_row}
use Rattle.world_def.proofs.columns.with_hypo.Given as goal

abbrev pub invariant-loop-at : goal.invariant-loop-at
invariant-loop-at l = turns (with_row l.number l.hypo) l.at (drop l.at l.rows) l.made ≡ turns (with_row l.number l.hypo) 0 l.rows l.fn.before
