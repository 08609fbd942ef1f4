use Rattle.std.proofs.Common.{◌≡◌, drop}
use Rattle.world_def.specs.Turns.{turns}
use Rattle.world_def.specs.Columns.{with_cell}
use Rattle.world_def.proofs.columns.with_cells.Given as goal

abbrev pub invariant-loop-bound : goal.invariant-loop-bound
invariant-loop-bound l = turns (with_cell l.hypo l.droppable l.at l.row) l.bound-index (drop l.bound-index l.set) l.made ≡ turns (with_cell l.hypo l.droppable l.at l.row) 0 l.set l.fn.before
