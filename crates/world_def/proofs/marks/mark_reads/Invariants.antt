use Rattle.std.proofs.Common.{take}
use Rattle.world_def.specs.Making.{Marks}
use Rattle.world_def.proofs.Marking.{read_by}
use Rattle.world_def.proofs.marks.mark_reads.Given as goal

abbrev pub invariant-loop-select : goal.invariant-loop-select
invariant-loop-select l = Marks (read_by (take l.select-index l.select-items)) l.fn.marks l.marks
