use Rattle.std.proofs.Common.{take}
use Rattle.world_def.specs.Views.{views_among}
use Rattle.world_def.specs.Making.{Marks}
use Rattle.world_def.proofs.marks.mark_sources.Given as goal

abbrev pub invariant-loop-source : goal.invariant-loop-source
invariant-loop-source l = Marks (views_among (take l.source-index l.sources)) l.fn.marks l.marks
