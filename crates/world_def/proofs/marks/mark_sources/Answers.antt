use Rattle.std.proofs.Common.{arith}
use Rattle.world_def.proofs.Marking.{no_source_marked, source_marked}
use Rattle.world_def.proofs.marks.mark_sources.Goals as goal

pub loop-source-init : goal.loop-source-init
loop-source-init c = no_source_marked c.args.marks.now

pub loop-source-preserved : goal.loop-source-preserved
loop-source-preserved c = source_marked c.args.sources.now c.loop-source.source-index _ c.args.marks.now c.loop-source.marks c.mark_source.new.marks (omega arith) c.loop-source.invariant c.mark_source.ensures
