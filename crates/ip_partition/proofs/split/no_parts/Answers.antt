use Rattle.ip_partition.proofs.FillLemmas.{parts_more}
use Rattle.ip_partition.proofs.split.no_parts.Goals as goal

pub loop-preserved : goal.loop-preserved
loop-preserved c = parts_more c.loop.parts.items c.push.new.self.items c.loop.counter c.new.result c.new-in-loop.result c.in_ok-push.ensures.items c.new.ensures c.new-in-loop.ensures c.loop.invariant
