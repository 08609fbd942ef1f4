use Rattle.std.proofs.Common.{◌-◌, length}
use Rattle.ip_partition.specs.Spreading.{SpreadsOn}
use Rattle.ip_partition.proofs.spread.spread.Given as goal

abbrev pub invariant-loop-at : goal.invariant-loop-at
invariant-loop-at l = SpreadsOn l.grid l.part l.at l.fn.labels l.labels l.seen l.reached.items

abbrev pub decreases-loop-at : goal.decreases-loop-at
decreases-loop-at l = length l.labels - l.at
