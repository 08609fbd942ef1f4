use Rattle.std.proofs.Common.{◌≡◌, replicate}
use Rattle.ip_partition.specs.Filling.{no_part}
use Rattle.ip_partition.proofs.split.no_parts.Given as goal

abbrev pub invariant-loop : goal.invariant-loop
invariant-loop l = l.parts.items ≡ replicate l.counter no_part
