use Rattle.std.proofs.Common.{◌≡◌, drop}
use Rattle.outside_io.specs.MemorySinks.{taken_at}
use Rattle.outside_io.proofs.memory_sink.taken_at.Given as goal

abbrev pub invariant-loop-one : goal.invariant-loop-one
invariant-loop-one l = taken_at l.failing l.call ≡ taken_at (drop l.one-index l.failing) l.call
