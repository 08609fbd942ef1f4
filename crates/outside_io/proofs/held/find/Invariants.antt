use Rattle.std.proofs.Common.{◌≡◌, drop}
use Rattle.outside_io.specs.HeldFiles.{held_under}
use Rattle.outside_io.proofs.held.find.Given as goal

abbrev pub invariant-loop-one : goal.invariant-loop-one
invariant-loop-one l = held_under l.held l.name ≡ held_under (drop l.one-index l.held) l.name
