use Rattle.std.proofs.Common.{◌≡◌, drop}
use Rattle.outside_io.specs.HeldFiles.{are_distinct}
use Rattle.outside_io.proofs.held.Held.are_distinct.Given as goal

abbrev pub invariant-loop-i : goal.invariant-loop-i
invariant-loop-i l = are_distinct (drop l.i l.held) ≡ are_distinct l.held
