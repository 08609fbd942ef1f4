use Rattle.std.proofs.Common.{◌≡◌, ◌+◌, drop}
use Rattle.sym_groups.specs.Aggregates.{place_of}
use Rattle.sym_groups.proofs.items.place_of.Given as goal

abbrev pub invariant-loop-place : goal.invariant-loop-place
invariant-loop-place l = l.place + place_of l.at (drop l.place l.keys) ≡ place_of l.at l.keys
