use Rattle.std.proofs.Common.{◌-◌, ◌≤◌, take, vec_len, vec_items}
use Rattle.std.specs.Io.KnownBytes.{Consumes}
use Rattle.outside_io.proofs.file_shelf.fill.Given as goal

-- the front of the room is what was read, and there is no more room than is wanted
abbrev pub invariant-loop-filled : goal.invariant-loop-filled
invariant-loop-filled g l =
    (l.filled ≤ vec_len l.bytes) × (vec_len l.bytes ≤ l.max)
    × Consumes (g.F.Read.remaining l.initial.file) (g.F.Read.remaining l.file) (take l.filled (vec_items l.bytes))

abbrev pub decreases-loop-filled : goal.decreases-loop-filled
decreases-loop-filled g l = l.max - l.filled
