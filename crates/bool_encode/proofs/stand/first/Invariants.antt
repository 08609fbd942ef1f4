use Rattle.std.proofs.Common.{◌≡◌, ◌+◌, drop}
use Rattle.bool_encode.specs.Stands.{column_of}
use Rattle.bool_encode.proofs.stand.first.Given as goal

abbrev pub invariant-loop-place : goal.invariant-loop-place
invariant-loop-place l = l.place + column_of (drop l.place l.stands) l.sought ≡ column_of l.stands l.sought
