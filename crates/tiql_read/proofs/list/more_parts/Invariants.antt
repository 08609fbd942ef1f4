use Rattle.std.proofs.Common.{codes, ◌≡◌, ◌-◌, length}
use Rattle.tiql_read.specs.Outcomes.{with_front}
use Rattle.tiql_read.specs.Steps.{many_at, next_at, is_sign}
use Rattle.tiql_read.proofs.Loops.{left}
use Rattle.tiql_read.proofs.list.more_parts.Given as goal

abbrev pub invariant-loop : goal.invariant-loop
invariant-loop g l =
    left (is_sign (codes ",")) (next_at (is_sign (codes ",")) g.P.Part.reading) l.parts (length l.words - l.counter) l.rest
    ≡ with_front l.fn.parts (many_at (is_sign (codes ",")) (next_at (is_sign (codes ",")) g.P.Part.reading) l.words)
