use Rattle.std.proofs.Common.{codes, ◌≡◌, ◌-◌, length}
use Rattle.tiql_read.specs.Outcomes.{with_front}
use Rattle.tiql_read.specs.Steps.{many_at, is_key}
use Rattle.tiql_read.specs.Queries as spec
use Rattle.tiql_read.proofs.Loops.{left}
use Rattle.tiql_read.proofs.declaration.more_arms.Given as goal

abbrev pub invariant-loop : goal.invariant-loop
invariant-loop l =
    left (is_key (codes "UNION")) spec.arm_at l.arms (length l.words - l.counter) l.rest
    ≡ with_front l.fn.arms (many_at (is_key (codes "UNION")) spec.arm_at l.words)
