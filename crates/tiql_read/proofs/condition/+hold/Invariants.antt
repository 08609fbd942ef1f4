use Rattle.std.proofs.Common.{codes, ◌≡◌, ◌+◌, ◌*◌, ◌-◌, length}
use Rattle.tiql_read.specs.Outcomes.{with_front}
use Rattle.tiql_read.specs.Steps.{many_at, next_at, is_key}
use Rattle.tiql_read.specs.Conditions as spec
use Rattle.tiql_read.proofs.Loops.{left}
use Rattle.tiql_read.proofs.condition.+hold.Given as goal

abbrev pub decreases-opened : goal.decreases-opened
decreases-opened l = 6 * l.room + 5

abbrev pub decreases-alternatives : goal.decreases-alternatives
decreases-alternatives l = 6 * l.room + 4

abbrev pub decreases-more_alternatives : goal.decreases-more_alternatives
decreases-more_alternatives l = 6 * l.room + 3

abbrev pub decreases-together : goal.decreases-together
decreases-together l = 6 * l.room + 2

abbrev pub decreases-more_together : goal.decreases-more_together
decreases-more_together l = 6 * l.room + 1

abbrev pub decreases-unit : goal.decreases-unit
decreases-unit l = 6 * l.room

abbrev pub invariant-more_alternatives-loop : goal.invariant-more_alternatives-loop
invariant-more_alternatives-loop l =
    left (is_key (codes "OR")) (next_at (is_key (codes "OR")) (spec.and_by (spec.unit_at l.room))) l.parts (length l.words - l.counter) l.rest
    ≡ with_front l.fn.parts (many_at (is_key (codes "OR")) (next_at (is_key (codes "OR")) (spec.and_by (spec.unit_at l.room))) l.words)

abbrev pub invariant-more_together-loop : goal.invariant-more_together-loop
invariant-more_together-loop l =
    left (is_key (codes "AND")) (next_at (is_key (codes "AND")) (spec.unit_at l.room)) l.parts (length l.words - l.counter) l.rest
    ≡ with_front l.fn.parts (many_at (is_key (codes "AND")) (next_at (is_key (codes "AND")) (spec.unit_at l.room)) l.words)
