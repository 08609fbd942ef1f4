use Rattle.std.proofs.Common.{codes, ◌≡◌, ◌+◌, ◌*◌, ◌-◌, length}
use Rattle.tiql_read.specs.Outcomes.{with_front}
use Rattle.tiql_read.specs.Steps.{many_at, next_at, is_sign}
use Rattle.tiql_read.specs.Expressions as spec
use Rattle.tiql_read.proofs.Loops.{left}
use Rattle.tiql_read.proofs.expression.+read.Given as goal

abbrev pub decreases-opened : goal.decreases-opened
decreases-opened l = 8 * l.room + 7

abbrev pub decreases-sum : goal.decreases-sum
decreases-sum l = 8 * l.room + 6

abbrev pub decreases-more_terms : goal.decreases-more_terms
decreases-more_terms l = 8 * l.room + 5

abbrev pub decreases-signed_term : goal.decreases-signed_term
decreases-signed_term l = 8 * l.room + 4

abbrev pub decreases-term : goal.decreases-term
decreases-term l = 8 * l.room + 3

abbrev pub decreases-more_factors : goal.decreases-more_factors
decreases-more_factors l = 8 * l.room + 2

abbrev pub decreases-factor : goal.decreases-factor
decreases-factor l = 8 * l.room + 1

abbrev pub invariant-more_factors-loop : goal.invariant-more_factors-loop
invariant-more_factors-loop l =
    left (is_sign (codes "*")) (next_at (is_sign (codes "*")) (spec.factor_at l.room)) l.parts (length l.words - l.counter) l.rest
    ≡ with_front l.fn.parts (many_at (is_sign (codes "*")) (next_at (is_sign (codes "*")) (spec.factor_at l.room)) l.words)

abbrev pub invariant-more_terms-loop : goal.invariant-more_terms-loop
invariant-more_terms-loop l =
    left spec.adds (spec.signed_by (spec.term_by (spec.factor_at l.room))) l.parts (length l.words - l.counter) l.rest
    ≡ with_front l.fn.parts (many_at spec.adds (spec.signed_by (spec.term_by (spec.factor_at l.room))) l.words)
