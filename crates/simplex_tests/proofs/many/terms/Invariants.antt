use Rattle.std.proofs.Common.{◌≡◌}
use Rattle.simplex_tests.specs.Columns.{terms_to}
use Rattle.simplex_tests.proofs.many.terms.Given as goal

abbrev pub invariant-loop-column : goal.invariant-loop-column
invariant-loop-column l = l.terms.items ≡ terms_to l.step l.column
