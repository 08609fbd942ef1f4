use Rattle.std.proofs.Common.{◌≡◌, replicate}
use Rattle.simplex_tests.specs.Columns.{side}
use Rattle.simplex_tests.proofs.many.sides.Given as goal

abbrev pub invariant-loop : goal.invariant-loop
invariant-loop l = l.sides.items ≡ replicate l.counter side
