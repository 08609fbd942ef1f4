use Rattle.std.proofs.Common.{◌≡◌, ◌+◌, ◌%◌}
use Rattle.rat128.specs.Divisors.{gcd}
use Rattle.rat128.proofs.divisor.halved_u64.Given as goal

-- two odd numbers with the divisor of the first two
abbrev pub invariant-loop-x : goal.invariant-loop-x
invariant-loop-x l = record {
  left : l.x % 2 ≡ 1;
  right : l.y % 2 ≡ 1;
  same : gcd l.x l.y ≡ gcd l.initial.x l.initial.y;
}

abbrev pub decreases-loop-x : goal.decreases-loop-x
decreases-loop-x l = l.x + l.y
