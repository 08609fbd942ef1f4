use Rattle.std.proofs.Common.{◌≡◌, replicate, pos}
use Rattle.rat128.specs.Fractions.{whole_fraction}
use Rattle.dual_simplex.proofs.closing.zeros.Given as goal

abbrev pub invariant-loop : goal.invariant-loop
invariant-loop l = l.made.items ≡ replicate l.counter (whole_fraction (pos 0))
