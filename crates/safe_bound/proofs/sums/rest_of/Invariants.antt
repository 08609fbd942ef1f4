use Rattle.std.proofs.Common.{◌≡◌, drop}
use Rattle.rat128.specs.Fractions.{whole_fraction}
use Rattle.safe_bound.specs.Bound.{rest_of}
use Rattle.safe_bound.proofs.sums.rest_of.Given as goal

abbrev pub invariant-loop-multiplier : goal.invariant-loop-multiplier
invariant-loop-multiplier l =
    rest_of l.rows l.column l.rest (drop l.multiplier-index l.multipliers) ≡ rest_of l.rows l.column (whole_fraction l.factor) l.multipliers
