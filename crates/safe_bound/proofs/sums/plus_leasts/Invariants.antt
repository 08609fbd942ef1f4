use Rattle.std.proofs.Common.{◌≡◌, drop, pos}
use Rattle.rat128.specs.Fractions.{whole_fraction}
use Rattle.safe_bound.specs.Bound.{plus_leasts}
use Rattle.safe_bound.proofs.sums.plus_leasts.Given as goal

abbrev pub invariant-loop-multiplier : goal.invariant-loop-multiplier
invariant-loop-multiplier l =
    plus_leasts l.rows l.total (drop l.multiplier-index l.multipliers) ≡ plus_leasts l.rows (whole_fraction (pos 0)) l.multipliers
