use Rattle.std.proofs.Common.{ℕ, ◌<◌}
use Rattle.rat128.specs.Rationals.{◌≤ℚ◌}
use Rattle.dict_pivot.specs.Dictionaries.{least_of, table}
use Rattle.dual_simplex.proofs.violated.first_violated.Given as goal

abbrev pub invariant-loop-row : goal.invariant-loop-row
invariant-loop-row l = (i : ℕ) → 0 < i → i < l.row → least_of l.dict.low i ≤ℚ (table l.dict).cell i 0
