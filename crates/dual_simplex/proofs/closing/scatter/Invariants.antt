use Rattle.std.proofs.Common.{◌≡◌, ℕ, suc, ◌+◌, ◌<◌, length}
use Rattle.dict_pivot.specs.Dictionaries.{number}
use Rattle.dual_simplex.specs.Shown.{factor_of_free}
use Rattle.dual_simplex.proofs.closing.scatter.Given as goal

abbrev pub invariant-loop-column : goal.invariant-loop-column
invariant-loop-column l = (r : ℕ) → r < length l.factors → number l.factors r ≡ factor_of_free l.dict l.row (suc (l.columns + l.columns + r)) l.column
