use Rattle.std.proofs.Common.{◌≡◌}
use Rattle.dict_pivot.specs.Dictionaries.{number}
use Rattle.dual_simplex.specs.Shown.{multipliers_of}
use Rattle.dual_simplex.proofs.closing.listed.Given as goal

abbrev pub invariant-loop-row : goal.invariant-loop-row
invariant-loop-row l = l.made.items ≡ multipliers_of (number l.factors) l.row
