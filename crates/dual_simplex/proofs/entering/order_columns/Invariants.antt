use Rattle.std.proofs.Common.{◌≡◌, ℕ, ◌<◌}
use Rattle.dict_pivot.specs.Dictionaries.{table}
use Rattle.dual_simplex.specs.Path.{divided}
use Rattle.dual_simplex.proofs.entering.order_columns.Given as goal

abbrev pub invariant-loop-i : goal.invariant-loop-i
invariant-loop-i l = (k : ℕ) → k < l.i → divided (table l.dict) l.row l.one k ≡ divided (table l.dict) l.row l.other k
