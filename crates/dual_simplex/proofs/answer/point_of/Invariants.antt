use Rattle.std.proofs.Common.{◌≡◌, ℕ, suc, ◌<◌, length}
use Rattle.dict_pivot.specs.Dictionaries.{number, cell_of}
use Rattle.dual_simplex.proofs.answer.point_of.Given as goal

abbrev pub invariant-loop-column : goal.invariant-loop-column
invariant-loop-column l = record {
  size : length l.point.items ≡ l.column;
  each : (j : ℕ) → j < l.column → number l.point.items j ≡ cell_of l.dict (suc j) 0;
}
