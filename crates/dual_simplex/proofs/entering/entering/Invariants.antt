use Rattle.dict_pivot.specs.Dictionaries.{table}
use Rattle.dual_simplex.specs.Compared.{IsLeastSoFar}
use Rattle.dual_simplex.proofs.entering.entering.Given as goal

abbrev pub invariant-loop-column : goal.invariant-loop-column
invariant-loop-column l = IsLeastSoFar (table l.dict) l.row l.column l.least
