use Rattle.std.proofs.Common.{◌≡◌, take, drop}
use Rattle.dual_simplex.proofs.answer.basis_of.Given as goal

abbrev pub invariant-loop-column : goal.invariant-loop-column
invariant-loop-column l = l.basis.items ≡ drop 1 (take l.column l.dict.free)
