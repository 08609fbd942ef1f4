use Rattle.std.proofs.Common.{◌≡◌, ◌++◌, drop}
use Rattle.tiql_query.specs.WellFormed.{with_set}
use Rattle.tiql_check.proofs.hypo.columns_with.Given as goal

abbrev pub invariant-loop-number : goal.invariant-loop-number
invariant-loop-number l = l.made ++ with_set l.set l.number (drop l.number l.columns) ≡ with_set l.set 0 l.columns
