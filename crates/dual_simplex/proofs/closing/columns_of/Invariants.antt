use Rattle.std.proofs.Common.{◌≡◌}
use Rattle.dual_simplex.specs.Shown.{first_columns}
use Rattle.dual_simplex.proofs.closing.columns_of.Given as goal

abbrev pub invariant-loop-column : goal.invariant-loop-column
invariant-loop-column l = l.made.items ≡ first_columns l.column
