use Rattle.std.proofs.Common.{length, take}
use Rattle.used_columns.specs.Seeds.{AreTotals}
use Rattle.used_columns.proofs.rows.add_all.Given as goal

abbrev pub invariant-loop-term : goal.invariant-loop-term
invariant-loop-term l = AreTotals (length l.initial.totals) (take l.term-index l.terms) l.totals
