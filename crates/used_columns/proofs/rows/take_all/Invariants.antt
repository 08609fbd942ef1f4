use Rattle.std.proofs.Common.{length, take}
use Rattle.used_columns.proofs.TakeLemmas.{AreTaken}
use Rattle.used_columns.proofs.rows.take_all.Given as goal

abbrev pub invariant-loop-term : goal.invariant-loop-term
invariant-loop-term l = AreTaken (length l.initial.totals) l.terms (take l.term-index l.terms) l.totals l.seeds
