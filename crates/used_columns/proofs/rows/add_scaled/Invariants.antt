use Rattle.std.proofs.Common.{◌≡◌, ◌++◌, drop}
use Rattle.prov_fold.specs.Rules.{scaled}
use Rattle.used_columns.proofs.rows.add_scaled.Given as goal

abbrev pub invariant-loop-term : goal.invariant-loop-term
invariant-loop-term l = l.terms.items ++ scaled l.factor (drop l.term-index l.more) ≡ l.initial.terms.items ++ scaled l.factor l.more
