use Rattle.std.proofs.Common.{map}
use Rattle.prov_fold.specs.Graphs.{HasTruth}
use Rattle.sym_rows.proofs.Each.{Going}
use Rattle.sym_values.specs.Conditions.{test_of}
use Rattle.sym_values.proofs.Truths.{TruthsSo}
use Rattle.sym_values.proofs.conditions.+condition.Given as goal

abbrev pub invariant-conditions-loop-part : goal.invariant-conditions-loop-part
invariant-conditions-loop-part l =
    Going (λ place test. test_of (map (λ columns. columns.now) l.scope) (map (λ row. row.now) l.rows) test) l.parts HasTruth (TruthsSo (map (λ columns. columns.now) l.scope) (map (λ row. row.now) l.rows) l.parts) l.fn.fold l.part-index l.made.items l.fold
