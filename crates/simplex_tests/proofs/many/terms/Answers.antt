use Rattle.std.proofs.Common.{◌∙◌, to_z, of_z}
use Rattle.std.specs.Int.{w64}
use Rattle.std.proofs.lemmas.Int.{to_z-of_z}
use Rattle.simplex_tests.proofs.Columns.{more_terms}
use Rattle.simplex_tests.proofs.many.terms.Goals as goal

pub loop-column-preserved : goal.loop-column-preserved
loop-column-preserved c = more_terms c.args.step c.loop-column.column (to_z w64 (of_z w64 c.factor.result)) c.loop-column.terms.items _ c.loop-column.invariant (to_z-of_z w64 c.factor.result (record { sfits = c.factor.type_inv }) ∙ c.factor.ensures) c.in_ok-push.ensures.items
