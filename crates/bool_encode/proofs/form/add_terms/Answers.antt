use Rattle.std.proofs.Common.{◌≡◌, pos, ◌*ℤ◌, to_z, of_z, get_or, FitsSigned, w64, rules}
use Rattle.std.proofs.Math.Facts.{to_z-of_z}
use Rattle.prov_arena.specs.declared.part.Term.{Term}
use Rattle.prov_fold.proofs.LoopLemmas.{map_step}
use Rattle.bool_encode.specs.Columns.{coef, column_at}
use Rattle.bool_encode.proofs.form.add_terms.Goals as goal

pub loop-term-preserved : goal.loop-term-preserved
loop-term-preserved c =
    let x : Term = get_or c.args.terms.now c.loop-term.term-index (record { factor = pos 0; node = 0 }) in
    let fits : FitsSigned w64 (get_or c.args.terms.now c.loop-term.term-index (record { factor = pos 0; node = 0 })).factor = search rules in
    let same : to_z w64 (of_z w64 x.factor) ≡ x.factor = to_z-of_z fits in
    map_step (λ (t : Term). coef (to_z w64 (of_z w64 c.args.factor) *ℤ t.factor) (column_at c.args.fold.now c.args.stands.now t.node)) c.args.terms.now c.loop-term.term-index (record { factor = pos 0; node = 0 }) _ _ _ _
    c.loop-term-test.true c.in_ok-add.ensures (λ j. record { factor = to_z w64 (of_z w64 c.args.factor) *ℤ same j; column = c.node_column.ensures j }) c.loop-term.invariant
