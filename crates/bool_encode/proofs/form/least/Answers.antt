use Rattle.std.proofs.Common.{pos}
use Rattle.bool_encode.specs.declared.form.Key.TheVariants as key
use Rattle.bool_encode.specs.declared.form.Piece.{Piece}
use Rattle.bool_encode.specs.Columns.{constant_of}
use Rattle.bool_encode.proofs.LoopLemmas.{way_next}
use Rattle.bool_encode.proofs.form.least.Goals as goal

pub loop-piece-preserved : goal.loop-piece-preserved
loop-piece-preserved c =
    way_next (λ (p : Piece). p.factor) (λ (p : Piece). constant_of c.args.fold.now p.key) _ c.args.pieces.now c.loop-piece.piece-index (record { factor = pos 0; key = key.Node 0 }) _ _ c.loop-piece-test.true c.constant_part-total.ensures c.loop-piece.invariant
    (record { sfits = c.constant_part-total.type_inv })
