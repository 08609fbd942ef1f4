use Rattle.bool_encode.specs.declared.form.Piece.{Piece}
use Rattle.bool_encode.specs.Columns.{constant_of}
use Rattle.bool_encode.proofs.LoopLemmas.{IsOnTheWay}
use Rattle.bool_encode.proofs.form.least.Given as goal

abbrev pub invariant-loop-piece : goal.invariant-loop-piece
invariant-loop-piece l = IsOnTheWay (λ (p : Piece). p.factor) (λ (p : Piece). constant_of l.fold p.key) l.constant l.pieces l.piece-index l.total
