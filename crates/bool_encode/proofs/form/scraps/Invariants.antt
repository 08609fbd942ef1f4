use Rattle.std.proofs.Common.{◌≡◌, drop, map, ◌++◌}
use Rattle.bool_encode.specs.Scraps.{told, spread}
use Rattle.bool_encode.proofs.form.scraps.Given as goal

abbrev pub invariant-loop-piece : goal.invariant-loop-piece
invariant-loop-piece l = map told l.scraps.items ++ spread l.fold l.stands (drop l.piece-index l.pieces) ≡ spread l.fold l.stands l.pieces
