use Rattle.std.proofs.Common.{◌≡◌, ◌++◌, drop}
use Rattle.used_columns.specs.Seeds.{form_terms}
use Rattle.used_columns.proofs.rows.spread.Given as goal

abbrev pub invariant-loop-piece : goal.invariant-loop-piece
invariant-loop-piece l = l.terms.items ++ form_terms l.fold (drop l.piece-index l.pieces) ≡ form_terms l.fold l.pieces
