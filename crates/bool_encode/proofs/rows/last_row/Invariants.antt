use Rattle.std.proofs.Common.{◌≡◌, neg_ℤ, ◌∷◌, ◌++◌, drop, map}
use Rattle.bool_encode.specs.Tables.{times}
use Rattle.bool_encode.proofs.rows.last_row.Given as goal

abbrev pub invariant-loop-kid : goal.invariant-loop-kid
invariant-loop-kid l = l.pieces.items ++ map (times (neg_ℤ l.sign)) (drop l.kid-index l.kids) ≡ times l.sign l.id ∷ map (times (neg_ℤ l.sign)) l.kids
