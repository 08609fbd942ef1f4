use Rattle.std.proofs.Common.{pos, neg_ℤ, [], ◌∷◌, take, map}
use Rattle.bool_encode.specs.Forms.{form}
use Rattle.bool_encode.specs.Rows.{AreRows}
use Rattle.bool_encode.specs.Tables.{times}
use Rattle.bool_encode.proofs.rows.each_row.Given as goal

abbrev pub invariant-loop-kid : goal.invariant-loop-kid
invariant-loop-kid l = AreRows l.fold l.map.stands (map (λ z. form (pos 0) (times l.sign z ∷ times (neg_ℤ l.sign) l.id ∷ [])) (take l.kid-index l.kids)) l.rows
