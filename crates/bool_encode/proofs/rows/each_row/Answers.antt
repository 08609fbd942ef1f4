use Rattle.std.proofs.Common.{suc, pos, neg_ℤ, to_z, of_z, w64, [], ◌∷◌, arith}
use Rattle.bool_encode.specs.Forms.{form}
use Rattle.bool_encode.specs.Tables.{times}
use Rattle.bool_encode.proofs.LoopLemmas.{rows_more}
use Rattle.bool_encode.proofs.rows.each_row.Goals as goal

pub pair_row-requires-clause-kid : goal.pair_row-requires-clause-kid
pair_row-requires-clause-kid c = c.requires.kids (suc c.loop-kid.kid-index) 0 (omega (arith, c.loop-kid-test.true))

pub loop-kid-preserved : goal.loop-kid-preserved
loop-kid-preserved c =
    rows_more c.args.fold.now c.args.map.now.stands (λ z. form (pos 0) (times (to_z w64 (of_z w64 c.args.sign)) z ∷ times (neg_ℤ (to_z w64 (of_z w64 c.args.sign))) c.args.id ∷ [])) c.args.kids.now c.loop-kid.kid-index c.loop-kid.rows c.push.new.self
    c.in_ok-pair_row.field-0 c.loop-kid-test.true c.loop-kid.invariant c.in_ok-pair_row.ensures c.in_ok-push.ensures.ok
