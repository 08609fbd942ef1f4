use Rattle.bool_encode.proofs.StandLemmas.{column_is}
use Rattle.bool_encode.proofs.stand.column.Goals as goal

pub returns-then-is_it : goal.returns-then-is_it
returns-then-is_it c = column_is c.args.stands.now c.guess-place.result c.args.sought c.requires c.if-place-stands.true (c.is_it.ensures.0 c.if-is_it.true)
