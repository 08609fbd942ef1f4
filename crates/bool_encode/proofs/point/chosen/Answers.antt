use Rattle.std.proofs.Common.{◌<◌, length, arith}
use Rattle.bool_encode.proofs.LoopLemmas.{pairs_below}
use Rattle.bool_encode.proofs.point.chosen.Goals as goal

pub is_first-requires-clause-pairs : goal.is_first-requires-clause-pairs
is_first-requires-clause-pairs c =
    let lt : c.args.id < length c.args.values.now = omega (arith, c.requires.there, c.requires.count) in
    pairs_below c.args.id (length c.args.values.now) c.in-Min.pairs.now lt c.in-Min.ensures.kids
