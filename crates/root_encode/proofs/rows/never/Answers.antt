use Rattle.std.proofs.Common.{[], arith}
use Rattle.bool_encode.proofs.JoinLemmas.{on_map_joined}
use Rattle.root_encode.proofs.rows.never.Goals as goal

pub joined_row-requires-clause-named : goal.joined_row-requires-clause-named
joined_row-requires-clause-named c = on_map_joined c.args.fold.now c.args.map.now.stands [] (λ j d lt. absurd (omega (arith, lt)))
