use Rattle.bool_encode.proofs.JoinLemmas.{on_map_joined}
use Rattle.bool_encode.proofs.form.form_row.Goals as goal

pub joined_row-requires-clause-named : goal.joined_row-requires-clause-named
joined_row-requires-clause-named c = on_map_joined c.args.fold.now c.args.map.now.stands c.args.pieces.now c.requires.named
