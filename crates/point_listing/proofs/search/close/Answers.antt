use Rattle.point_listing.proofs.Worlds.{worlds_there}
use Rattle.point_listing.proofs.search.close.Goals as goal

pub first_lows-requires : goal.first_lows-requires
first_lows-requires c = worlds_there c.args.program.now c.args.fold.now c.args.map.now.stands c.args.sides.now c.requires.matched c.requires.inside c.args.worlds c.requires.worlds
