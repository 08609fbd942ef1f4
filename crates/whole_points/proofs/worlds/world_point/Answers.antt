use Rattle.whole_points.proofs.Whole.{agree_if, whole_if}
use Rattle.whole_points.proofs.WorldNumbers.{all_there, has_numbers}
use Rattle.whole_points.proofs.worlds.world_point.Goals as goal

pub point_of-requires-clause-numbers : goal.point_of-requires-clause-numbers
point_of-requires-clause-numbers c = has_numbers c.args.program.now c.args.fold.now c.args.map.now.stands c.args.world.now c.requires.matched c.requires.within

pub point_of-requires-clause-there : goal.point_of-requires-clause-there
point_of-requires-clause-there c = all_there c.args.program.now c.args.fold.now c.args.map.now.stands c.args.world.now c.requires.matched c.requires.within

pub returns-clause-whole : goal.returns-clause-whole
returns-clause-whole c = whole_if c.args.program.now c.args.fold.now c.args.map.now.stands c.args.world.now c.point_of.result c.known.ensures c.requires.matched c.requires.within c.point_of.ensures.point c.requires.formed

pub returns-clause-agree : goal.returns-clause-agree
returns-clause-agree c = agree_if c.args.program.now c.args.fold.now c.args.map.now.stands c.args.world.now c.point_of.result c.known.ensures c.requires.matched c.requires.within c.point_of.ensures.point
