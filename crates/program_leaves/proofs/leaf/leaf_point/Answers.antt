use Rattle.std.proofs.Common.{◌∙◌}
use Rattle.program_leaves.proofs.Points.{worlds_few, within_given, point_given, between_given}
use Rattle.program_leaves.proofs.leaf.leaf_point.Goals as goal

pub leaf_world-requires : goal.leaf_world-requires
leaf_world-requires c = worlds_few c.args.program.now c.args.fold.now c.args.map.now.stands c.args.sides.now c.requires.matched c.requires.inside

pub world_point-requires-clause-within : goal.world_point-requires-clause-within
world_point-requires-clause-within c =
    within_given c.args.program.now c.args.fold.now c.args.map.now.stands c.args.sides.now c.requires.matched c.requires.inside c.as_slice.result.now (c.as_slice.ensures ∙ c.in_ok-world.ensures)

pub returns-clause-point : goal.returns-clause-point
returns-clause-point c =
    point_given c.args.program.now c.args.fold.now c.args.map.now.stands c.args.sides.now c.requires.matched c.requires.inside c.as_slice.result.now (c.as_slice.ensures ∙ c.in_ok-world.ensures) c.world_point.result c.world_point.ensures.point

pub returns-clause-between : goal.returns-clause-between
returns-clause-between c =
    between_given c.args.program.now c.args.fold.now c.args.map.now.stands c.args.sides.now c.requires.matched c.requires.inside c.as_slice.result.now (c.as_slice.ensures ∙ c.in_ok-world.ensures) c.known.ensures c.world_point.result c.world_point.ensures.point
