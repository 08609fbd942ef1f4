use Rattle.std.proofs.Common.{◌∙◌, ap}
use Rattle.whole_points.specs.Matched.{world_count}
use Rattle.program_leaves.proofs.Points.{count_taken, lows_taken}
use Rattle.program_leaves.proofs.leaf.leaf_world.Goals as goal

pub slice_bounds-lowest_point-end : goal.slice_bounds-lowest_point-end
slice_bounds-lowest_point-end c = count_taken c.args.map.now.stands c.worlds-count.result c.args.sides.now (c.worlds-count.ensures ∙ ap world_count c.as_slice.ensures) c.requires

pub returns : goal.returns
returns c = lows_taken c.args.map.now.stands c.worlds-count.result c.args.sides.now c.lowest_point.result (c.worlds-count.ensures ∙ ap world_count c.as_slice.ensures) c.lowest_point.ensures
