use Rattle.std.proofs.Common.{◌≡◌, ◌∙◌, sym, ap, subst, take}
use Rattle.whole_points.specs.Matched.{world_count}
use Rattle.whole_points.specs.Points.{IsWorldWithin}
use Rattle.whole_points.proofs.Whole.{agree_one, point_taken, whole_one, world_within}
use Rattle.whole_points.proofs.worlds.same_choices.Goals as goal

count_is : (c : goal.After-worlds-worlds) → c.worlds-worlds.result ≡ world_count c.args.map.now.stands
count_is c = c.worlds-worlds.ensures ∙ ap world_count c.as_slice.ensures

pub world_point-requires-clause-within : goal.world_point-requires-clause-within
world_point-requires-clause-within c =
    subst (λ n. IsWorldWithin c.args.program.now c.args.map.now.stands (take n c.args.point.now)) (sym (count_is c)) (world_within c.args.program.now c.args.point.now c.requires.whole c.args.fold.now c.args.map.now.stands c.requires.matched)

count_at : (c : goal.After-world_point) → c.worlds-worlds.result ≡ world_count c.args.map.now.stands
count_at c = c.worlds-worlds.ensures ∙ ap world_count c.as_slice.ensures

pub returns-clause-point : goal.returns-clause-point
returns-clause-point c = point_taken c.args.fold.now c.args.map.now.stands c.args.point.now c.worlds-worlds.result c.world_point.result (count_at c) c.world_point.ensures.point

pub returns-clause-whole : goal.returns-clause-whole
returns-clause-whole c = whole_one c.args.program.now c.args.point.now c.requires.whole c.args.fold.now c.args.map.now.stands c.requires.matched c.worlds-worlds.result c.world_point.result (count_at c) c.world_point.ensures.whole

pub returns-clause-agree : goal.returns-clause-agree
returns-clause-agree c = agree_one c.args.program.now c.args.point.now c.requires.whole c.args.fold.now c.args.map.now.stands c.requires.matched c.worlds-worlds.result c.world_point.result (count_at c) c.world_point.ensures.agree
