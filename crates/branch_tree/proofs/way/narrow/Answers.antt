use Rattle.branch_tree.proofs.Boxes.{way_at, way_after, box_along-after}
use Rattle.branch_tree.proofs.way.narrow.Goals as goal

pub turn_to-requires : goal.turn_to-requires
turn_to-requires c = way_at _ _ _ _ c.in-Some.ensures c.loop-turn.invariant.way

pub loop-turn-preserved : goal.loop-turn-preserved
loop-turn-preserved c = record {
  way = way_after _ _ _ _ _ c.in-Some.ensures c.turn_to.ensures c.loop-turn.invariant.way;
  same = box_along-after _ _ _ _ _ _ c.in-Some.ensures c.turn_to.ensures c.loop-turn.invariant.same;
}
