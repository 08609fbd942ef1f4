use Rattle.branch_tree.proofs.Boxes.{place_within, way_to_box, box_at_end}
use Rattle.branch_tree.proofs.branches.Branches.sides.Goals as goal

pub slice_bounds-turns_above-end : goal.slice_bounds-turns_above-end
slice_bounds-turns_above-end c =
    place_within c.self.inside.nodes c.args.self.now c.args.root.now c.args.node c.self.invariant.whole c.self.view_is c.requires _ c.as_slice.ensures

pub narrow-requires : goal.narrow-requires
narrow-requires c =
    way_to_box c.self.inside.nodes c.args.self.now c.args.root.now c.args.node c.self.invariant.whole c.self.view_is c.requires
    _ _ _ _ c.as_slice.ensures c.in_ok-turns.ensures c.in_ok-sides.ensures c.as_slice-2.ensures

pub returns : goal.returns
returns c =
    box_at_end c.self.inside.nodes c.args.self.now c.args.root.now c.args.node c.self.invariant.whole c.self.view_is c.requires
    _ _ _ _ _ c.as_slice.ensures c.in_ok-turns.ensures c.in_ok-sides.ensures c.as_slice-2.ensures c.narrow.ensures
