use Rattle.std.proofs.Common.{◌≡◌, ◌<◌, ap, ◌∙◌, arith}
use Rattle.bool_encode.specs.Points.{point_of}
use Rattle.branch_tree.specs.Tree.{pending_nodes}
use Rattle.point_listing.proofs.Solves.{found_within, tells_best, tells_none, tells_spent}
use Rattle.point_listing.proofs.listing.told_of.Goals as goal

pub returns-then-pending-gt0 : goal.returns-then-pending-gt0
returns-then-pending-gt0 c =
    let some : 0 < pending_nodes c.args.listed.tree = let count = c.pending-pending.ensures in let some = c.if-pending-gt0.true in omega arith in
    tells_spent c.args.program.now c.args.fold.now c.args.map.now.stands c.args.budget c.args.listed c.requires.lists c.part_of-part.result c.in_ok-parts.parts c.part_of-part.ensures.number (c.part_of-part.ensures.columns ∙ c.requires.columns) (c.part_of-part.ensures.best ∙ c.value_of.ensures) c.part_of-part.ensures.tree
    c.requires.several c.requires.sound c.in_ok-parts.ensures some

pub world_point-requires-clause-within : goal.world_point-requires-clause-within
world_point-requires-clause-within c = rw c.as_slice.ensures (found_within c.args.program.now c.args.fold.now c.args.map.now.stands c.args.budget c.args.listed c.requires.lists c.known.ensures c.requires.formed c.requires.measured c.requires.matched c.in-Some.found c.in-Some.is)

pub returns-in_ok-parts-in-Some : goal.returns-in_ok-parts-in-Some
returns-in_ok-parts-in-Some c =
    let none : pending_nodes c.args.listed.tree ≡ 0 = let count = c.pending-pending.ensures in let few = c.if-pending-gt0.false in omega arith in
    tells_best c.args.program.now c.args.fold.now c.args.map.now.stands c.args.budget c.args.listed c.requires.lists c.known.ensures c.requires.formed c.requires.measured c.requires.matched c.in-Some.found c.in_ok-point-in-Some.point c.part_of-part.result c.in_ok-parts-in-Some.parts
    c.in-Some.is (c.in_ok-point-in-Some.ensures.point ∙ ap (point_of c.args.fold.now c.args.map.now.stands) c.as_slice.ensures) c.part_of-part.ensures.number (c.part_of-part.ensures.columns ∙ c.requires.columns) (c.part_of-part.ensures.best ∙ c.value_of.ensures) c.part_of-part.ensures.tree
    c.requires.several c.requires.sound c.in_ok-parts-in-Some.ensures none

pub returns-in-None : goal.returns-in-None
returns-in-None c =
    let none : pending_nodes c.args.listed.tree ≡ 0 = let count = c.pending-pending.ensures in let few = c.if-pending-gt0.false in omega arith in
    tells_none c.args.program.now c.args.fold.now c.args.map.now.stands c.args.budget c.args.listed c.requires.lists c.known.ensures c.requires.formed c.requires.measured c.requires.matched c.part_of-part.result c.in-None.is c.part_of-part.ensures.number (c.part_of-part.ensures.columns ∙ c.requires.columns) (c.part_of-part.ensures.best ∙ c.value_of.ensures) c.part_of-part.ensures.tree
    c.requires.several c.requires.sound none
