use Rattle.std.proofs.Common.{ℤ, to_z-of_z, ◌≡◌, ◌<ℤ◌, List, length, arith, ap, sym, ◌∙◌, subst, refl}
use mir.Val.{to_z, of_z}
use mir.Syntax.{w64}
use Rattle.std.specs.Prelude.{Some, slice_set}
use Rattle.ip_rows.specs.declared.Bounds.{Bounds}
use Rattle.branch_tree.specs.Boxes.{side_at, low_side, high_side}
use Rattle.cert_check.proofs.Walks.{stands, parted_here, split_boxes, split_walk}
use Rattle.cert_check.proofs.walk.Walk.go_low.Goals as goal

pub bounds-as_slice-place : goal.bounds-as_slice-place
bounds-as_slice-place c =
    let there = (parted_here c.args.self.now c.args.column c.args.at c.requires.parted).there in
    let long : length c.as_slice.result.now ≡ length c.args.self.now.sides = ap (length {A = Bounds}) c.as_slice.ensures in omega (arith, there, long)

pub high_side-requires : goal.high_side-requires
high_side-requires c =
    let same : to_z w64 (of_z w64 c.args.at) ≡ c.args.at = to_z-of_z c.ranges.at in
    subst (λ (z : ℤ). z <ℤ (side_at c.as_slice.result.now c.args.column).hi) (sym same)
    (subst (λ (l : List Bounds). c.args.at <ℤ (side_at l c.args.column).hi) (sym c.as_slice.ensures) (parted_here c.args.self.now c.args.column c.args.at c.requires.parted).high)

pub set-requires : goal.set-requires
set-requires c = (parted_here c.args.self.now c.args.column c.args.at c.requires.parted).there

pub returns-clause-walk : goal.returns-clause-walk
returns-clause-walk c =
    split_walk c.args.self.now (record { sides = c.set.new.self; turns = c.push.new.self; over = c.args.self.now.over }) c.args.column c.args.at (side_at c.as_slice.result.now c.args.column) (Some c.high_side.result)
    c.requires.walk (parted_here c.args.self.now c.args.column c.args.at c.requires.parted).there
    (c.set.ensures ∙ ap (λ (s : Bounds). slice_set c.args.self.now.sides c.args.column s) (c.low_side.ensures ∙ ap (λ (z : ℤ). low_side (side_at c.as_slice.result.now c.args.column) z) (to_z-of_z c.ranges.at))) c.in_ok-push.ensures.ok

pub returns-clause-boxes : goal.returns-clause-boxes
returns-clause-boxes c =
    split_boxes c.args.self.now (record { sides = c.set.new.self; turns = c.push.new.self; over = c.args.self.now.over }) c.args.column c.args.at (side_at c.as_slice.result.now c.args.column) (Some c.high_side.result)
    (stands c.args.self.now c.args.column c.args.at c.requires.parted) (parted_here c.args.self.now c.args.column c.args.at c.requires.parted).there
    (ap (λ (l : List Bounds). side_at l c.args.column) c.as_slice.ensures) (ap Some (c.high_side.ensures ∙ ap (λ (z : ℤ). high_side (side_at c.as_slice.result.now c.args.column) z) (to_z-of_z c.ranges.at)))
    (c.set.ensures ∙ ap (λ (s : Bounds). slice_set c.args.self.now.sides c.args.column s) (c.low_side.ensures ∙ ap (λ (z : ℤ). low_side (side_at c.as_slice.result.now c.args.column) z) (to_z-of_z c.ranges.at))) c.in_ok-push.ensures.ok refl
