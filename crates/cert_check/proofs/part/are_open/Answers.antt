use Rattle.std.proofs.Common.{◌+◌, ◌≡◌, drop, get_or, sym, ◌∙◌, subst, arith}
use Rattle.std.specs.Str.{bytes_eq}
use Rattle.std.proofs.lemmas.List.{get_or_default}
use Rattle.branch_tree.proofs.Columns.{no_side}
use Rattle.branch_tree.specs.Listing.{open_from}
use Rattle.cert_check.proofs.Parts.{at_within, fixed_here, other_here, same_here, none_left}
use Rattle.cert_check.proofs.part.are_open.Goals as goal
use Rattle.cert_check.proofs.part.are_open.Goals.{then-has_two+else-not-has_at, else-has_two}

pub returns-then-not-has_at : goal.returns-then-not-has_at
returns-then-not-has_at c =
    let side = get_or c.args.sides.now c.loop-at.at no_side in
    other_here c.args.columns.now c.args.sides.now c.loop-at.next c.loop-at.at side c.loop-at-test.true (get_or_default c.args.sides.now c.loop-at.at no_side side c.loop-at-test.true) _
    (sym c.has_two.ensures ∙ c.if-has_two.true) (sym c.has_at.ensures ∙ c.if-not-has_at.true) c.loop-at.invariant.left

pub loop-at-preserved : goal.loop-at-preserved
loop-at-preserved c =
    let columns = c.args.columns.now in
    let sides = c.args.sides.now in
    let side = get_or sides c.loop-at.at no_side in
    let is = get_or_default sides c.loop-at.at no_side side c.loop-at-test.true in
    elim c.if-has_two.branch [
      | then-has_two+else-not-has_at w ↦ record {
        within = (let next = w.next-is in let before = c.loop-at.invariant.within in omega (arith, next, before));
        room = (let next = w.next-is in let there = at_within columns c.loop-at.next c.loop-at.at (sym w.has_at.ensures ∙ w.if-not-has_at.false) in omega (arith, next, there));
        left = subst (λ n. bytes_eq (drop n columns) (open_from (c.loop-at.at + 1) (drop (c.loop-at.at + 1) sides)) ≡ bytes_eq columns (open_from 0 sides)) (sym w.next-is)
            (same_here columns sides c.loop-at.next c.loop-at.at side c.loop-at-test.true is (bytes_eq columns (open_from 0 sides)) (sym c.has_two.ensures ∙ w.if-has_two.true) (sym w.has_at.ensures ∙ w.if-not-has_at.false) c.loop-at.invariant.left);
      }
      | else-has_two w ↦ record {
        within = (let next = w.next-is in let before = c.loop-at.invariant.within in omega (arith, next, before));
        room = (let next = w.next-is in let before = c.loop-at.invariant.room in omega (arith, next, before));
        left = subst (λ n. bytes_eq (drop n columns) (open_from (c.loop-at.at + 1) (drop (c.loop-at.at + 1) sides)) ≡ bytes_eq columns (open_from 0 sides)) (sym w.next-is)
            (fixed_here columns sides c.loop-at.next c.loop-at.at side c.loop-at-test.true is (bytes_eq columns (open_from 0 sides)) (sym c.has_two.ensures ∙ w.if-has_two.false) c.loop-at.invariant.left);
      }
    ]

pub returns : goal.returns
returns c = none_left c.args.columns.now c.args.sides.now c.loop-at.next c.loop-at.at _ (omega arith) c.loop-at.invariant.room c.loop-at.invariant.left
