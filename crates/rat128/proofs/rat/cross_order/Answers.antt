use Rattle.std.proofs.Common.{◌∙◌, ◌*◌, pos, unsigned_abs, int_lt, int_cmp, nat_cmp, ap, ap₂, to_z, of_z, to_z-of_z}
use Rattle.std.specs.Int.{w128}
use Rattle.rat128.specs.Steps.{order_by_signs}
use Rattle.rat128.proofs.Orders.{cross_by_size, order_of_seen, same_den_order}
use Rattle.rat128.proofs.rat.cross_order.Goals as goal

pub returns-then-b-d : goal.returns-then-b-d
returns-then-b-d c =
    c.cmp.ensures ∙ ap₂ int_cmp (to_z-of_z c.ranges.a) (to_z-of_z c.ranges.c) ∙ same_den_order c.args.a c.args.c c.args.b c.args.d c.requires.left.positive c.if-b-d.true

pub returns : goal.returns
returns c =
    let left = c.unsigned_abs.ensures.value ∙ ap unsigned_abs (to_z-of_z c.ranges.a) in
    let right = c.unsigned_abs-2.ensures.value ∙ ap unsigned_abs (to_z-of_z c.ranges.c) in
    let sizes = c.compare_products-sizes.ensures ∙ ap₂ (λ m n. nat_cmp (m * c.args.d) (n * c.args.b)) left right in
    c.signed_order.ensures ∙ ap (order_by_signs (int_lt (to_z w128 (of_z w128 c.args.a)) (pos 0)) (int_lt (to_z w128 (of_z w128 c.args.c)) (pos 0))) sizes ∙ ap₂ (λ a c'. order_by_signs (int_lt a (pos 0)) (int_lt c' (pos 0)) (nat_cmp (unsigned_abs c.args.a * c.args.d) (unsigned_abs c.args.c * c.args.b))) (to_z-of_z c.ranges.a) (to_z-of_z c.ranges.c) ∙ cross_by_size c.args.a c.args.c c.args.b c.args.d c.requires.left.positive c.requires.right.positive ∙ order_of_seen c.args.a c.args.c c.args.b c.args.d c.requires.left.positive c.requires.right.positive
