use Rattle.std.proofs.Common.{◌≡◌, ◌∙◌, ◌*◌, ◌^◌, ◌<◌, ◌<ℤ◌, ℤ, ℕ, pos, unsigned_abs, int_lt, nat_cmp, ap, ap₂, subst, sym, to_z, of_z, to_z-of_z}
use Rattle.std.specs.Int.{w128}
use Rattle.std.proofs.lemmas.Int.{fits_signed_from_abs}
use Rattle.rat128.specs.Rationals.{value, order_ℚ, ◌/ℚ◌}
use Rattle.rat128.specs.Steps.{order_by_signs}
use Rattle.rat128.proofs.Orders.{quotients_seen}
use Rattle.rat128.proofs.rat.order_quotients.Goals as goal

-- a numerator and its size, read back from their bits
num_is : (a : ℤ) → unsigned_abs a < 2 ^ 127 → to_z w128 (of_z w128 a) ≡ a
num_is a h = to_z-of_z (fits_signed_from_abs w128 a h)

size_is : (a : ℤ) (u : ℕ) → unsigned_abs a < 2 ^ 127 → u ≡ unsigned_abs (to_z w128 (of_z w128 a)) → u ≡ unsigned_abs a
size_is a u h e = e ∙ ap unsigned_abs (num_is a h)

pub returns : goal.returns
returns c =
    let one = c.one.inside in
    let over = c.over.inside in
    let other = c.other.inside in
    let other_over = c.other_over.inside in
    let left = c.full_product.ensures ∙ ap₂ ◌*◌ (size_is one.num c.unsigned_abs.result c.one.invariant.num_small c.unsigned_abs.ensures.value) (size_is other_over.num c.unsigned_abs-2.result c.other_over.invariant.num_small c.unsigned_abs-2.ensures.value) in
    let right = c.full_product-3.ensures ∙ ap₂ ◌*◌ (size_is other.num c.unsigned_abs-3.result c.other.invariant.num_small c.unsigned_abs-3.ensures.value) (size_is over.num c.unsigned_abs-4.result c.over.invariant.num_small c.unsigned_abs-4.ensures.value) in
    let sizes = c.compare_wide_products-sizes.ensures ∙ ap₂ nat_cmp (ap₂ ◌*◌ left c.full_product-2.ensures) (ap₂ ◌*◌ right c.full_product-4.ensures) in
    let given = quotients_seen one.num other.num over.num other_over.num one.den other.den over.den other_over.den c.one.invariant.positive c.other.invariant.positive c.over.invariant.positive c.other_over.invariant.positive (subst (λ p. pos 0 <ℤ p.num) (sym c.over.view_is) c.requires.over) (subst (λ p. pos 0 <ℤ p.num) (sym c.other_over.view_is) c.requires.other_over) in
    c.signed_order.ensures ∙ ap (order_by_signs (int_lt (to_z w128 (of_z w128 one.num)) (pos 0)) (int_lt (to_z w128 (of_z w128 other.num)) (pos 0))) sizes ∙ ap₂ (λ a e. order_by_signs (int_lt a (pos 0)) (int_lt e (pos 0)) (nat_cmp (unsigned_abs one.num * unsigned_abs other_over.num * (other.den * over.den)) (unsigned_abs other.num * unsigned_abs over.num * (one.den * other_over.den)))) (num_is one.num c.one.invariant.num_small) (num_is other.num c.other.invariant.num_small) ∙ given ∙ ap₂ order_ℚ (ap₂ (λ p z. value p /ℚ value z) c.one.view_is c.over.view_is) (ap₂ (λ p z. value p /ℚ value z) c.other.view_is c.other_over.view_is)
