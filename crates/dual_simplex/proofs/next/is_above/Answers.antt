use Rattle.std.proofs.Common.{refl, sym, ◌∙◌, ap, pos, ◌-ℤ◌}
use Rattle.std.specs.Int.{w128}
use Rattle.std.proofs.lemmas.Int.{to_z-of_z}
use Rattle.std.proofs.lemmas.Option.{none-some}
use Rattle.rat128.specs.Fractions.{whole_fraction}
use Rattle.rat128.specs.Operations.{new_of}
use Rattle.rat128.specs.Rationals.{value, whole}
use Rattle.rat128.proofs.Rationals.{clash_ℚ}
use Rattle.dict_pivot.proofs.StartRows.{new_whole, same_fraction}
use Rattle.dual_simplex.proofs.Chosen.{below_by_order, same_by_order, above_by_order, one_less_small}
use Rattle.dual_simplex.proofs.next.is_above.Goals as goal

pub returns-in-None : goal.returns-in-None
returns-in-None c = absurd (none-some _ (sym c.in-None.is ∙ c.new.ensures.gives ∙ ap (λ z. new_of z (pos 1)) (to_z-of_z w128 c.one_less.result (record { sfits = c.one_less.type_inv }) ∙ c.one_less.ensures ∙ ap (λ z. z -ℤ pos 1) (to_z-of_z w128 c.args.number c.ranges.number)) ∙ new_whole (c.args.number -ℤ pos 1) (one_less_small c.args.number c.requires)))

pub returns-in-Less : goal.returns-in-Less
returns-in-Less c = below_by_order c.in-Some.less c.args.fraction.now (whole (c.args.number -ℤ pos 1)) (value c.args.fraction.now) c.order.result (ap value (same_fraction c.in-Some.less (whole_fraction (c.args.number -ℤ pos 1)) (sym c.in-Some.is ∙ c.new.ensures.gives ∙ ap (λ z. new_of z (pos 1)) (to_z-of_z w128 c.one_less.result (record { sfits = c.one_less.type_inv }) ∙ c.one_less.ensures ∙ ap (λ z. z -ℤ pos 1) (to_z-of_z w128 c.args.number c.ranges.number)) ∙ new_whole (c.args.number -ℤ pos 1) (one_less_small c.args.number c.requires)))) refl c.order.ensures.value c.in-Less.is

pub returns-in-Equal : goal.returns-in-Equal
returns-in-Equal c = λ lt. clash_ℚ _ _ lt (same_by_order c.in-Some.less c.args.fraction.now (whole (c.args.number -ℤ pos 1)) (value c.args.fraction.now) c.order.result (ap value (same_fraction c.in-Some.less (whole_fraction (c.args.number -ℤ pos 1)) (sym c.in-Some.is ∙ c.new.ensures.gives ∙ ap (λ z. new_of z (pos 1)) (to_z-of_z w128 c.one_less.result (record { sfits = c.one_less.type_inv }) ∙ c.one_less.ensures ∙ ap (λ z. z -ℤ pos 1) (to_z-of_z w128 c.args.number c.ranges.number)) ∙ new_whole (c.args.number -ℤ pos 1) (one_less_small c.args.number c.requires)))) refl c.order.ensures.value c.in-Equal.is)

pub returns-in-Greater : goal.returns-in-Greater
returns-in-Greater c = λ lt. clash_ℚ _ _ lt (above_by_order c.in-Some.less c.args.fraction.now (whole (c.args.number -ℤ pos 1)) (value c.args.fraction.now) c.order.result (ap value (same_fraction c.in-Some.less (whole_fraction (c.args.number -ℤ pos 1)) (sym c.in-Some.is ∙ c.new.ensures.gives ∙ ap (λ z. new_of z (pos 1)) (to_z-of_z w128 c.one_less.result (record { sfits = c.one_less.type_inv }) ∙ c.one_less.ensures ∙ ap (λ z. z -ℤ pos 1) (to_z-of_z w128 c.args.number c.ranges.number)) ∙ new_whole (c.args.number -ℤ pos 1) (one_less_small c.args.number c.requires)))) refl c.order.ensures.value c.in-Greater.is)
