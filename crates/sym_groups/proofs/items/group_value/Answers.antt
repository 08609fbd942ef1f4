use Rattle.std.proofs.Common.{◌≡◌, subst, ◌∙◌, ap, refl}
use Rattle.std.specs.Prelude.{IfOk}
use Rattle.base_kit.specs.declared.value.Value.{Value}
use Rattle.sym_groups.specs.Aggregates.{fixed_in}
use Rattle.sym_groups.proofs.ItemCells.{value_none, value_is}
use Rattle.sym_groups.proofs.items.group_value.Goals as goal

pub returns-in-empty : goal.returns-in-empty
returns-in-empty c = value_none c.args.place c.args.group.now _ c.in-empty.len_below refl

pub returns-in-len1-up : goal.returns-in-len1-up
returns-in-len1-up c = subst (λ (x : Value). IfOk c.fixed_in.result (λ value. value ≡ x)) (ap fixed_in c.get.ensures.value ∙ value_is c.args.place c.args.group.now c.row-item.result c.in-len1-up.len_at_least c.row-item.is) c.fixed_in.ensures
