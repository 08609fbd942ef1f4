use Rattle.std.proofs.Common.{◌∙◌, ◌+◌, ap, sym, arith, rules, refl, unwrap_or, get_or}
use Rattle.std.specs.BTreeMap.Entry.{map_with_value}
use Rattle.sym_groups.proofs.Gathering.{together-init, together-step, same-groups, together-end}
use Rattle.sym_groups.proofs.rows.groups_of.Goals as goal

pub loop-at-init : goal.loop-at-init
loop-at-init c = together-init c.args.keys.now c.args.rows.now _ c.new-groups.ensures.empty c.new-groups.ensures.ordered

pub part_none-groups : goal.part_none-groups
part_none-groups c = (c.in_err-groups.was, refl)

pub loop-at-preserved : goal.loop-at-preserved
loop-at-preserved c =
    same-groups c.args.keys.now c.args.rows.now (c.loop-at.at + 1) _ (map_with_value c.in_ok-groups.field-0 c.push.new.self) (search rules)
    (together-step c.args.keys.now c.args.rows.now c.loop-at.at c.loop-at.groups (map_with_value c.in_ok-groups.field-0 c.push.new.self) c.as_slice.result _ c.or_insert.result.now c.new.result c.push.new.self
    c.requires (omega arith) (c.as_slice.ensures ∙ c.index-keys-at.is ∙ ap (get_or c.args.keys.now c.loop-at.at) (sym c.as_slice.ensures)) c.index-rows-at.is
    (c.in_ok-groups.ensures.update.1 c.push.new.self) (c.in_ok-groups.ensures.update.0 c.push.new.self) (c.in_ok-groups.ensures.update.2 c.push.new.self)
    c.in_ok-push.ensures.items (c.or_insert.ensures.value ∙ ap (λ found. unwrap_or found c.new.result) c.in_ok-groups.ensures.value) c.new.ensures.items c.loop-at.invariant)

pub returns : goal.returns
returns c = together-end c.args.keys.now c.args.rows.now c.loop-at.at _ c.requires (omega arith) c.loop-at.invariant
