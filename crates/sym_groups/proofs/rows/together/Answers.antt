use Rattle.std.proofs.Common.{◌∙◌, ◌++◌, ap, map}
use Rattle.std.proofs.lemmas.Map.Iter.{rest_more, rest_all}
use Rattle.sym_groups.specs.Together.{lent_rows, lists_in}
use Rattle.sym_groups.proofs.Gathering.{listed-step, listed-end}
use Rattle.sym_groups.proofs.rows.together.Goals as goal

pub loop-group-init : goal.loop-group-init
unfolding lists_in
loop-group-init c = ap (λ l. map lent_rows (l ++ c.into_iter-group-iterator.result)) c.new-made.ensures.items ∙ ap (map lent_rows) (c.into_iter-group-iterator.ensures.into_iter_gives ∙ c.into_values-group-items.ensures.rest) ∙ c.in_ok-groups.ensures

pub loop-group-preserved : goal.loop-group-preserved
loop-group-preserved c = listed-step c.loop-group.group-iterator c.next.new.self c.in-Some.group c.loop-group.made.items c.push.new.self.items _ (rest_more (λ group. group) _ _ _ _ c.in-Some.is c.next.ensures.steps) c.in_ok-push.ensures.items c.loop-group.invariant

pub returns : goal.returns
returns c = listed-end c.loop-group.group-iterator c.loop-group.made.items _ (rest_all (λ group. group) _ _ _ c.in-None.is c.next.ensures.steps) c.loop-group.invariant
