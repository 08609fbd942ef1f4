use Rattle.std.proofs.Common.{◌∙◌, ◌++◌, ap, map}
use Rattle.std.proofs.lemmas.Map.Iter.{rest_more, rest_all}
use Rattle.view_select.proofs.Grouped.{copied-step, copied-end}
use Rattle.view_select.proofs.distinct.distinct_rows.Goals as goal

pub loop-row-init : goal.loop-row-init
loop-row-init c = ap (λ l. l ++ map (λ row. row.now) c.into_iter-row-iterator.result) c.new-made.ensures ∙ ap (map (λ row. row.now)) c.into_iter-row-iterator.ensures.into_iter_gives.0 ∙ c.in_ok-row-items.ensures

pub loop-row-preserved : goal.loop-row-preserved
loop-row-preserved c = copied-step c.loop-row.row-iterator c.next.new.self c.in-Some.row c.in_ok-copy_list.field-0 c.loop-row.made c.push.new.self _ (rest_more (λ row. row) _ _ _ _ c.in-Some.is c.next.ensures.steps) c.in_ok-copy_list.ensures c.in_ok-push.ensures.ok c.loop-row.invariant

pub returns : goal.returns
returns c = copied-end c.loop-row.row-iterator c.loop-row.made _ (rest_all (λ row. row) _ _ _ c.in-None.is c.next.ensures.steps) c.loop-row.invariant
