use Rattle.std.proofs.Common.{sym, ap, length, get_or, ◌∙◌, ◌+◌, arith, rules}
use Rattle.world_def.proofs.Judging.{first-step, first-here, first-err, first-end}
use Rattle.world_def.proofs.judge.first_of.Goals as goal

pub returns-in_err-found-clause-told : goal.returns-in_err-found-clause-told
returns-in_err-found-clause-told c = search (rules, first-err c.args.query.now c.args.tables.now c.args.world.now c.args.query.now.requires_ c.loop-at.at (c.loop-at.at + 1) _ c.in_err-found.field-0.0 _ (let long = ap length c.as_slice-requirement-items.ensures in omega (arith, long)) (c.requirement-item.is ∙ (λ i. get_or (c.as_slice-requirement-items.ensures i) c.loop-at.at c.requirement-item.result)) c.in_err-found.ensures.told c.loop-at.invariant.1)

pub returns-then-is_some-clause-told : goal.returns-then-is_some-clause-told
returns-then-is_some-clause-told c = first-here c.args.query.now c.args.tables.now c.args.world.now c.args.query.now.requires_ c.loop-at.at _ _ c.in_ok-found.found _ (let long = ap length c.as_slice-requirement-items.ensures in omega (arith, long)) (c.requirement-item.is ∙ (λ i. get_or (c.as_slice-requirement-items.ensures i) c.loop-at.at c.requirement-item.result)) (sym c.is_some.ensures ∙ c.if-is_some.true) c.in_ok-found.ensures.told c.loop-at.invariant.1

pub loop-at-preserved : goal.loop-at-preserved
loop-at-preserved c = (c.in_ok-found.ensures.made, first-step c.args.query.now c.args.tables.now c.args.world.now c.args.query.now.requires_ c.loop-at.at _ _ c.in_ok-found.found _ (let long = ap length c.as_slice-requirement-items.ensures in omega (arith, long)) (c.requirement-item.is ∙ (λ i. get_or (c.as_slice-requirement-items.ensures i) c.loop-at.at c.requirement-item.result)) (sym c.is_some.ensures ∙ c.if-is_some.false) c.in_ok-found.ensures.told c.loop-at.invariant.1)

pub returns-clause-told : goal.returns-clause-told
returns-clause-told c = first-end c.args.query.now c.args.tables.now c.args.world.now c.args.query.now.requires_ c.loop-at.at _ _ (let long = ap length c.as_slice-requirement-items.ensures in omega (arith, long)) c.loop-at.invariant.1
