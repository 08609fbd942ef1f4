use Rattle.std.proofs.Common.{ap, length, get_or, ◌∙◌, arith, rules}
use Rattle.world_eval.proofs.Turns.{left_end, left_err, left_init, left_step}
use Rattle.world_eval.proofs.tables.views_text.Goals as goal

pub returns-in_err-put_asked : goal.returns-in_err-put_asked
returns-in_err-put_asked c = search (rules, left_err c.args.query.now c.args.tables.now c.args.world.now c.args.query.now.views c.loop-at.at _ (let long = ap length c.as_slice-view-items.ensures in omega (arith, long)) (c.view-item.is ∙ (λ i. get_or (c.as_slice-view-items.ensures i) c.loop-at.at c.view-item.result)) c.loop-at.text.items _ c.loop-at.invariant c.in_err-put_asked.field-0.0 c.in_err-put_asked.ensures)

pub loop-at-preserved : goal.loop-at-preserved
loop-at-preserved c =
    let put = c.in_ok-put_asked.ensures in
    left_step c.args.query.now c.args.tables.now c.args.world.now c.args.query.now.views c.loop-at.at _ (let long = ap length c.as_slice-view-items.ensures in omega (arith, long)) (c.view-item.is ∙ (λ i. get_or (c.as_slice-view-items.ensures i) c.loop-at.at c.view-item.result)) c.loop-at.text.items _ c.loop-at.invariant put.0 _ put.1 put.2

pub returns : goal.returns
returns c = left_end c.args.query.now c.args.tables.now c.args.world.now c.args.query.now.views c.loop-at.at c.loop-at.text.items _ (let long = ap length c.as_slice-view-items.ensures in omega (arith, long)) c.loop-at.invariant

pub loop-at-init : goal.loop-at-init
loop-at-init c = left_init c.args.query.now c.args.tables.now c.args.world.now c.args.query.now.views c.new-text.result.items c.new-text.ensures.items
