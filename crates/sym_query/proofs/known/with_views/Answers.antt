use Rattle.std.proofs.Common.{arith, rules}
use Rattle.sym_query.proofs.Views.{sources_known, views_init, views_step, views_err, views_memory, views_end}
use Rattle.sym_query.proofs.known.with_views.Goals as goal

pub loop-view-init : goal.loop-view-init
loop-view-init c = views_init c.args.query.now c.args.before c.args.fold.now c.requires.none c.requires.known

pub view_sym-rows-requires-clause-known : goal.view_sym-rows-requires-clause-known
view_sym-rows-requires-clause-known c = sources_known c.args.query.now c.loop-view.known c.loop-view.fold c.loop-view.view c.loop-view.invariant.good.are

pub loop-view-preserved : goal.loop-view-preserved
loop-view-preserved c =
    let few = c.requires.views in
    views_step c.args.query.now c.args.before c.args.fold.now c.loop-view.view c.loop-view.known c.loop-view.fold c.view_sym-rows.new.fold (omega (arith, few)) c.loop-view.invariant c.view_sym-rows.result c.view_sym-rows.ensures
    c.in_ok-told_of.field-0 c.push.new.self c.in_ok-push.ensures.ok c.in_ok-told_of.ensures

pub returns-in_err-told_of : goal.returns-in_err-told_of
returns-in_err-told_of c =
    let few = c.requires.views in
    search (rules, views_err c.args.query.now c.args.before c.args.fold.now c.loop-view.view c.loop-view.known c.loop-view.fold c.view_sym-rows.new.fold (omega (arith, few)) c.loop-view.invariant c.view_sym-rows.result c.view_sym-rows.ensures c.in_err-told_of.field-0.0 c.in_err-told_of.ensures)

pub returns-in_err-push : goal.returns-in_err-push
returns-in_err-push c =
    let few = c.requires.views in
    search (rules, views_memory c.args.query.now c.args.before c.args.fold.now c.loop-view.view c.loop-view.known c.loop-view.fold c.view_sym-rows.new.fold (omega (arith, few)) c.loop-view.invariant c.view_sym-rows.result c.view_sym-rows.ensures)

pub returns : goal.returns
returns c =
    let few = c.requires.views in
    views_end c.args.query.now c.args.before c.args.fold.now c.loop-view.view c.loop-view.known c.loop-view.fold (omega (arith, few)) c.loop-view.invariant
