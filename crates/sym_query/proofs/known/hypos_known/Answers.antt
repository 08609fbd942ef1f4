use Rattle.std.proofs.Common.{arith, rules}
use Rattle.sym_query.proofs.Hypos.{hypos_init, hypos_step, hypos_err, hypos_memory, hypos_end}
use Rattle.sym_query.proofs.known.hypos_known.Goals as goal

pub loop-hypo-init : goal.loop-hypo-init
loop-hypo-init c = hypos_init c.args.query.now c.args.tables.now c.args.columns.now c.args.fold.now c.new-made.result c.new-made.ensures

pub loop-hypo-preserved : goal.loop-hypo-preserved
loop-hypo-preserved c =
    let few = c.requires.small.hypos in
    hypos_step c.args.query.now c.args.tables.now c.args.columns.now c.args.fold.now c.loop-hypo.hypo c.loop-hypo.made c.loop-hypo.fold c.hypo_rows-rows.new.fold (omega (arith, few)) c.loop-hypo.invariant c.hypo_rows-rows.result c.hypo_rows-rows.ensures.rows
    c.requires.fit c.requires.tables c.requires.columns c.in_ok-told_of.field-0 c.push.new.self c.in_ok-push.ensures.ok c.in_ok-told_of.ensures

pub returns-in_err-told_of : goal.returns-in_err-told_of
returns-in_err-told_of c =
    let few = c.requires.small.hypos in
    search (rules, hypos_err c.args.query.now c.args.tables.now c.args.columns.now c.args.fold.now c.loop-hypo.hypo c.loop-hypo.made c.loop-hypo.fold c.hypo_rows-rows.new.fold (omega (arith, few)) c.loop-hypo.invariant c.hypo_rows-rows.result c.hypo_rows-rows.ensures.rows c.in_err-told_of.field-0.0 c.in_err-told_of.ensures)

pub returns-in_err-push : goal.returns-in_err-push
returns-in_err-push c =
    let few = c.requires.small.hypos in
    search (rules, hypos_memory c.args.query.now c.args.tables.now c.args.columns.now c.args.fold.now c.loop-hypo.hypo c.loop-hypo.made c.loop-hypo.fold c.hypo_rows-rows.new.fold (omega (arith, few)) c.loop-hypo.invariant c.hypo_rows-rows.result c.hypo_rows-rows.ensures.rows)

pub returns : goal.returns
returns c =
    let few = c.requires.small.hypos in
    hypos_end c.args.query.now c.args.tables.now c.args.columns.now c.args.fold.now c.loop-hypo.hypo c.loop-hypo.made c.loop-hypo.fold (omega (arith, few)) c.loop-hypo.invariant
