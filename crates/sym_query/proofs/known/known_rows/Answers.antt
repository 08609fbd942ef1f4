use Rattle.std.proofs.Common.{rules}
use Rattle.sym_query.proofs.Whole.{known_memory, known_stop, before_known, known_ok}
use Rattle.sym_query.proofs.known.known_rows.Goals as goal

pub returns-in_err-sure : goal.returns-in_err-sure
returns-in_err-sure c = search (rules, known_memory c.args.query.now c.args.tables.now c.args.columns.now c.args.fold.now c.args.fold.now)

pub returns-in_err-hypos : goal.returns-in_err-hypos
returns-in_err-hypos c = search (rules, known_stop c.args.query.now c.args.tables.now c.args.columns.now c.args.fold.now c.hypos_known.new.fold c.in_err-hypos.field-0.0 c.in_err-hypos.ensures)

pub with_views-requires-clause-known : goal.with_views-requires-clause-known
with_views-requires-clause-known c =
    before_known c.args.query.now c.args.tables.now c.args.columns.now c.args.fold.now c.hypos_known.new.fold c.in_ok-hypos.hypos c.in_ok-sure.sure c.new.result c.in_ok-sure.ensures c.new.ensures c.in_ok-hypos.ensures c.known.ensures c.requires.fit c.requires.tables

pub returns : goal.returns
returns c =
    known_ok c.args.query.now c.args.tables.now c.args.columns.now c.args.fold.now c.hypos_known.new.fold c.in_ok-hypos.hypos c.in_ok-sure.sure c.new.result c.in_ok-sure.ensures c.new.ensures c.in_ok-hypos.ensures c.with_views.new.fold c.with_views.result c.with_views.ensures
