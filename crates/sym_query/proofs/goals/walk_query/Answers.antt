use Rattle.std.proofs.Common.{rules}
use Rattle.sym_query.proofs.Whole.{query_stop, query_ok}
use Rattle.sym_query.proofs.goals.walk_query.Goals as goal

pub returns-in_err-known : goal.returns-in_err-known
returns-in_err-known c = search (rules, query_stop c.args.query.now c.args.tables.now c.args.columns.now c.args.fold.now c.known_rows.new.fold c.in_err-known.field-0.0 c.in_err-known.ensures)

pub goals_of-requires-clause-known : goal.goals_of-requires-clause-known
goals_of-requires-clause-known c = c.in_ok-known.ensures.good

pub returns : goal.returns
returns c = query_ok c.args.query.now c.args.tables.now c.args.columns.now c.args.fold.now c.known_rows.new.fold c.in_ok-known.known c.goals_of.new.fold c.goals_of.result c.in_ok-known.ensures c.goals_of.ensures
