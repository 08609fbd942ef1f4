use Rattle.std.proofs.Common.{rules}
use Rattle.sym_query.proofs.Needs.{known_kept, goals_stop, goals_late, goals_ok}
use Rattle.sym_query.proofs.goals.goals_of.Goals as goal

pub returns-in_err-roots : goal.returns-in_err-roots
returns-in_err-roots c = search (rules, goals_stop c.args.query.now c.args.known.now c.args.fold.now c.roots_of_all.new.fold c.in_err-roots.field-0.0 c.in_err-roots.ensures)

pub aim_of_query-requires-clause-known : goal.aim_of_query-requires-clause-known
aim_of_query-requires-clause-known c = known_kept c.args.query.now c.args.known.now c.args.fold.now c.roots_of_all.new.fold c.in_ok-roots.ensures.kept c.requires.known

pub returns-in_err-aim : goal.returns-in_err-aim
returns-in_err-aim c = search (rules, goals_late c.args.query.now c.args.known.now c.args.fold.now c.roots_of_all.new.fold c.in_ok-roots.roots c.aim_of_query.new.fold c.in_ok-roots.ensures c.in_err-aim.field-0.0 c.in_err-aim.ensures)

pub returns : goal.returns
returns c = goals_ok c.args.query.now c.args.known.now c.args.fold.now c.roots_of_all.new.fold c.in_ok-roots.roots c.aim_of_query.new.fold c.in_ok-roots.ensures c.in_ok-aim.aim c.in_ok-aim.ensures
