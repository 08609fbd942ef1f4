use Rattle.std.proofs.Common.{rules}
use Rattle.sym_goals.proofs.Requirements.{roots_ok, roots_stop}
use Rattle.sym_goals.proofs.roots.roots_of.Goals as goal

pub returns-in_err-parts : goal.returns-in_err-parts
returns-in_err-parts c = search (rules, roots_stop c.args.columns.now c.args.need.now c.args.rows.now c.args.fold.now c.parts_of.new.fold c.in_err-parts.field-0.0 c.in_err-parts.ensures)

pub returns : goal.returns
returns c = roots_ok c.args.columns.now c.args.need.now c.args.rows.now c.args.fold.now c.parts_of.new.fold c.in_ok-parts.parts c.roots_from.new.fold c.roots_from.result c.in_ok-parts.ensures c.roots_from.ensures
