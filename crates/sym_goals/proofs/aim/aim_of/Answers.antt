use Rattle.std.proofs.Common.{rules}
use Rattle.sym_goals.proofs.Objective.{aim_ok, aim_stop}
use Rattle.sym_goals.proofs.aim.aim_of.Goals as goal

pub returns-in_err-made : goal.returns-in_err-made
returns-in_err-made c = search (rules, aim_stop c.args.columns.now c.args.part.now c.args.rows.now c.args.fold.now c.shares_of.new.fold c.in_err-made.field-0.0 c.in_err-made.ensures)

pub returns : goal.returns
returns c = aim_ok c.args.columns.now c.args.part.now c.args.rows.now c.args.fold.now c.shares_of.new.fold c.in_ok-made.made.items c.as_slice.result.now c.total.new.fold c.total.result c.as_slice.ensures.value c.in_ok-made.ensures c.total.ensures
