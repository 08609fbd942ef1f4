use Rattle.std.proofs.Common.{rules}
use Rattle.sym_goals.proofs.Turns.{one_row}
use Rattle.sym_goals.proofs.Requirements.{absent_or_ok, absent_or_stop, absent_or_late}
use Rattle.sym_goals.proofs.roots.absent_or.Goals as goal

pub condition-requires : goal.condition-requires
condition-requires c = one_row c.args.fold.now c.args.row.now c.requires

pub returns-in_err-met : goal.returns-in_err-met
returns-in_err-met c = search (rules, absent_or_stop c.args.columns.now c.args.test.now c.args.row.now c.args.fold.now c.in_err-met.field-0.0 c.condition.new.fold c.in_err-met.ensures)

pub returns-in_err-gone : goal.returns-in_err-gone
returns-in_err-gone c = search (rules, absent_or_late c.args.columns.now c.args.test.now c.args.row.now c.args.fold.now c.in_ok-met.met c.in_err-gone.field-0.0 c.condition.new.fold c.absent.new.fold c.in_ok-met.ensures c.in_err-gone.ensures)

pub returns : goal.returns
returns c = absent_or_ok c.args.columns.now c.args.test.now c.args.row.now c.args.fold.now c.in_ok-met.met c.in_ok-gone.gone c.condition.new.fold c.absent.new.fold c.or.new.fold c.or.result c.in_ok-met.ensures c.in_ok-gone.ensures c.or.ensures
