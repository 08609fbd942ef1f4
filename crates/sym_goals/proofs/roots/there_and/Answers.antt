use Rattle.std.proofs.Common.{rules}
use Rattle.sym_goals.proofs.Turns.{one_row}
use Rattle.sym_goals.proofs.Requirements.{there_and_ok, there_and_stop}
use Rattle.sym_goals.proofs.roots.there_and.Goals as goal

pub condition-requires : goal.condition-requires
condition-requires c = one_row c.args.fold.now c.args.row.now c.requires

pub returns-in_err-met : goal.returns-in_err-met
returns-in_err-met c = search (rules, there_and_stop c.args.columns.now c.args.test.now c.args.row.now c.args.fold.now c.in_err-met.field-0.0 c.condition.new.fold c.in_err-met.ensures)

pub returns : goal.returns
returns c = there_and_ok c.args.columns.now c.args.test.now c.args.row.now c.args.fold.now c.in_ok-met.met c.condition.new.fold c.and.new.fold c.and.result c.in_ok-met.ensures c.and.ensures
