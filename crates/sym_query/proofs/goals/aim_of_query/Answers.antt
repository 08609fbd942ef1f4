use Rattle.std.proofs.Common.{rules}
use Rattle.sym_query.proofs.Needs.{aim_find, aim_sum, aim_err}
use Rattle.sym_query.proofs.goals.aim_of_query.Goals as goal

pub returns-in-Find : goal.returns-in-Find
returns-in-Find c = aim_find c.args.query.now c.args.known.now c.args.fold.now c.args.fold.now c.args.query.now.aim c.requires.fit.aim c.in-Find.is

pub returns-in_err-id-in-Sum : goal.returns-in_err-id-in-Sum
returns-in_err-id-in-Sum c =
    search (rules, aim_err c.args.query.now c.args.known.now c.args.fold.now c.sum_of.new.fold c.args.query.now.aim c.requires.fit.aim c.in-Sum.maximize c.in-Sum.source c.in-Sum.part c.in-Sum.is c.in_err-id-in-Sum.field-0.0 c.in_err-id-in-Sum.ensures)

pub returns-in_ok-id-in-Sum : goal.returns-in_ok-id-in-Sum
returns-in_ok-id-in-Sum c =
    aim_sum c.args.query.now c.args.known.now c.args.fold.now c.sum_of.new.fold c.args.query.now.aim c.requires.fit.aim c.in-Sum.maximize c.in-Sum.source c.in-Sum.part c.in-Sum.is c.in_ok-id-in-Sum.id c.in_ok-id-in-Sum.ensures
