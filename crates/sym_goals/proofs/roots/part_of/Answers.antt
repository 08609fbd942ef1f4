use Rattle.sym_goals.proofs.Requirements.{part_all, part_some, part_none}
use Rattle.sym_goals.proofs.roots.part_of.Goals as goal

pub returns-in-All : goal.returns-in-All
returns-in-All c = part_all c.args.columns.now c.args.row.now c.args.fold.now c.absent_or.new.fold c.absent_or.result c.args.need.now _ _ c.in-All.is c.absent_or.ensures

pub returns-in-Some : goal.returns-in-Some
returns-in-Some c = part_some c.args.columns.now c.args.row.now c.args.fold.now c.there_and.new.fold c.there_and.result c.args.need.now _ _ c.in-Some.is c.there_and.ensures

pub returns-in-None : goal.returns-in-None
returns-in-None c = part_none c.args.columns.now c.args.row.now c.args.fold.now c.absent.new.fold c.absent.result c.args.need.now _ c.in-None.is c.absent.ensures
