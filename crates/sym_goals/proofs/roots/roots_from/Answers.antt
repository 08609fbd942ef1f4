use Rattle.sym_goals.proofs.Requirements.{from_all, from_some, from_none}
use Rattle.sym_goals.proofs.roots.roots_from.Goals as goal

pub returns-in-All : goal.returns-in-All
returns-in-All c = from_all c.args.parts c.args.fold.now c.args.fold.now c.args.need.now _ _ c.in-All.is c.requires

pub returns-in-Some : goal.returns-in-Some
returns-in-Some c = from_some c.args.parts c.args.fold.now c.one_of.new.fold c.args.need.now _ _ c.as_slice.result.now c.one_of.result c.in-Some.is c.as_slice.ensures c.one_of.ensures

pub returns-in-None : goal.returns-in-None
returns-in-None c = from_none c.args.parts c.args.fold.now c.args.fold.now c.args.need.now _ c.in-None.is c.requires
