use Rattle.std.proofs.Common.{arith}
use Rattle.sym_values.proofs.Numbering.{few_factors, summands, sum_so}
use Rattle.sym_goals.proofs.aim.total.Goals as goal

pub sum-requires-clause-factors : goal.sum-requires-clause-factors
sum-requires-clause-factors c = let few = few_factors c.args.fold.now c.args.made.now c.requires in let most = c.if-made-gt-MOST_ROWS.false in omega (arith, few, most)

pub sum-requires-clause-parts : goal.sum-requires-clause-parts
sum-requires-clause-parts c = summands c.args.fold.now c.args.made.now c.requires

pub returns : goal.returns
returns c = sum_so c.args.made.now c.args.fold.now c.sum.new.fold c.sum.result c.sum.ensures
