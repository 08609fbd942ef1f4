use Rattle.std.proofs.Common.{rules}
use Rattle.world_def.proofs.Numbered.{gathered_told}
use Rattle.world_def.proofs.numbers.numbers_of.Goals as goal

pub returns-clause-numbers : goal.returns-clause-numbers
returns-clause-numbers c = gathered_told c.args.query.now c.args.tables.now c.args.columns.now c.args.world.now _ (search rules)
