use Rattle.std.proofs.Common.{rules}
use Rattle.world_def.proofs.Firsts.{first_wrong, none_wrong}
use Rattle.world_def.proofs.worlds.is_possible.Goals as goal

pub returns-clause-possible : goal.returns-clause-possible
returns-clause-possible c = none_wrong c.args.query.now c.args.tables.now c.args.world.now c.args.columns.now _ (search rules)

pub returns-clause-first : goal.returns-clause-first
returns-clause-first c = first_wrong c.args.query.now c.args.tables.now c.args.world.now c.args.columns.now _ (search rules)
