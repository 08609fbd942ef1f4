use Rattle.world_def.proofs.Choices.{chosen}
use Rattle.world_def.proofs.columns.world_columns.Goals as goal

pub returns-clause-choices : goal.returns-clause-choices
returns-clause-choices c = chosen c.args.query.now c.args.tables.now _ c.all_columns.ensures
