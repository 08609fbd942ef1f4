use Rattle.world_def.proofs.Begun.{none_right}
use Rattle.world_def.proofs.Told.{told_exactly}
use Rattle.world_def.proofs.judge.meets.Goals as goal

pub returns-clause-met : goal.returns-clause-met
returns-clause-met c = told_exactly c.args.query.now c.args.tables.now c.args.world.now c.requires.fit _ c.first_of.ensures.told

pub first_of-requires-clause-made : goal.first_of-requires-clause-made
first_of-requires-clause-made c = none_right c.args.query.now c.args.tables.now c.args.world.now _ c.in_ok-views.ensures
