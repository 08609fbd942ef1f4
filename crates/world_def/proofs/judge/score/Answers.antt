use Rattle.world_def.proofs.Begun.{none_right}
use Rattle.world_def.proofs.Told.{scored}
use Rattle.world_def.proofs.judge.score.Goals as goal

pub returns-clause-score : goal.returns-clause-score
returns-clause-score c = scored c.args.query.now c.args.tables.now c.args.world.now c.requires.fit _ c.score_for.ensures.value

pub score_for-requires-clause-made : goal.score_for-requires-clause-made
score_for-requires-clause-made c = none_right c.args.query.now c.args.tables.now c.args.world.now _ c.in_ok-views.ensures
