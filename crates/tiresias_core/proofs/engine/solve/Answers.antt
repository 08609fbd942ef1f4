use Rattle.tiresias_core.proofs.Doing.{small_job}
use Rattle.tiresias_core.proofs.engine.solve.Goals as goal

pub answer_listed-requires-clause-small : goal.answer_listed-requires-clause-small
answer_listed-requires-clause-small c = small_job c.args.job.now c.requires.ready
