use Rattle.tiresias_core.proofs.Doing.{small_job}
use Rattle.tiresias_core.proofs.engine.tell_of.Goals as goal

pub evaluate-requires-clause-small : goal.evaluate-requires-clause-small
evaluate-requires-clause-small c = small_job c.args.job.now c.requires.ready
