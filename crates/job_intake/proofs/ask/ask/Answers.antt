use Rattle.std.proofs.Common.{arith}
use Rattle.job_intake.proofs.Readied.{asked_result}
use Rattle.job_intake.proofs.ask.ask.Goals as goal

pub returns-clause-asked : goal.returns-clause-asked
returns-clause-asked c = asked_result c.args.bytes.now c.in_ok-tree.tree c.check_tree.result (omega arith) c.in_ok-tree.ensures c.check_tree.ensures.comes
