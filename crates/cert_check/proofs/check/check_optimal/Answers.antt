use Rattle.std.proofs.Common.{subst}
use Rattle.cert_check.specs.Reasons.{Give}
use Rattle.cert_check.proofs.Given.{given_small}
use Rattle.cert_check.proofs.check.check_optimal.Goals as goal

pub check_world-requires-clause-small : goal.check_world-requires-clause-small
check_world-requires-clause-small c =
    given_small c.args.subject.now.query.now c.args.subject.now.tables.now c.args.worlds.now c.in-Some.world c.requires.small
    (subst (Give c.args.subject.now.query.now c.args.subject.now.tables.now c.args.worlds.now) c.in-Some.is c.in_ok-world.ensures).0
