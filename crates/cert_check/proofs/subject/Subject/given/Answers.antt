use Rattle.std.proofs.Common.{sym, ◌∙◌}
use Rattle.cert_check.proofs.Given.{given_possible, not_given}
use Rattle.cert_check.proofs.subject.Subject.given.Goals as goal

pub returns-then-is_some : goal.returns-then-is_some
returns-then-is_some c = not_given c.args.self.now.query.now c.args.self.now.tables.now c.args.worlds.now c.in-Ok.world c.in-Ok.ensures.world c.is_possible.result (c.is_possible.ensures.possible c.requires.made) c.requires.given (sym c.is_some.ensures ∙ c.if-is_some.true)

pub returns : goal.returns
returns c = (c.in-Ok.ensures.world, given_possible c.args.self.now.query.now c.args.self.now.tables.now c.args.worlds.now c.in-Ok.world c.in-Ok.ensures.world c.is_possible.result (c.is_possible.ensures.possible c.requires.made) (sym c.is_some.ensures ∙ c.if-is_some.false))
