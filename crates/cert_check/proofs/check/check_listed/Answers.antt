use Rattle.cert_check.proofs.Accepted.{told_valid, told_accepted, told_right}
use Rattle.cert_check.proofs.check.check_listed.Goals as goal

pub returns-clause-valid : goal.returns-clause-valid
returns-clause-valid c = told_valid c.args.query.now c.args.tables.now c.args.columns.now c.requires.made c.requires.fit c.requires.tables c.args.answer.now c.check_answer.result c.check_answer.ensures

pub returns-clause-accepted : goal.returns-clause-accepted
returns-clause-accepted c = told_accepted c.args.query.now c.args.tables.now c.args.columns.now c.requires.made c.requires.fit c.requires.tables c.args.answer.now c.check_answer.result c.check_answer.ensures

pub returns-clause-right : goal.returns-clause-right
returns-clause-right c = told_right c.args.query.now c.args.tables.now c.args.columns.now c.requires.made c.requires.fit c.requires.tables c.args.answer.now c.check_answer.result c.check_answer.ensures
