use Rattle.answer_text.proofs.Names.{name_of-no_text}
use Rattle.answer_text.proofs.tokens.name_of.Goals as goal

pub returns-in_default : goal.returns-in_default
returns-in_default c = name_of-no_text c.args.text.now c.in_default.ensures.cases.0
