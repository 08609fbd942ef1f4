use Rattle.answer_text.proofs.world.rows_of.Goals as goal

pub returns-in_default : goal.returns-in_default
returns-in_default c = λ it is. c.in-Err.ensures.no_table c.in_default.not-Memory it is
