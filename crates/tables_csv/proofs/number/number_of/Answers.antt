use Rattle.tables_csv.proofs.Numerals.{no_text_spells}
use Rattle.tables_csv.proofs.number.number_of.Goals as goal

pub returns-in_default-clause-none : goal.returns-in_default-clause-none
returns-in_default-clause-none c = no_text_spells _ _ _ c.after_spaces.ensures c.before_spaces.ensures c.in_default.ensures.cases.0
