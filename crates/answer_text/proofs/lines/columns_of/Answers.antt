use Rattle.answer_text.proofs.Columns.{columns_of-empty, columns_of-strip, columns_of-none}
use Rattle.answer_text.proofs.lines.columns_of.Goals as goal

pub returns-then-is_empty : goal.returns-then-is_empty
returns-then-is_empty c = columns_of-empty c.args.text.now _ c.if-is_empty.ensures c.new.ensures

pub returns-in-Some : goal.returns-in-Some
returns-in-Some c = rw (columns_of-strip c.args.text.now _ c.in-Some.ensures) c.columns_from.ensures

pub returns-in-None : goal.returns-in-None
returns-in-None c = columns_of-none c.args.text.now c.if-is_empty.ensures c.in-None.ensures
