use Rattle.tiql_read.proofs.WordValues.{text_said, says_nothing}
use Rattle.tiql_read.proofs.column.value_of.Goals as goal

pub returns-in-Some : goal.returns-in-Some
returns-in-Some c =
    text_said c.short_text.result c.args.text.now c.in-Some.value.items c.as_slice.result.now (rw c.in-Some.is at c.in_ok-value.ensures.some) c.as_slice.ensures.value c.short_text.ensures

pub returns-in-None : goal.returns-in-None
returns-in-None c = says_nothing c.args.text.now (rw c.in-None.is at c.in_ok-value.ensures.none)
