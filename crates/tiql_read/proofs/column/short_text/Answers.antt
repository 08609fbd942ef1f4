use Rattle.tiql_read.proofs.WordValues.{not_utf8, made_text, no_fault}
use Rattle.tiql_read.proofs.column.short_text.Goals as goal

pub returns-in_default : goal.returns-in_default
returns-in_default c = not_utf8 c.args.value.now c.in_default.ensures.cases.0

pub returns-in-Ok-new : goal.returns-in-Ok-new
returns-in-Ok-new c =
    made_text c.in-Ok-new.value c.in-Ok.value.now c.args.value.now c.in-Ok-new.ensures.value c.in-Ok.ensures.cases.0 c.in-Ok.ensures.cases.1 (λ lt. no_fault _ _ (c.in-Ok-new.ensures.too_long.1 lt))
