use Rattle.std.proofs.Common.{arith, sym, ◌∙◌}
use Rattle.answer_text.proofs.Numbers.{number_of-no_numeral, number_of-numeral, number_of-above, numeral_digits}
use Rattle.answer_text.proofs.tokens.number_of.Goals as goal

pub returns-then-not-is_numeral-clause-value : goal.returns-then-not-is_numeral-clause-value
returns-then-not-is_numeral-clause-value c = number_of-no_numeral c.args.limit c.args.text.now c.requires (sym c.if-not-is_numeral.ensures)

pub value_of-requires : goal.value_of-requires
value_of-requires c = numeral_digits c.args.text.now (sym c.if-not-is_numeral.ensures)

pub returns-in_err-value-clause-value : goal.returns-in_err-value-clause-value
returns-in_err-value-clause-value c =
    c.from_residual.ensures ∙ number_of-above c.args.limit c.args.text.now (omega (arith, c.in_err-value.ensures, c.requires))

pub returns-then-value-limit-clause-value : goal.returns-then-value-limit-clause-value
returns-then-value-limit-clause-value c =
    number_of-numeral c.args.limit c.args.text.now c.in_ok-value.value c.requires (sym c.if-not-is_numeral.ensures) c.in_ok-value.ensures.1 c.if-value-limit.true

pub returns-else-value-limit-clause-value : goal.returns-else-value-limit-clause-value
returns-else-value-limit-clause-value c =
    number_of-above c.args.limit c.args.text.now (omega (arith, c.if-value-limit.false, c.in_ok-value.ensures.1))
