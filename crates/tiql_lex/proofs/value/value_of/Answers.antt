use Rattle.std.proofs.Common.{arith, sym}
use Rattle.std.proofs.lemmas.Bool.{and_right, cond-false}
use Rattle.tiql_lex.proofs.Digits.{past_most}
use Rattle.tiql_lex.proofs.value.value_of.Goals as goal

pub returns-then-value-gt-MOST_NUMBER : goal.returns-then-value-gt-MOST_NUMBER
returns-then-value-gt-MOST_NUMBER c =
    sym (cond-false _ _ _ (and_right _ _ (past_most c.args.text.now c.loop-byte.byte-index c.loop-byte.value _ (omega arith) (sym c.if-not-is_ascii_digit.ensures.value) c.loop-byte.invariant.1 (omega arith))))
