use Rattle.std.proofs.Common.{ℕ, ◌≡◌}
use Rattle.std.specs.Prelude.{Result, Err}
use Rattle.answer_text.specs.declared.answer.Answer.{Answer}
use Rattle.answer_text.specs.declared.read.AnswerFault.{AnswerFault}
use Rattle.answer_text.specs.declared.read.AnswerFault.TheVariants as fault
use Rattle.answer_text.proofs.AnswerTexts.{whole_takes, whole_none, whole_line, whole_stop-within, one_answer}
use Rattle.answer_text.proofs.read.read_answer.Goals as goal

pub slice_bounds-line_behind-count : goal.slice_bounds-line_behind-count
slice_bounds-line_behind-count c =
    whole_stop-within c.args.bytes.now c.in-Err-Bad.left (rw c.in-Err-Bad.field-0-is at c.in-Err-Bad.ensures)

pub returns-in-Ok-clause-text : goal.returns-in-Ok-clause-text
returns-in-Ok-clause-text c = whole_takes c.args.bytes.now c.in-Ok.answer c.in-Ok.ensures

pub returns-in-Ok-clause-only : goal.returns-in-Ok-clause-only
returns-in-Ok-clause-only c = λ answer text. one_answer c.in-Ok.answer answer c.args.bytes.now (whole_takes c.args.bytes.now c.in-Ok.answer c.in-Ok.ensures) text

pub returns-in-Err-Bad-clause-only : goal.returns-in-Err-Bad-clause-only
returns-in-Err-Bad-clause-only c = λ answer text. absurd (whole_none c.args.bytes.now c.in-Err-Bad.left answer (rw c.in-Err-Bad.field-0-is at c.in-Err-Bad.ensures) text)

same_line : (one other : ℕ) → ◌≡◌ {A = Result Answer AnswerFault} (Err (fault.BadAnswer one)) (Err (fault.BadAnswer other)) → other ≡ one
same_line one other e = cc

pub returns-in-Err-Bad-clause-stop : goal.returns-in-Err-Bad-clause-stop
returns-in-Err-Bad-clause-stop c = λ line count same stop.
    whole_line c.args.bytes.now c.in-Err-Bad.left c.line_behind.result line count (rw c.in-Err-Bad.field-0-is at c.in-Err-Bad.ensures) c.line_behind.ensures (same_line c.line_behind.result line same) stop
