use Rattle.std.proofs.Common.{◌≡◌, ℕ, ap, sym, ◌∙◌, refl}
use Rattle.std.specs.Prelude.{Err}
use Rattle.answer_text.specs.declared.read.AnswerFault.TheVariants as fault
use Rattle.job_intake.proofs.task.read.Goals as goal

not_memory : (line : ℕ) → fault.BadAnswer line ≡ fault.Memory → ⊥
not_memory line e = cc

pub returns-in-Err-BadAnswer : goal.returns-in-Err-BadAnswer
returns-in-Err-BadAnswer c = (
  c.in-Err-BadAnswer.line,
  refl,
  record {
    none = λ answer spelled. not_memory c.in-Err-BadAnswer.line (sym c.in-Err-BadAnswer.field-0-is ∙ c.in-Err-BadAnswer.ensures.only answer spelled);
    at = λ count stop. c.in-Err-BadAnswer.ensures.stop c.in-Err-BadAnswer.line count (ap Err c.in-Err-BadAnswer.field-0-is) stop;
  },
)
