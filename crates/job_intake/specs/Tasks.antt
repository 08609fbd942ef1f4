-- what is to be done with a query and its tables
use Rattle.std.specs.Prelude.{◌≡◌, ◌≤◌, ℕ, List, Result, Ok, Err}
use Rattle.answer_text.specs.Answers.{AnswerText, IsAnswer, IsStop, line_of}
use Rattle.answer_text.specs.declared.answer.Answer.{Answer}
use Rattle.job_intake.specs.declared.job.Task.{Task}
use Rattle.job_intake.specs.declared.job.Task.TheVariants as task
use Rattle.job_intake.specs.declared.refusal.Refusal.{Refusal}
use Rattle.job_intake.specs.declared.refusal.Refusal.TheVariants as refusal
use Rattle.job_intake.specs.Files.{FileComes}
use Rattle.job_intake.specs.Steps.{Then}
use Rattle.job_intake.specs.Visits.{Visit}
use Rattle.job_intake.specs.Words.{Command, solve, check, evaluate}

-- no answer has the bytes as its text, and this is the line of the first byte with which they begin none
pub record IsUnreadable (bytes : List ℕ) (line : ℕ) : Type 0 where
  pub none : (answer : Answer) → AnswerText answer bytes → ⊥
  pub at : (count : ℕ) → IsStop bytes count → line ≡ line_of bytes count

-- the answer whose text the bytes are
abbrev pub TextComes : List ℕ → Result Answer Refusal → Type 0
TextComes bytes (Ok answer) = AnswerText answer bytes
TextComes bytes (Err why) = (line : ℕ) × (why ≡ refusal.Unreadable line) × IsUnreadable bytes line

-- the answer in the file of this name, which has at most 512 MiB
abbrev pub AnswerComes : Visit → List ℕ → Result Answer Refusal → Type 0
AnswerComes v name = Then (FileComes v 536870912 name) TextComes

-- it is to be checked
abbrev pub CheckComes : Answer → Result Task Refusal → Type 0
CheckComes answer outcome = outcome ≡ Ok (task.Check answer)

-- or evaluated
abbrev pub EvaluateComes : Answer → Result Task Refusal → Type 0
EvaluateComes answer outcome = outcome ≡ Ok (task.Evaluate answer)

-- to solve within so many nodes
abbrev pub SolveComes : ℕ → Result Task Refusal → Type 0
SolveComes nodes outcome = outcome ≡ Ok (task.Solve nodes)

-- the task that the words name
abbrev pub TaskComes : Visit → Command → Result Task Refusal → Type 0
TaskComes v (solve nodes) = SolveComes nodes
TaskComes v (check name) = Then (AnswerComes v name) CheckComes
TaskComes v (evaluate name) = Then (AnswerComes v name) EvaluateComes

-- the nodes are at most as many as may be worked, and an answer is one that some text spells
abbrev pub IsTaken : Task → Type 0
IsTaken (task.Solve nodes) = nodes ≤ 100000
IsTaken (task.Check answer) = IsAnswer answer
IsTaken (task.Evaluate answer) = IsAnswer answer
