-- what each status says of what was written
use Rattle.std.specs.Prelude.{◌≡◌, ◌⊎◌, ◌≤◌, ℕ, ℤ, List, Ok, Err, length}
use Rattle.cert_check.specs.Reasons.{IsOutcome}
use Rattle.cert_check.specs.Valid.{IsRight, IsValid, NoFaults}
use Rattle.cert_check.specs.declared.fault.Reject.{Reject}
use Rattle.cert_check.specs.declared.fault.CheckFault.TheVariants as wrong
use Rattle.answer_text.specs.Answers.{AnswerText}
use Rattle.answer_text.specs.Text.{answer_bytes}
use Rattle.answer_text.specs.Worlds.{IsWorldOf}
use Rattle.answer_text.specs.declared.answer.Answer.{Answer}
use Rattle.answer_text.specs.declared.answer.PartAnswer.{PartAnswer}
use Rattle.answer_text.specs.declared.answer.Verdict.TheVariants as verdict
use Rattle.answer_text.specs.declared.answer.WorldText.{WorldText}
use Rattle.base_kit.specs.declared.status.Status.{Status}
use Rattle.base_kit.specs.declared.status.Status.TheVariants as status
use Rattle.job_intake.specs.declared.job.Job.{Job}
use Rattle.job_intake.specs.declared.refusal.FileFault.TheVariants as fault
use Rattle.job_intake.specs.declared.refusal.Refusal.{Refusal}
use Rattle.outside_io.specs.Counts.{Rose}
use Rattle.job_intake.specs.Jobs.{Comes}
use Rattle.world_def.specs.Meaning.{IsBest, NoneMeets, score}
use Rattle.world_def.specs.declared.world.World.{World}
use Rattle.world_eval.specs.Evaluating.{IsMeant}
use Rattle.world_eval.specs.declared.evaluation.Evaluation.{Evaluation}
use Rattle.tiresias_core.specs.Causes.{Checks, Evaluating, EvaluatesTo, IsReadFailed, Passes, Solves}
use Rattle.tiresias_core.specs.Lines.{excess_line, file_line, refusal_line, refusal_status}
use Rattle.tiresias_core.specs.Replies.{accepted_line, evaluation_status, evaluation_text, rejected_line}
use Rattle.tiresias_core.specs.Sights.{Run, Writes}
use Rattle.tiresias_core.specs.Solving.{IsSolution}
use Rattle.tiresias_core.specs.Verdicts.{objective_of}
use Rattle.tiresias_core.specs.declared.excess.Excess.{Excess}

-- an answer of at most 512 MiB is read from its text
abbrev pub IsReadable : Answer → Type 0
IsReadable answer = length (answer_bytes answer) ≤ 536870912 → AnswerText answer (answer_bytes answer)

-- the text of an optimal answer: the world of its sections is best, its objective is that world's score, and a check accepts it
pub record WroteBest (run : Run) : Type 0 where
  pub job : Job
  pub nodes : ℕ
  pub solves : Solves run job nodes
  pub answer : Answer
  pub objective : ℤ
  pub worlds : List WorldText
  pub parts : List PartAnswer
  pub verdict : answer.verdict ≡ verdict.Optimal objective worlds parts
  pub solution : IsSolution job.query job.tables job.columns nodes answer
  pub world : World
  pub given : IsWorldOf job.query job.tables worlds world
  pub best : IsBest job.query job.tables world
  pub value : objective ≡ score job.query job.tables world
  pub valid : IsValid job.query job.tables job.columns answer
  pub sound : NoFaults job.query job.tables job.columns answer.verdict
  pub readable : IsReadable answer
  pub text : Writes run (answer_bytes answer)

-- the text of an impossible answer: no possible world meets, and a check accepts it
pub record WroteNone (run : Run) : Type 0 where
  pub job : Job
  pub nodes : ℕ
  pub solves : Solves run job nodes
  pub none : NoneMeets job.query job.tables
  pub answer : Answer
  pub solution : IsSolution job.query job.tables job.columns nodes answer
  pub valid : IsValid job.query job.tables job.columns answer
  pub sound : NoFaults job.query job.tables job.columns answer.verdict
  pub readable : IsReadable answer
  pub text : Writes run (answer_bytes answer)

-- the text of an unfinished answer, which has worked the whole budget
pub record WroteUnfinished (run : Run) : Type 0 where
  pub job : Job
  pub nodes : ℕ
  pub solves : Solves run job nodes
  pub answer : Answer
  pub parts : List PartAnswer
  pub verdict : answer.verdict ≡ verdict.Unfinished nodes parts
  pub solution : IsSolution job.query job.tables job.columns nodes answer
  pub readable : IsReadable answer
  pub text : Writes run (answer_bytes answer)

-- the line of a refusal, which has this status
pub record WroteRefusal (run : Run) (told : Status) : Type 0 where
  pub why : Refusal
  pub status : refusal_status why ≡ told
  pub comes : Comes run.words run.visit (Err why)
  pub text : Writes run (refusal_line why)

-- the line of a file that could not be read; nothing that stands before its fetch is refused
pub record WroteReadFailed (run : Run) : Type 0 where
  pub name : List ℕ
  pub failed : IsReadFailed run name
  pub text : Writes run (file_line name fault.ReadFailed)

-- the line of what passes in a judged world: a value that is too large, or a limit of a view's rows
pub record WroteTooLarge (run : Run) : Type 0 where
  pub job : Job
  pub comes : Comes run.words run.visit (Ok job)
  pub told : Excess
  pub cause : Passes job job.task told
  pub text : Writes run (excess_line told)

-- the line of an answer that is accepted: it is valid, and what it says is right, whoever wrote it
pub record WroteAccepted (run : Run) : Type 0 where
  pub job : Job
  pub answer : Answer
  pub checks : Checks run job answer
  pub valid : IsValid job.query job.tables job.columns answer
  pub right : IsRight job.query job.tables answer.verdict
  pub text : Writes run (accepted_line (objective_of answer.verdict))

-- the line of an answer that is not valid: its first reason, with the part and the node
pub record WroteRejected (run : Run) : Type 0 where
  pub job : Job
  pub answer : Answer
  pub checks : Checks run job answer
  pub reason : Reject
  pub part : ℕ
  pub node : ℕ
  pub first : IsOutcome job.query job.tables job.columns answer (Err (wrong.Rejected reason part node))
  pub text : Writes run (rejected_line reason part node)

-- the text of an evaluation of an answer, which has this status: what it comes to, by the plain meaning
pub record WroteEvaluation (run : Run) (told : Status) : Type 0 where
  pub job : Job
  pub answer : Answer
  pub evaluating : Evaluating run job answer
  pub evaluation : Evaluation
  pub comes : EvaluatesTo job answer (Ok evaluation)
  pub meant : IsMeant job.query job.tables answer.verdict evaluation
  pub status : evaluation_status evaluation ≡ told
  pub text : Writes run (evaluation_text evaluation)

-- what each status says
abbrev pub Says : Run → Status → Type 0
Says run status.Done = WroteBest run ⊎ (WroteAccepted run ⊎ WroteEvaluation run status.Done)
Says run status.Impossible = WroteNone run
Says run status.Unfinished = WroteUnfinished run
Says run status.Rejected = WroteRejected run ⊎ WroteEvaluation run status.Rejected
Says run status.Size = WroteRefusal run status.Size ⊎ WroteTooLarge run
Says run status.Write = Rose run.faults run.faults_now
Says run status.Memory = Unit {0}
Says run other = WroteRefusal run other
