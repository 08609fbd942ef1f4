-- what a run tells exactly, where the shelf tells which files there are and which fetches fail
use Rattle.std.specs.Prelude.{◌≡◌, ◌≢◌, ℕ, List, [], None, option_map, unwrap_or, Result, Ok, Err}
use Rattle.base_kit.specs.declared.status.Status.{Status}
use Rattle.base_kit.specs.declared.status.Status.TheVariants as status
use Rattle.cert_check.specs.Reasons.{IsOutcome, Outcome}
use Rattle.cert_check.specs.Valid.{IsValid, NoFaults}
use Rattle.cert_check.specs.declared.fault.CheckFault.TheVariants as wrong
use Rattle.answer_text.specs.declared.answer.Answer.{Answer}
use Rattle.job_intake.specs.Jobs.{Comes}
use Rattle.job_intake.specs.Visits.{IsTold}
use Rattle.job_intake.specs.Words.{form_of}
use Rattle.job_intake.specs.declared.job.Job.{Job}
use Rattle.job_intake.specs.declared.refusal.Refusal.{Refusal}
use Rattle.tiql_query.specs.declared.query.Query.{Query}
use Rattle.tiql_query.specs.declared.relation.Source.TheVariants as sources
use Rattle.world_def.specs.Meaning.{NoneMeets}
use Rattle.world_def.specs.declared.fault.EvalFault.{EvalFault}
use Rattle.world_def.specs.declared.fault.EvalFault.TheVariants as eval
use Rattle.world_eval.specs.Evaluating.{Evaluates}
use Rattle.world_eval.specs.declared.evaluation.Evaluation.{Evaluation}
use Rattle.tiresias_core.specs.Causes.{Checks, Evaluating, Solves, excess_of, name_of}
use Rattle.tiresias_core.specs.Lines.{excess_line, refusal_line, refusal_status, rows_line, wide_line}
use Rattle.tiresias_core.specs.Replies.{accepted_line, evaluation_status, evaluation_text, rejected_line}
use Rattle.tiresias_core.specs.Results.{WroteReadFailed}
use Rattle.tiresias_core.specs.Sights.{IsWhole, Run, Writes}
use Rattle.tiresias_core.specs.Solving.{IsEnough, IsTooLarge}
use Rattle.tiresias_core.specs.Verdicts.{objective_of}

-- the line of a world at fault
abbrev pub fault_line : Query → EvalFault → List ℕ
fault_line query fault = unwrap_or (option_map excess_line (excess_of query fault)) []

-- the status of what a check comes to
abbrev pub outcome_status : Outcome → Status
outcome_status (Ok x) = status.Done
outcome_status (Err wrong.Memory) = status.Memory
outcome_status (Err (wrong.Wide source number)) = status.Size
outcome_status (Err (wrong.TooManyRows view limit)) = status.Size
outcome_status (Err (wrong.Rejected reason part node)) = status.Rejected

-- and its line
abbrev pub outcome_line : Query → Answer → Outcome → List ℕ
outcome_line query answer (Ok x) = accepted_line (objective_of answer.verdict)
outcome_line query answer (Err wrong.Memory) = []
outcome_line query answer (Err (wrong.Wide source number)) = wide_line (name_of query source) number
outcome_line query answer (Err (wrong.TooManyRows view limit)) = rows_line (name_of query (sources.View view)) limit
outcome_line query answer (Err (wrong.Rejected reason part node)) = rejected_line reason part node

-- the work was done, whatever it found
abbrev pub IsAnswered : Status → Type 0
IsAnswered status.Done = Unit {0}
IsAnswered status.Impossible = Unit {0}
IsAnswered status.Unfinished = Unit {0}
IsAnswered other = ⊥

-- words that are none of the forms are told, unless a write failed or memory was wanting
abbrev pub TellsWords : Run → Status → Type 0
TellsWords run told = IsWhole told → form_of run.words ≡ None → told ≡ status.Words

-- so is a fetch that failed
abbrev pub TellsReadFailed : Run → Status → Type 0
TellsReadFailed run told = IsWhole told → run.visit.faults_now ≢ run.visit.faults → (told ≡ status.Read) × WroteReadFailed run

-- no write failed, unless that is told
abbrev pub TellsWrite : Run → Status → Type 0
TellsWrite run told = told ≢ status.Write → run.faults_now ≡ run.faults

-- the refusal to which the words and the files come is told
abbrev pub TellsRefusal : Run → Status → Type 0
TellsRefusal run told = IsTold run.visit → IsWhole told → (why : Refusal) → Comes run.words run.visit (Err why) → (told ≡ refusal_status why) × Writes run (refusal_line why)

-- where a job is solved, the first that passes in a world is told: a value that is too large, or a limit of a view's rows
abbrev pub TellsTooLarge : Run → Status → Type 0
TellsTooLarge run told = IsTold run.visit → IsWhole told → (job : Job) → (nodes : ℕ) → Solves run job nodes
    → (fault : EvalFault) → IsTooLarge job.query job.tables job.columns nodes fault → (told ≡ status.Size) × Writes run (fault_line job.query fault)

-- where there is none, the job is answered
abbrev pub TellsAnswer : Run → Status → Type 0
TellsAnswer run told = IsTold run.visit → IsWhole told → (job : Job) → (nodes : ℕ) → Solves run job nodes
    → ((fault : EvalFault) → IsTooLarge job.query job.tables job.columns nodes fault → ⊥) → IsAnswered told

-- where no possible world meets, no optimum is told
abbrev pub TellsNone : Run → Status → Type 0
TellsNone run told = IsTold run.visit → (job : Job) → (nodes : ℕ) → Solves run job nodes → NoneMeets job.query job.tables → told ≢ status.Done

-- with nodes enough the work is finished
abbrev pub TellsFinished : Run → Status → Type 0
TellsFinished run told = IsTold run.visit → (job : Job) → (nodes : ℕ) → Solves run job nodes → IsEnough job.columns nodes → told ≢ status.Unfinished

-- where an answer is checked, what the check comes to is told
abbrev pub TellsOutcome : Run → Status → Type 0
TellsOutcome run told = IsTold run.visit → IsWhole told → (job : Job) → (answer : Answer) → Checks run job answer
    → (outcome : Outcome) → IsOutcome job.query job.tables job.columns answer outcome → (told ≡ outcome_status outcome) × Writes run (outcome_line job.query answer outcome)

-- a valid answer is accepted where no judged world is at fault
abbrev pub TellsAccepted : Run → Status → Type 0
TellsAccepted run told = IsTold run.visit → IsWhole told → (job : Job) → (answer : Answer) → Checks run job answer
    → IsValid job.query job.tables job.columns answer → NoFaults job.query job.tables job.columns answer.verdict → told ≡ status.Done

-- the status of what an evaluation comes to
abbrev pub evaluated_status : Result Evaluation EvalFault → Status
evaluated_status (Ok told) = evaluation_status told
evaluated_status (Err fault) = status.Size

-- and its text
abbrev pub evaluated_text : Query → Result Evaluation EvalFault → List ℕ
evaluated_text query (Ok told) = evaluation_text told
evaluated_text query (Err fault) = fault_line query fault

-- where an answer is evaluated, what the evaluation comes to is told
abbrev pub TellsEvaluation : Run → Status → Type 0
TellsEvaluation run told = IsTold run.visit → IsWhole told → (job : Job) → (answer : Answer) → Evaluating run job answer
    → (outcome : Result Evaluation EvalFault) → outcome ≢ Err eval.Memory → Evaluates job.query job.tables answer.verdict outcome → (told ≡ evaluated_status outcome) × Writes run (evaluated_text job.query outcome)
