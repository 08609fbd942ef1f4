-- why each reply comes
use Rattle.std.specs.Prelude.{◌≡◌, ◌⊎◌, ℕ, List, [], Option, Some, None, option_map, unwrap_or, slice_get, Result, Ok, Err}
use Rattle.cert_check.specs.Reasons.{IsOutcome}
use Rattle.cert_check.specs.Faults.{as_told}
use Rattle.cert_check.specs.declared.fault.CheckFault.TheVariants as wrong
use Rattle.answer_text.specs.declared.answer.Answer.{Answer}
use Rattle.job_intake.specs.declared.job.Job.{Job}
use Rattle.job_intake.specs.declared.job.Task.{Task}
use Rattle.job_intake.specs.declared.job.Task.TheVariants as task
use Rattle.job_intake.specs.declared.refusal.Refusal.TheVariants as refusal
use Rattle.job_intake.specs.declared.refusal.FileFault.TheVariants as fault
use Rattle.job_intake.specs.Jobs.{Comes}
use Rattle.job_intake.specs.Visits.{Visit}
use Rattle.tiql_query.specs.declared.query.Query.{Query}
use Rattle.tiql_query.specs.declared.relation.Source.{Source}
use Rattle.tiql_query.specs.declared.relation.Source.TheVariants as sources
use Rattle.world_def.specs.declared.fault.EvalFault.{EvalFault}
use Rattle.world_def.specs.declared.fault.EvalFault.TheVariants as eval
use Rattle.world_eval.specs.Evaluating.{Evaluates, EvaluatesEach, IsMeant}
use Rattle.world_eval.specs.declared.evaluation.Evaluation.{Evaluation}
use Rattle.tiresias_core.specs.Sights.{Run}
use Rattle.tiresias_core.specs.Solving.{IsSolution, IsTooLarge}
use Rattle.tiresias_core.specs.Verdicts.{objective_of}
use Rattle.tiresias_core.specs.declared.excess.Excess.{Excess}
use Rattle.tiresias_core.specs.declared.excess.Excess.TheVariants as excess
use Rattle.tiresias_core.specs.declared.reply.Reply.{Reply}
use Rattle.tiresias_core.specs.declared.reply.Reply.TheVariants as reply

-- the name of a relation
unfoldable pub name_of : Query → Source → List ℕ
name_of query (sources.Table n) = unwrap_or (option_map (λ table. table.name) (slice_get query.tables n)) []
name_of query (sources.Hypo n) = unwrap_or (option_map (λ hypo. hypo.name) (slice_get query.hypos n)) []
name_of query (sources.View n) = unwrap_or (option_map (λ view. view.name) (slice_get query.views n)) []

-- the words and the files come to this job, which is to be solved within so many nodes
pub record Solves (run : Run) (job : Job) (nodes : ℕ) : Type 0 where
  pub comes : Comes run.words run.visit (Ok job)
  pub task : job.task ≡ task.Solve nodes

-- or of which this answer is to be checked
pub record Checks (run : Run) (job : Job) (answer : Answer) : Type 0 where
  pub comes : Comes run.words run.visit (Ok job)
  pub task : job.task ≡ task.Check answer

-- or of which this answer is to be evaluated
pub record Evaluating (run : Run) (job : Job) (answer : Answer) : Type 0 where
  pub comes : Comes run.words run.visit (Ok job)
  pub task : job.task ≡ task.Evaluate answer

-- what is told of a world at fault: a value that is too large with the name of its relation, or a limit of rows with that of its view
abbrev pub excess_of : Query → EvalFault → Option Excess
excess_of query (eval.Wide source number) = Some (excess.Value (name_of query source) number)
excess_of query (eval.TooManyRows view limit) = Some (excess.Rows (name_of query (sources.View view)) limit)
excess_of query eval.Memory = None

-- this passes: the first in solving
abbrev pub PassesSolved : Job → ℕ → Excess → Type 0
PassesSolved job nodes told = (fault : EvalFault) × IsTooLarge job.query job.tables job.columns nodes fault × (excess_of job.query fault ≡ Some told)

-- or in checking the answer
abbrev pub PassesChecked : Job → Answer → Excess → Type 0
PassesChecked job answer told = (fault : EvalFault) × IsOutcome job.query job.tables job.columns answer (Err (as_told fault)) × (excess_of job.query fault ≡ Some told)

-- this is what an evaluation of the answer comes to, and all that it comes to
pub record EvaluatesTo (job : Job) (answer : Answer) (outcome : Result Evaluation EvalFault) : Type 0 where
  pub comes : Evaluates job.query job.tables answer.verdict outcome
  pub each : EvaluatesEach job.query job.tables answer.verdict outcome

-- or in evaluating the answer
abbrev pub PassesEvaluated : Job → Answer → Excess → Type 0
PassesEvaluated job answer told = (fault : EvalFault) × EvaluatesTo job answer (Err fault) × (excess_of job.query fault ≡ Some told)

-- or in doing what is to be done
abbrev pub Passes : Job → Task → Excess → Type 0
Passes job (task.Solve nodes) told = PassesSolved job nodes told
Passes job (task.Check answer) told = PassesChecked job answer told
Passes job (task.Evaluate answer) told = PassesEvaluated job answer told

-- what is answered to a job that is solved within so many nodes
abbrev pub IsSolved : Job → ℕ → Reply → Type 0
IsSolved job nodes (reply.Refused why) = ⊥
IsSolved job nodes (reply.Answered answer) = IsSolution job.query job.tables job.columns nodes answer
IsSolved job nodes (reply.TooLarge told) = PassesSolved job nodes told
IsSolved job nodes (reply.Accepted objective) = ⊥
IsSolved job nodes (reply.Rejected reason part node) = ⊥
IsSolved job nodes (reply.Evaluated told) = ⊥

-- and to one whose answer is checked
abbrev pub IsChecked : Job → Answer → Reply → Type 0
IsChecked job answer (reply.Refused why) = ⊥
IsChecked job answer (reply.Answered other) = ⊥
IsChecked job answer (reply.TooLarge told) = PassesChecked job answer told
IsChecked job answer (reply.Accepted objective) = IsOutcome job.query job.tables job.columns answer (Ok tt) × (objective ≡ objective_of answer.verdict)
IsChecked job answer (reply.Rejected reason part node) = IsOutcome job.query job.tables job.columns answer (Err (wrong.Rejected reason part node))
IsChecked job answer (reply.Evaluated told) = ⊥

-- and to one whose answer is evaluated
abbrev pub IsEvaluated : Job → Answer → Reply → Type 0
IsEvaluated job answer (reply.Refused why) = ⊥
IsEvaluated job answer (reply.Answered other) = ⊥
IsEvaluated job answer (reply.TooLarge told) = PassesEvaluated job answer told
IsEvaluated job answer (reply.Accepted objective) = ⊥
IsEvaluated job answer (reply.Rejected reason part node) = ⊥
IsEvaluated job answer (reply.Evaluated told) = EvaluatesTo job answer (Ok told) × IsMeant job.query job.tables answer.verdict told

-- and to each
abbrev pub IsDoneFor : Job → Task → Reply → Type 0
IsDoneFor job (task.Solve nodes) = IsSolved job nodes
IsDoneFor job (task.Check answer) = IsChecked job answer
IsDoneFor job (task.Evaluate answer) = IsEvaluated job answer

-- a job is done
abbrev pub IsDone : Job → Reply → Type 0
IsDone job = IsDoneFor job job.task

-- why each reply comes, with all that stands before it
abbrev pub IsReply : List (List ℕ) → Visit → Reply → Type 0
IsReply words v (reply.Refused why) = Comes words v (Err why)
IsReply words v other = (job : Job) × Comes words v (Ok job) × IsDone job other

-- a file could not be read, and nothing before its fetch is refused
abbrev pub IsReadFailed : Run → List ℕ → Type 0
IsReadFailed run name = Comes run.words run.visit (Err (refusal.File name fault.ReadFailed))

-- no fetch failed, unless the reply tells it
abbrev pub KeepsFaults : Reply → ℕ → ℕ → Type 0
KeepsFaults (reply.Refused why) before now = ((name : List ℕ) × (why ≡ refusal.File name fault.ReadFailed)) ⊎ (now ≡ before)
KeepsFaults other before now = now ≡ before
