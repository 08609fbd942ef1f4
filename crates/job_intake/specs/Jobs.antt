-- what the words and the files come to: a job, or the first refusal
use Rattle.std.specs.Prelude.{◌≡◌, ℕ, List, length, Some, None, Result, Ok, Err}
use Rattle.tiql_query.specs.declared.query.Query.{Query}
use Rattle.tiql_query.specs.declared.world_column.WorldColumn.{WorldColumn}
use Rattle.world_def.specs.Columns.{Tables}
use Rattle.job_intake.specs.declared.job.Job.{Job}
use Rattle.job_intake.specs.declared.job.Task.{Task}
use Rattle.job_intake.specs.declared.refusal.Refusal.{Refusal}
use Rattle.job_intake.specs.declared.refusal.Refusal.TheVariants as refusal
use Rattle.job_intake.specs.Asking.{AskComes}
use Rattle.job_intake.specs.Bounding.{BoundComes, LimitComes}
use Rattle.job_intake.specs.Files.{FileComes}
use Rattle.job_intake.specs.Loading.{LoadComes}
use Rattle.job_intake.specs.Steps.{Then}
use Rattle.job_intake.specs.Tasks.{TaskComes}
use Rattle.job_intake.specs.Visits.{Visit, after_fetches}
use Rattle.job_intake.specs.Words.{Command, Form, form_of}

-- the job is that of these
abbrev pub JobComes : Query → Tables → List WorldColumn → Task → Unit {0} → Result Job Refusal → Type 0
JobComes query tables columns task x outcome = outcome ≡ Ok (record { query = query; tables = tables; columns = columns; task = task })

-- from the task on: then the number of columns
abbrev pub Finished : Visit → Command → Query → Tables → List WorldColumn → Result Job Refusal → Type 0
Finished v command query tables columns = Then (TaskComes v command) (λ task. Then (LimitComes task columns) (JobComes query tables columns task))

-- from the tables on: a fetch for each, then the bounds, then the task with the fetch behind them
abbrev pub Loaded : Visit → List ℕ → Command → Query → Result Job Refusal → Type 0
Loaded v folder command query = Then (LoadComes v folder query.tables) (λ tables. Then (BoundComes query tables) (Finished (after_fetches (length query.tables) v) command query tables))

-- from the query's file on, which has at most 16 MiB: then the query, then its tables with the fetches behind this one
abbrev pub Opened : Visit → Form → Result Job Refusal → Type 0
Opened v form = Then (FileComes v 16777216 form.0) (λ bytes. Then (AskComes bytes) (Loaded (after_fetches 1 v) form.1 form.2))

-- the words are one of the forms
abbrev pub WordsCome : List (List ℕ) → Result Form Refusal → Type 0
WordsCome words (Ok form) = form_of words ≡ Some form
WordsCome words (Err why) = (why ≡ refusal.Words) × (form_of words ≡ None)

-- the words, the query's file, the query, its tables, the bounds, the task and the number of columns, in this order
abbrev pub Comes : List (List ℕ) → Visit → Result Job Refusal → Type 0
Comes words v = Then (WordsCome words) (Opened v)
