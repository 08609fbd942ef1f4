-- what every job that is taken meets
use Rattle.std.specs.Prelude.{◌≡◌, ◌≤◌, ◌<◌, All, List, length, Ok}
use Rattle.tiql_query.specs.declared.world_column.WorldColumn.{WorldColumn}
use Rattle.tiql_query.specs.Rows.{AreTables}
use Rattle.world_def.specs.Columns.{columns_of}
use Rattle.job_intake.specs.declared.job.Job.{Job}
use Rattle.job_intake.specs.declared.job.Task.{Task}
use Rattle.job_intake.specs.declared.job.Task.TheVariants as task
use Rattle.job_intake.specs.Asking.{IsAsked}
use Rattle.job_intake.specs.Tasks.{IsTaken}

-- there are at most 100,000 columns, unless one world alone is looked at
abbrev pub IsFew : Task → List WorldColumn → Type 0
IsFew (task.Solve nodes) columns = length columns ≤ 100000
IsFew (task.Check answer) columns = length columns ≤ 100000
IsFew (task.Evaluate answer) columns = Unit {0}

-- the query fits together, the tables are its tables, the columns are theirs, and the nodes may be worked
pub record IsReady (job : Job) : Type 0 where
  pub asked : IsAsked job.query
  pub tables : AreTables job.query job.tables
  pub columns : columns_of job.query job.tables ≡ Ok job.columns
  pub wide : All (λ table. 0 < length table.columns) job.query.tables
  pub few : IsFew job.task job.columns
  pub taken : IsTaken job.task
