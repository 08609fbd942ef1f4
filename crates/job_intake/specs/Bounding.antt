-- the world columns of a query over its tables, and how many there may be
use Rattle.std.specs.Prelude.{◌≡◌, ◌≢◌, ℕ, pos, nat_lt, int_lt, Bool, List, [], length, count_by, option_map, unwrap_or, slice_get, Result, Ok, Err, if◌then◌else◌}
use Rattle.tiql_query.specs.declared.query.Query.{Query}
use Rattle.tiql_query.specs.declared.world_column.WorldColumn.{WorldColumn}
use Rattle.world_def.specs.declared.fault.BoundsFault.{BoundsFault}
use Rattle.world_def.specs.declared.fault.BoundsFault.TheVariants as faults
use Rattle.world_def.specs.Columns.{Tables, columns_of}
use Rattle.world_points.specs.Points.{least, greatest}
use Rattle.job_intake.specs.declared.job.Task.{Task}
use Rattle.job_intake.specs.declared.job.Task.TheVariants as task
use Rattle.job_intake.specs.declared.refusal.Refusal.{Refusal}
use Rattle.job_intake.specs.declared.refusal.Refusal.TheVariants as refusal

-- the name of the hypothetical table with this number
unfoldable pub hypo_name : Query → ℕ → List ℕ
hypo_name query number = unwrap_or (option_map (λ hypo. hypo.name) (slice_get query.hypos number)) []

-- how a fault of the bounds is refused
abbrev pub refused_bounds : Query → BoundsFault → Refusal
refused_bounds query (faults.EmptyBounds hypo row) = refusal.EmptyBounds (hypo_name query hypo) row
refused_bounds query (faults.Wide hypo number) = refusal.TooWide (hypo_name query hypo) number
refused_bounds query faults.TooManyWorldColumns = refusal.TooManyWorldColumns
refused_bounds query faults.Memory = refusal.TooManyWorldColumns

-- the columns, or the first fault of the bounds
abbrev pub BoundComes : Query → Tables → Result (List WorldColumn) Refusal → Type 0
BoundComes query tables (Ok columns) = columns_of query tables ≡ Ok columns
BoundComes query tables (Err why) = (fault : BoundsFault) × (why ≡ refused_bounds query fault) × (fault ≢ faults.Memory) × (columns_of query tables ≡ Err fault)

-- the column has more than one value: its bounds differ once 0 is between them where its row may be left out
unfoldable pub has_choice : WorldColumn → Bool
has_choice column = if column.droppable then int_lt (least column.lo (pos 0)) (greatest column.hi (pos 0)) else int_lt column.lo column.hi

-- how many columns have more than one value
unfoldable pub unfixed : List WorldColumn → ℕ
unfixed columns = count_by has_choice columns

-- at most 100,000 columns, of which at most 1,024 have more than one value
unfoldable pub limits : List WorldColumn → Result Unit Refusal
limits columns =
    if nat_lt 100000 (length columns) then Err (refusal.TooManyColumns (length columns))
    else if nat_lt 1024 (unfixed columns) then Err (refusal.PartTooLarge (unfixed columns))
    else Ok tt

-- nothing, or the first limit that is passed; an evaluation looks at one world, whatever the columns
abbrev pub LimitComes : Task → List WorldColumn → Result Unit Refusal → Type 0
LimitComes (task.Solve nodes) columns outcome = outcome ≡ limits columns
LimitComes (task.Check answer) columns outcome = outcome ≡ limits columns
LimitComes (task.Evaluate answer) columns outcome = outcome ≡ Ok tt
