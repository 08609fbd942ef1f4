-- What is built for a query over its tables, or the first refusal.
use Rattle.std.specs.Prelude.{◌≡◌, ℕ, List, Option, Some, None, Ok, Err}
use Rattle.tiql_query.specs.declared.aim.Aim.{Aim}
use Rattle.tiql_query.specs.declared.aim.Aim.TheVariants as aims
use Rattle.tiql_query.specs.declared.query.Query.{Query}
use Rattle.tiql_query.specs.declared.world_column.WorldColumn.{WorldColumn}
use Rattle.world_def.specs.Columns.{Tables}
use Rattle.prov_fold.specs.Graphs.{Graph}
use Rattle.used_columns.specs.declared.fault.ColumnsFault.TheVariants as columns_fault
use Rattle.sym_query.specs.declared.fault.QueryFault.{QueryFault}
use Rattle.sym_query.specs.declared.fault.QueryFault.TheVariants as walk
use Rattle.sym_query.specs.declared.goals.Goals.{Goals}
use Rattle.sym_query.specs.Walks.{query_walk}
use Rattle.walk_choices.specs.Choices.{start}
use Rattle.program_rows.specs.declared.fault.ProgramFault.{ProgramFault}
use Rattle.program_rows.specs.declared.fault.ProgramFault.TheVariants as rows
use Rattle.program_rows.specs.declared.goal.Goal.{Goal}
use Rattle.program_rows.specs.Programs.{IsLayoutOf, IsProgramOf, IsTooLarge}
use Rattle.agg_encode.specs.declared.fault.BuildFault.{BuildFault}
use Rattle.agg_encode.specs.declared.fault.BuildFault.TheVariants as fault
use Rattle.agg_encode.specs.declared.built.Built.{Built}

-- what is minimized: the number of the objective, with the other sign under MAXIMIZE, and nothing of FIND
abbrev pub goal_of : Aim → Option ℕ → Option Goal
goal_of aim None = None
goal_of aims.Find (Some number) = None
goal_of (aims.Sum maximize source part) (Some number) = Some (record { number = number; maximize = maximize })

-- what stopped the walk, or the making of the program
abbrev pub of_walk : QueryFault → BuildFault
of_walk (walk.Wide source number) = fault.Wide source number
of_walk (walk.TooManyRows view limit) = fault.TooManyRows view limit
of_walk walk.Full = fault.TooManyFormulas
of_walk walk.Memory = fault.Memory

abbrev pub of_program : ProgramFault → BuildFault
of_program (rows.TooManyColumns count) = fault.TooManyColumns count
of_program rows.TooLarge = fault.TooLargeProgram
of_program rows.Memory = fault.Memory

module _ (query : Query) (tables : Tables) (columns : List WorldColumn) where
  -- the list is that of the whole walk, and the program is the one for what the walk came to
  pub record IsBuilt (built : Built) : Type 0 where
    pub goals : Goals
    pub walked : query_walk query tables columns start ≡ Ok (goals, built.fold)
    pub program : IsProgramOf columns built.fold goals.roots (goal_of query.aim goals.aim) built.program built.map.stands

  -- the walk stops with this
  abbrev pub Stops : QueryFault → Type 0
  Stops told = (g : Graph) × (query_walk query tables columns start ≡ Err (told, g))

  -- the walk comes to its end, but there would be so many columns
  pub record HasTooMany (count : ℕ) : Type 0 where
    pub goals : Goals
    pub list : Graph
    pub walked : query_walk query tables columns start ≡ Ok (goals, list)
    pub layout : IsLayoutOf columns list goals.roots (goal_of query.aim goals.aim) (Err (columns_fault.TooManyColumns count))

  -- the walk comes to its end, and there are the columns, but the rows would be too many
  pub record IsLarge : Type 0 where
    pub goals : Goals
    pub list : Graph
    pub walked : query_walk query tables columns start ≡ Ok (goals, list)
    pub rows : IsTooLarge columns list goals.roots (goal_of query.aim goals.aim)

  -- what each fault says: the first refusal in the walk, then of the columns, then of the size
  abbrev pub TellsFault : BuildFault → Type 0
  TellsFault (fault.Wide source number) = Stops (walk.Wide source number)
  TellsFault (fault.TooManyRows view limit) = Stops (walk.TooManyRows view limit)
  TellsFault fault.TooManyFormulas = Stops walk.Full
  TellsFault (fault.TooManyColumns count) = HasTooMany count
  TellsFault fault.TooLargeProgram = IsLarge
  TellsFault fault.Memory = Unit {0}
