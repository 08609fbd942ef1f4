-- whether a world meets what a query requires, and its score, as they are asked
use Rattle.std.specs.Prelude.{ℕ, ℤ, pos, ◌+◌, ◌≤◌, Bool, true, false, if◌then◌else◌, List, [], ◌∷◌, map, length, Option, Some, None, is_none, Result, Ok, Err, All}
use Rattle.base_kit.specs.Asking.{and_then, all_of}
use Rattle.tiql_query.specs.declared.expression.Expr.{Expr}
use Rattle.tiql_query.specs.declared.condition.Cond.{Cond}
use Rattle.tiql_query.specs.declared.relation.Source.{Source}
use Rattle.tiql_query.specs.declared.aim.Require.{Require}
use Rattle.tiql_query.specs.declared.aim.Require.TheVariants as needs
use Rattle.tiql_query.specs.declared.aim.Aim.{Aim}
use Rattle.tiql_query.specs.declared.aim.Aim.TheVariants as aims
use Rattle.tiql_query.specs.declared.query.Query.{Query}
use Rattle.row_values.specs.declared.fault.Wide.{Wide}
use Rattle.world_def.specs.declared.fault.EvalFault.{EvalFault}
use Rattle.world_def.specs.declared.fault.EvalFault.TheVariants as fault
use Rattle.world_def.specs.declared.world.World.{World}
use Rattle.world_def.specs.declared.judge.Broken.{Broken}
use Rattle.row_values.specs.Values.{total}
use Rattle.row_values.specs.Asked.{asked, truth_asked, within}
use Rattle.world_def.specs.Columns.{Rows, Tables}
use Rattle.world_def.specs.Views.{rows_asked}

-- a value that passes is told with the relation whose condition or goal asked for it
abbrev pub named : {A : Type 0} → Source → Result A Wide → Result A EvalFault
named source (Ok a) = Ok a
named source (Err wide) = Err (fault.Wide source wide.number)

-- the first row that does not meet a condition; this is the number of the first of the rows
unfoldable pub first_broken : Cond → ℕ → Rows → Result (Option ℕ) Wide
first_broken test number [] = Ok None
first_broken test number (row ∷ rows) = and_then (truth_asked (row ∷ []) test) (λ holds. if holds then first_broken test (number + 1) rows else Ok (Some number))

-- whether a row meets a condition; rows are asked up to the first that does
unfoldable pub one_meets : Cond → Rows → Result Bool Wide
one_meets test [] = Ok false
one_meets test (row ∷ rows) = and_then (truth_asked (row ∷ []) test) (λ holds. if holds then Ok true else one_meets test rows)

-- the number of the first row, from 1, where there is one
abbrev pub none_of : Rows → Option ℕ
none_of [] = None
none_of (row ∷ rows) = Some 1

-- the relation that a requirement speaks of
abbrev pub source_of : Require → Source
source_of (needs.All source test) = source
source_of (needs.Some source test) = source
source_of (needs.None source) = source

-- the row at which a requirement is broken, from 1, and 0 where no row meets what one has to
unfoldable pub broken_row : Require → Rows → Result (Option ℕ) Wide
broken_row (needs.All source test) rows = first_broken test 1 rows
broken_row (needs.Some source test) rows = and_then (one_meets test rows) (λ met. Ok (if met then None else Some 0))
broken_row (needs.None source) rows = Ok (none_of rows)

-- a requirement with the row at which it is broken
abbrev pub as_broken : ℕ → Option ℕ → Option Broken
as_broken number None = None
as_broken number (Some row) = Some (record { requirement = number; row = row })

-- the requirement with this number in a world, where it is broken
unfoldable pub broken_at : Query → Tables → World → ℕ → Require → Result (Option Broken) EvalFault
broken_at query tables world number require =
    and_then (rows_asked query tables world (source_of require)) (λ rows. and_then (named (source_of require) (broken_row require rows)) (λ found. Ok (as_broken number found)))

-- a requirement that is broken, or else the first of those behind it
abbrev pub or_else : Option Broken → Result (Option Broken) EvalFault → Result (Option Broken) EvalFault
or_else None later = later
or_else (Some broken) later = Ok (Some broken)

-- the first broken requirement; this is the number of the first of them
unfoldable pub broken_from : Query → Tables → World → ℕ → List Require → Result (Option Broken) EvalFault
broken_from query tables world number [] = Ok None
broken_from query tables world number (require ∷ requires_) =
    and_then (broken_at query tables world number require) (λ found. or_else found (broken_from query tables world (number + 1) requires_))

-- the sum of an expression over rows, which is asked last
unfoldable pub sum_over : Expr → Rows → Result ℤ Wide
sum_over part rows = and_then (all_of (map (λ row. asked (row ∷ []) part) rows)) (λ ns. within (total ns))

-- the score, 0 for FIND
unfoldable pub score_asked : Query → Tables → World → Aim → Result ℤ EvalFault
score_asked query tables world aims.Find = Ok (pos 0)
score_asked query tables world (aims.Sum maximize source part) = and_then (rows_asked query tables world source) (λ rows. named source (sum_over part rows))

-- the score of a world that meets, and none where it does not
unfoldable pub judged : Query → Tables → World → Result (Option ℤ) EvalFault
judged query tables world =
    and_then (broken_from query tables world 1 query.requires_) (λ broken. if is_none broken then and_then (score_asked query tables world query.aim) (λ n. Ok (Some n)) else Ok None)

-- as few rows and requirements as worlds and texts have
pub record IsSmallWorld (tables : Tables) (world : World) : Type 0 where
  pub tables_rows : All (λ rows. length rows ≤ 200000) tables
  pub world_rows : All (λ table. length table.rows ≤ 200000) world.tables
