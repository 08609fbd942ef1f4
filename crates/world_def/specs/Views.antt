-- the rows of relations as they are asked: before a relation the views on which it rests, in declared order
use Rattle.std.specs.Prelude.{◌≡◌, ◌≢◌, ℕ, zero, suc, ◌+◌, ◌==◌, nat_lt, Bool, if◌then◌else◌, List, [], ◌∷◌, ◌++◌, length, map, flat_map, unwrap_or, slice_get, option_map, Result, Ok, Err}
use Rattle.std.specs.List.{list_any}
use Rattle.base_kit.specs.Asking.{and_then}
use Rattle.tiql_query.specs.declared.relation.Source.{Source}
use Rattle.tiql_query.specs.declared.relation.Source.TheVariants as sources
use Rattle.tiql_query.specs.declared.view.Select.{Select}
use Rattle.tiql_query.specs.declared.view.QView.{QView}
use Rattle.tiql_query.specs.declared.query.Query.{Query}
use Rattle.tiql_query.specs.WellFormed.{scope_of}
use Rattle.view_select.specs.declared.fault.ViewFault.{ViewFault}
use Rattle.view_select.specs.declared.fault.ViewFault.TheVariants as made
use Rattle.view_select.specs.Asking.{over, select_asked}
use Rattle.world_def.specs.declared.fault.EvalFault.{EvalFault}
use Rattle.world_def.specs.declared.fault.EvalFault.TheVariants as fault
use Rattle.world_def.specs.declared.world.World.{World}
use Rattle.world_def.specs.Columns.{Rows, Tables, rows_of}
use Rattle.world_def.specs.Relations.{rows_over}

-- this is what the asking comes to, unless memory is wanting
abbrev pub Gives : {A : Type 0} → Result A EvalFault → Result A EvalFault → Type 0
Gives outcome (Ok a) = outcome ≡ Ok a
Gives outcome (Err e) = e ≢ fault.Memory → outcome ≡ Err e

-- a fault of a select, told with the view
abbrev pub at_view : {A : Type 0} → ℕ → Result A ViewFault → Result A EvalFault
at_view n (Ok a) = Ok a
at_view n (Err (made.Wide number)) = Err (fault.Wide (sources.View n) number)
at_view n (Err (made.TooManyRows limit)) = Err (fault.TooManyRows n limit)
at_view n (Err made.Memory) = Err fault.Memory

-- the rows of one more select of the view with this number; a view has at most 200,000 rows
unfoldable pub select_more : Query → Tables → World → List Rows → ℕ → Select → Rows → Result Rows EvalFault
select_more query tables world views n select so_far =
    and_then (at_view n (select_asked (scope_of query select) select (map (rows_over tables world views) select.sources)))
    (λ rows. if nat_lt 200000 (length (so_far ++ rows)) then Err (fault.TooManyRows n 200000) else Ok (so_far ++ rows))

-- the rows of the view with this number, over the rows of the views before it
unfoldable pub view_asked : Query → Tables → World → List Rows → ℕ → QView → Result Rows EvalFault
view_asked query tables world views n view = over (select_more query tables world views n) view.arms []

-- the rows that a view came to, none where it came to a fault
abbrev pub rows_made : Result Rows EvalFault → Rows
rows_made (Ok rows) = rows
rows_made (Err e) = []

-- what views come to, each over the rows of those before it
unfoldable pub outcomes_from : Query → Tables → World → List (Result Rows EvalFault) → List QView → List (Result Rows EvalFault)
outcomes_from query tables world so_far [] = so_far
outcomes_from query tables world so_far (view ∷ views) =
    outcomes_from query tables world (so_far ++ view_asked query tables world (map rows_made so_far) (length so_far) view ∷ []) views

-- what the view with this number comes to; one that is not there has no rows
unfoldable pub outcome_at : Query → Tables → World → ℕ → Result Rows EvalFault
outcome_at query tables world n = unwrap_or (slice_get (outcomes_from query tables world [] query.views) n) (Ok [])

-- the views among sources
unfoldable pub views_among : List Source → List ℕ
views_among [] = []
views_among (sources.Table n ∷ others) = views_among others
views_among (sources.Hypo n ∷ others) = views_among others
views_among (sources.View n ∷ others) = n ∷ views_among others

-- the views that a view reads
abbrev pub reads : QView → List ℕ
reads view = flat_map (λ select. views_among select.sources) view.arms

-- the views that the view with this number reads
unfoldable pub reads_at : List QView → ℕ → List ℕ
reads_at views n = unwrap_or (option_map reads (slice_get views n)) []

-- whether a number is among some
abbrev pub is_among : List ℕ → ℕ → Bool
is_among numbers n = list_any (λ other. other == n) numbers

-- from the view before this number down, each that is wanted makes those wanted that it reads
unfoldable pub wanted_from : List QView → ℕ → List ℕ → List ℕ
wanted_from views zero these = these
wanted_from views (suc n) these = wanted_from views n (if is_among these n then these ++ reads_at views n else these)

-- the views on which a view rests, itself among them
abbrev pub wanted : List QView → ℕ → List ℕ
wanted views n = wanted_from views (suc n) (n ∷ [])

-- so many views in declared order, from the one with this number on, those of them asked that are wanted
unfoldable pub views_asked : Query → Tables → World → List ℕ → ℕ → ℕ → Result Unit EvalFault
views_asked query tables world these zero at = Ok tt
views_asked query tables world these (suc more) at =
    if is_among these at then and_then (outcome_at query tables world at) (λ rows. views_asked query tables world these more (at + 1))
    else views_asked query tables world these more (at + 1)

-- the rows of a relation, after the views on which it rests
unfoldable pub rows_asked : Query → Tables → World → Source → Result Rows EvalFault
rows_asked query tables world (sources.Table n) = Ok (rows_of tables n)
rows_asked query tables world (sources.Hypo n) = Ok (rows_of (map (λ table. table.rows) world.tables) n)
rows_asked query tables world (sources.View n) = and_then (views_asked query tables world (wanted query.views n) (suc n) 0) (λ done. outcome_at query tables world n)
