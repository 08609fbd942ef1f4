-- the walk of a whole query: the possible rows of its relations, the truths of its requirements, and the number of its objective
use Rattle.std.specs.Prelude.{◌≡◌, ◌≢◌, ℕ, ℤ, List, [], ◌∷◌, ◌++◌, length, map, Option, Some, None, unwrap_or, Result, Ok, Err, IfOk}
use Rattle.base_kit.specs.Asking.{and_then}
use Rattle.tiql_query.specs.WellFormed.{columns_of}
use Rattle.tiql_query.specs.declared.relation.Column.{Column}
use Rattle.tiql_query.specs.declared.relation.Source.{Source}
use Rattle.tiql_query.specs.declared.relation.Source.TheVariants as sources
use Rattle.tiql_query.specs.declared.relation.QHypo.{QHypo}
use Rattle.tiql_query.specs.declared.view.QView.{QView}
use Rattle.tiql_query.specs.declared.aim.Require.{Require}
use Rattle.tiql_query.specs.declared.aim.Aim.{Aim}
use Rattle.tiql_query.specs.declared.aim.Aim.TheVariants as aims
use Rattle.tiql_query.specs.declared.expression.Expr.{Expr}
use Rattle.tiql_query.specs.declared.query.Query.{Query}
use Rattle.tiql_query.specs.declared.world_column.WorldColumn.{WorldColumn}
use Rattle.world_def.specs.Columns.{Tables}
use Rattle.world_def.specs.Judging.{source_of}
use Rattle.prov_fold.specs.Graphs.{Graph, Keeps}
use Rattle.prov_fold.specs.Meanings.{Means}
use Rattle.sym_rows.specs.declared.fault.WalkFault.{WalkFault}
use Rattle.sym_rows.specs.declared.fault.WalkFault.TheVariants as relation
use Rattle.sym_rows.specs.declared.row.SymRow.{SymRow}
use Rattle.sym_rows.specs.declared.row.Known.{Known}
use Rattle.sym_rows.specs.Cells.{sure_row}
use Rattle.sym_rows.specs.Hypos.{hypo_rows}
use Rattle.sym_rows.specs.Walks as rows
use Rattle.sym_goals.specs.Goals.{roots_of, aim_of}
use Rattle.view_join.specs.Sources.{rows_at}
use Rattle.view_agg.specs.Views.{view_walk}
use Rattle.sym_query.specs.declared.fault.QueryFault.{QueryFault}
use Rattle.sym_query.specs.declared.fault.QueryFault.TheVariants as fault
use Rattle.sym_query.specs.declared.goals.Goals.{Goals}

-- ---- walks over relations

-- what a walk came to: what it gives, or where it stopped; in both cases with the list behind it
abbrev pub Walked : Type 0 → Type 0
Walked A = Result (A × Graph) (QueryFault × Graph)

abbrev pub Walk : Type 0 → Type 0
Walk A = Graph → Walked A

abbrev pub gives : {A : Type 0} → A → Walk A
gives a g = Ok (a, g)

-- one walk, and then another with what the first gave
infixl 10 ◌>>=◌
abbrev pub ◌>>=◌ : {A B : Type 0} → Walked A → (A → Walk B) → Walked B
walked >>= next = and_then walked (λ made. next made.0 made.1)

-- items in turn, beside what was made of those before
unfoldable pub through : {X S : Type 0} → (X → S → Walk S) → List X → S → Walk S
through f [] made g = gives made g
through f (x ∷ xs) made g = f x made g >>= λ more g. through f xs more g

abbrev pub number_of : Source → ℕ
number_of (sources.Table n) = n
number_of (sources.Hypo n) = n
number_of (sources.View n) = n

-- what stopped in the walk of a relation
unfoldable pub fault_of : Source → WalkFault → QueryFault
fault_of source (relation.Wide number) = fault.Wide source number
fault_of source (relation.TooManyRows limit) = fault.TooManyRows (number_of source) limit
fault_of source relation.Full = fault.Full
fault_of source relation.Memory = fault.Memory

-- the walk of a relation, with its name
abbrev pub of : {A : Type 0} → Source → rows.Walked A → Walked A
of source (Ok made) = Ok made
of source (Err stop) = Err (fault_of source stop.0, stop.1)

-- likewise of what code came to
abbrev pub told_of : {A : Type 0} → Source → Result A WalkFault → Result A QueryFault
told_of source (Ok a) = Ok a
told_of source (Err e) = Err (fault_of source e)

-- code does what a walk comes to, unless memory is wanting
abbrev pub Follows : {A : Type 0} → Walked A → Result A QueryFault → Graph → Type 0
Follows walked (Ok a) after = walked ≡ Ok (a, after)
Follows walked (Err e) after = e ≢ fault.Memory → walked ≡ Err (e, after)

-- code does what the walk comes to, and keeps the list before. What it gives is good in the list behind, and this is meant of it
pub record Makes {A : Type 0} (walked : Walked A) (Good : Graph → A → Type 0) (Tells : A → List ℤ → (ℕ → ℤ) → Type 0) (before : Graph) (result : Result A QueryFault) (after : Graph) : Type 0 where
  pub follows : Follows walked result after
  pub kept : Keeps before after
  pub good : IfOk result (Good after)
  pub means : IfOk result (λ a. Means after (Tells a))

-- ---- the possible rows of all relations

-- those of one more hypothetical table, whose number is how many were before
unfoldable pub hypo_more : Query → Tables → List WorldColumn → QHypo → List (List SymRow) → Walk (List (List SymRow))
hypo_more query tables columns hypo made g = of (sources.Hypo (length made)) (hypo_rows query tables columns (length made) g) >>= λ rows g. gives (made ++ rows ∷ []) g

-- those of all hypothetical tables
unfoldable pub hypos_walk : Query → Tables → List WorldColumn → Walk (List (List SymRow))
hypos_walk query tables columns g = through (hypo_more query tables columns) query.hypos [] g

-- with those of one more view
abbrev pub with_view : Known → List SymRow → Known
with_view known rows = record { tables = known.tables; hypos = known.hypos; views = known.views ++ rows ∷ [] }

-- one more view, over the relations before it
unfoldable pub view_more : Query → QView → Known → Walk Known
view_more query view known g = of (sources.View (length known.views)) (view_walk query known view g) >>= λ rows g. gives (with_view known rows) g

-- all views
unfoldable pub views_walk : Query → Known → Walk Known
views_walk query before g = through (view_more query) query.views before g

-- the rows of the tables and these of hypothetical tables, and of no view
abbrev pub before_views : Tables → List (List SymRow) → Known
before_views tables hypos = record { tables = map (map sure_row) tables; hypos = hypos; views = [] }

-- those of all relations
unfoldable pub known_walk : Query → Tables → List WorldColumn → Walk Known
known_walk query tables columns g = hypos_walk query tables columns g >>= λ hypos g. views_walk query (before_views tables hypos) g

-- ---- requirements and the objective

-- the columns of a relation, none where it is not there
abbrev pub columns_at : Query → Source → List Column
columns_at query source = unwrap_or (columns_of query source) []

-- the truths of a requirement
unfoldable pub need_walk : Query → Known → Require → Walk (List ℕ)
need_walk query known need g = of (source_of need) (roots_of (columns_at query (source_of need)) need (rows_at known (source_of need)) g)

-- those of one more requirement
unfoldable pub need_more : Query → Known → Require → List ℕ → Walk (List ℕ)
need_more query known need made g = need_walk query known need g >>= λ roots g. gives (made ++ roots) g

-- those of all requirements
unfoldable pub roots_walk : Query → Known → Walk (List ℕ)
roots_walk query known g = through (need_more query known) query.requires_ [] g

-- the number of a sum over a relation
unfoldable pub sum_walk : Query → Known → Source → Expr → Walk ℕ
sum_walk query known source part g = of source (aim_of (columns_at query source) part (rows_at known source) g)

-- a number that may not be there
abbrev pub as_some : ℕ → Walk (Option ℕ)
as_some id g = gives (Some id) g

-- the number of the objective, none of FIND
unfoldable pub aim_walk : Query → Known → Aim → Walk (Option ℕ)
aim_walk query known aims.Find g = gives None g
aim_walk query known (aims.Sum maximize source part) g = sum_walk query known source part g >>= as_some

-- the requirements, and then the objective
unfoldable pub goals_walk : Query → Known → Walk Goals
goals_walk query known g = roots_walk query known g >>= λ roots g. aim_walk query known query.aim g >>= λ aim g. gives (record { roots = roots; aim = aim }) g

-- the whole query
unfoldable pub query_walk : Query → Tables → List WorldColumn → Walk Goals
query_walk query tables columns g = known_walk query tables columns g >>= goals_walk query
