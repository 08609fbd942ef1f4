-- what the possible rows of relations are and mean, which private contracts cite
use Rattle.std.specs.Prelude.{◌≡◌, ℕ, ℤ, List, [], ◌∷◌, map, All, Option, Some, unwrap_or, slice_get}
use Rattle.std.specs.List.{list_all}
use Rattle.tiql_query.specs.declared.query.Query.{Query}
use Rattle.tiql_query.specs.declared.relation.Source.{Source}
use Rattle.tiql_query.specs.declared.relation.QHypo.{QHypo}
use Rattle.tiql_query.specs.declared.world_column.WorldColumn.{WorldColumn}
use Rattle.world_def.specs.declared.world.World.{World}
use Rattle.world_def.specs.Columns.{Rows, Tables}
use Rattle.world_def.specs.Judging.{source_of}
use Rattle.world_def.specs.Meaning.{IsPossible, is_met, score_by}
use Rattle.world_def.specs.Meaning as meaning
use Rattle.world_def.specs.Relations.{views_from}
use Rattle.prov_fold.specs.Graphs.{Graph}
use Rattle.prov_fold.specs.Values.{holds}
use Rattle.sym_rows.specs.declared.row.SymRow.{SymRow}
use Rattle.sym_rows.specs.declared.row.Known.{Known}
use Rattle.sym_rows.specs.Cells.{AreRowsOf, rows_in}
use Rattle.sym_values.specs.Meanings.{IsRowFit}
use Rattle.view_join.specs.Sources.{rows_at}
use Rattle.view_agg.specs.Views.{IsKnownFit}
use Rattle.sym_query.specs.Meant.{AreGroupedBy, aim_in}
use Rattle.tiql_query.specs.declared.aim.Aim.{Aim}
use Rattle.tiql_query.specs.declared.aim.Require.{Require}
use Rattle.tiql_query.specs.declared.expression.Expr.{Expr}
use Rattle.tiql_query.specs.Kinds.{kind, is_number}
use Rattle.tiql_query.specs.WellFormed.{IsOver, IsRequireFit}
use Rattle.row_values.specs.Values.{number, total, value}
use Rattle.sym_query.specs.declared.goals.Goals.{Goals}

-- the possible rows with this number, none where there are none
abbrev pub at : List (List SymRow) → ℕ → List SymRow
at all n = unwrap_or (slice_get all n) []

-- those of hypothetical tables: by formulas of the list, and they fit the columns
pub record AreHypos (query : Query) (g : Graph) (made : List (List SymRow)) : Type 0 where
  pub rows : (n : ℕ) → AreRowsOf g (at made n)
  pub fit : (n : ℕ) (hypo : QHypo) → slice_get query.hypos n ≡ Some hypo → All (IsRowFit hypo.columns) (at made n)

-- the rows of the hypothetical tables of a world
abbrev pub hypos_in : World → List Rows
hypos_in world = map (λ table. table.rows) world.tables

-- on each possible world those that are there are the rows of its hypothetical tables
abbrev pub AreHyposOf : Query → Tables → List WorldColumn → List (List SymRow) → List ℤ → (ℕ → ℤ) → Type 0
AreHyposOf query tables columns made numbers v = (world : World) → IsPossible query tables world → numbers ≡ meaning.numbers columns world → map (rows_in v) made ≡ hypos_in world

-- those of relations: by formulas of the list, and they fit the columns
pub record AreKnown (query : Query) (g : Graph) (known : Known) : Type 0 where
  pub rows : (source : Source) → AreRowsOf g (rows_at known source)
  pub fit : AreGroupedBy query → (source : Source) → IsKnownFit query known source

-- those that are there are the rows of the tables, of the world's hypothetical tables, and these of views
pub record AreOn (tables : Tables) (world : World) (views : List Rows) (known : Known) (v : ℕ → ℤ) : Type 0 where
  pub of_tables : map (rows_in v) known.tables ≡ tables
  pub of_hypos : map (rows_in v) known.hypos ≡ hypos_in world
  pub of_views : map (rows_in v) known.views ≡ views

-- where the tables and hypothetical tables are those of a world, all relations are
abbrev pub AreViewsOf : Query → Known → Known → List ℤ → (ℕ → ℤ) → Type 0
AreViewsOf query before known numbers v =
    AreGroupedBy query → (tables : Tables) (world : World) → AreOn tables world [] before v → AreOn tables world (views_from tables world [] query.views) known v

-- on each possible world those that are there are the rows of its relations
abbrev pub AreKnownOf : Query → Tables → List WorldColumn → Known → List ℤ → (ℕ → ℤ) → Type 0
AreKnownOf query tables columns known numbers v =
    AreGroupedBy query → (world : World) → IsPossible query tables world → numbers ≡ meaning.numbers columns world → AreOn tables world (views_from tables world [] query.views) known v

-- the possible rows of all relations fit their columns
abbrev pub AllFit : Query → Known → Type 0
AllFit query known = (source : Source) → IsKnownFit query known source

-- the rows of a relation that are there
abbrev pub there_at : (ℕ → ℤ) → Known → Source → Rows
there_at v known source = rows_in v (rows_at known source)

-- all truths hold exactly where the rows that are there meet the requirement
abbrev pub AreRootsOfNeed : Query → Known → Require → List ℕ → List ℤ → (ℕ → ℤ) → Type 0
AreRootsOfNeed query known need roots numbers v = AllFit query known → IsRequireFit query need → list_all (holds v) roots ≡ is_met need (there_at v known (source_of need))

-- likewise of all requirements
abbrev pub AreRootsOfAll : Query → Known → List ℕ → List ℤ → (ℕ → ℤ) → Type 0
AreRootsOfAll query known roots numbers v = AllFit query known → list_all (holds v) roots ≡ list_all (λ need. is_met need (there_at v known (source_of need))) query.requires_

-- the number is the sum over the rows that are there
abbrev pub IsSumOver : Query → Known → Source → Expr → ℕ → List ℤ → (ℕ → ℤ) → Type 0
IsSumOver query known source part id numbers v =
    AllFit query known → IsOver query source (λ scope. is_number (kind scope part)) → v id ≡ total (map (λ row. number (value (row ∷ []) part)) (there_at v known source))

-- the number of the objective is its sum over the rows that are there
abbrev pub IsAimOfQuery : Query → Known → Aim → Option ℕ → List ℤ → (ℕ → ℤ) → Type 0
IsAimOfQuery query known aim id numbers v = AllFit query known → aim_in v id ≡ score_by aim (there_at v known)

-- all truths hold exactly where the rows that are there meet the requirements, and the number of the objective is its sum over them
abbrev pub AreGoalsOver : Query → Known → Goals → List ℤ → (ℕ → ℤ) → Type 0
AreGoalsOver query known goals numbers v = AllFit query known
    → (list_all (holds v) goals.roots ≡ list_all (λ need. is_met need (there_at v known (source_of need))) query.requires_) × (aim_in v goals.aim ≡ score_by query.aim (there_at v known))
