-- the possible rows of a view: those of its selects, one after the other; and what is meant of them
use Rattle.std.specs.Prelude.{◌≡◌, ◌≤◌, ℕ, ℤ, nat_lt, true, if◌then◌else◌, List, [], ◌++◌, length, map, flat_map, All, Some}
use Rattle.tiql_query.specs.Kinds.{Scope}
use Rattle.tiql_query.specs.WellFormed.{columns_of, scope_of}
use Rattle.tiql_query.specs.declared.relation.Column.{Column}
use Rattle.tiql_query.specs.declared.relation.Source.{Source}
use Rattle.tiql_query.specs.declared.view.Select.{Select}
use Rattle.tiql_query.specs.declared.view.QView.{QView}
use Rattle.tiql_query.specs.declared.query.Query.{Query}
use Rattle.view_select.specs.Selects.{Rows, is_grouped, select_rows}
use Rattle.prov_fold.specs.Graphs.{Graph}
use Rattle.sym_rows.specs.declared.row.SymRow.{SymRow}
use Rattle.sym_rows.specs.declared.fault.WalkFault.TheVariants as fault
use Rattle.sym_rows.specs.Cells.{AreRowsOf, rows_in}
use Rattle.sym_rows.specs.Walks.{Walk, gives, stops, ◌>>=◌, through}
use Rattle.sym_values.specs.Meanings.{IsRowFit}
use Rattle.sym_groups.specs.Groups.{distinct_rows, group_rows, keys_of}
use Rattle.sym_groups.specs.Meanings.{IsGroupItem}
use Rattle.view_join.specs.Combos.{select_walk}
use Rattle.sym_rows.specs.declared.row.Known.{Known}
use Rattle.view_join.specs.Sources.{rows_at, sources_of}

-- ---- the walk

-- the rows of a select by what its combinations left: of groups, or each once, or as they are
unfoldable pub finished : List Column → Select → List SymRow → Walk (List SymRow)
finished columns select left g = if is_grouped select then group_rows columns select left g else (if select.distinct then distinct_rows left g else gives left g)

-- the rows of a select
unfoldable pub rows_of_select : Scope → List Column → Select → List (List SymRow) → Walk (List SymRow)
rows_of_select scope columns select sources g = select_walk scope columns select sources g >>= finished columns select

-- a view has at most 200,000 possible rows
abbrev pub few : List SymRow → Walk (List SymRow)
few rows g = if nat_lt 200000 (length rows) then stops (fault.TooManyRows 200000) g else gives rows g

-- the rows of one more select
unfoldable pub select_more : Query → List Column → Known → Select → List SymRow → Walk (List SymRow)
select_more query columns known select so_far g = rows_of_select (scope_of query select) columns select (sources_of known select) g >>= λ more g. few (so_far ++ more) g

-- the rows of a view: those of its selects in order
unfoldable pub view_walk : Query → Known → QView → Walk (List SymRow)
view_walk query known view g = through (select_more query view.columns known) view.arms [] g

-- ---- what is meant

-- the possible rows of the sources are by formulas of the list
abbrev pub AreSourcesKnown : Known → QView → Graph → Type 0
AreSourcesKnown known view g = All (λ (select : Select). All (AreRowsOf g) (sources_of known select)) view.arms

-- what is no aggregate in a grouped select is a column of GROUP BY
abbrev pub IsGroupedBy : Select → Type 0
IsGroupedBy select = is_grouped select ≡ true → All (IsGroupItem (keys_of select)) select.items

-- the possible rows of a relation fit its columns
abbrev pub IsKnownFit : Query → Known → Source → Type 0
IsKnownFit query known source = (columns : List Column) → columns_of query source ≡ Some columns → All (IsRowFit columns) (rows_at known source)

-- the selects of a view name columns of GROUP BY, and the possible rows of their sources fit
pub record IsReady (query : Query) (known : Known) (view : QView) : Type 0 where
  pub groups : All IsGroupedBy view.arms
  pub sources : All (λ (select : Select). All (IsKnownFit query known) select.sources) view.arms

-- possible rows by formulas of the list, at most 200,000, which fit the view's columns
pub record AreViewRows (query : Query) (known : Known) (view : QView) (g : Graph) (made : List SymRow) : Type 0 where
  pub rows : AreRowsOf g made
  pub few : length made ≤ 200000
  pub fit : IsReady query known view → All (IsRowFit view.columns) made

-- the rows of the selects of a view, one after the other, over these rows of relations
abbrev pub rows_over : (Source → Rows) → QView → Rows
rows_over rows view = flat_map (λ (select : Select). select_rows select (map rows select.sources)) view.arms

-- those that are there are the rows of the view over the rows of its sources that are there
abbrev pub AreOfView : Query → Known → QView → List SymRow → List ℤ → (ℕ → ℤ) → Type 0
AreOfView query known view made numbers v = IsReady query known view → rows_in v made ≡ rows_over (λ source. rows_in v (rows_at known source)) view
