-- the possible rows of a select of a view, which private contracts cite
use Rattle.std.specs.Prelude.{◌≡◌, ◌≤◌, ℕ, ℤ, true, false, List, ◌++◌, length, map, flat_map, All}
use Rattle.tiql_query.specs.Kinds.{Scope, is_unknown}
use Rattle.tiql_query.specs.WellFormed.{item_kind, scope_of}
use Rattle.tiql_query.specs.declared.view.QView.{QView}
use Rattle.tiql_query.specs.declared.query.Query.{Query}
use Rattle.sym_rows.specs.declared.row.Known.{Known}
use Rattle.view_join.specs.Sources.{sources_of}
use Rattle.tiql_query.specs.declared.relation.Column.{Column}
use Rattle.tiql_query.specs.declared.view.Select.{Select}
use Rattle.prov_fold.specs.Graphs.{Graph}
use Rattle.view_select.specs.Selects.{Rows, is_grouped, select_rows, chosen}
use Rattle.sym_rows.specs.declared.row.SymRow.{SymRow}
use Rattle.sym_rows.specs.Cells.{AreRowsOf, rows_in}
use Rattle.sym_values.specs.Meanings.{IsRowFit}
use Rattle.sym_values.specs.Left.{left_by}
use Rattle.view_join.specs.Fitting.{IsSelected, IsLeft, AreSourcesFit}
use Rattle.sym_groups.specs.Meanings.{ArePlain}
use Rattle.view_agg.specs.Views.{IsGroupedBy}

-- a select fits its columns, names columns of GROUP BY, and under DISTINCT has fixed items
pub record IsFinishing (scope : Scope) (columns : List Column) (select : Select) : Type 0 where
  pub selected : IsSelected scope columns select
  pub groups : IsGroupedBy select
  pub distinct : select.distinct ≡ true → All (λ item. is_unknown (item_kind scope item) ≡ false) select.items

-- what its combinations left is of the right kinds
pub record AreLeft (scope : Scope) (columns : List Column) (select : Select) (g : Graph) (left : List SymRow) : Type 0 where
  pub kinds : All (IsLeft scope columns select) left
  pub constants : is_grouped select ≡ false → select.distinct ≡ true → ArePlain g left

-- possible rows by formulas of the list, which fit the columns where what was left is of the right kinds
pub record AreFinished (scope : Scope) (columns : List Column) (select : Select) (before : Graph) (left : List SymRow) (g : Graph) (made : List SymRow) : Type 0 where
  pub rows : AreRowsOf g made
  pub fit : IsFinishing scope columns select → AreLeft scope columns select before left → All (IsRowFit columns) made

-- where the rows that are there are what the combinations left that meet WHERE, those that are made are the rows of the select
abbrev pub AreOfLeft : Scope → List Column → Select → Graph → List SymRow → List SymRow → List ℤ → (ℕ → ℤ) → Type 0
AreOfLeft scope columns select before left made numbers v = IsFinishing scope columns select → AreLeft scope columns select before left
    → (sources : List Rows) → rows_in v left ≡ map (left_by select) (chosen select.filter sources) → rows_in v made ≡ select_rows select sources

-- likewise of a whole select
pub record AreSelectRows (scope : Scope) (columns : List Column) (select : Select) (sources : List (List SymRow)) (g : Graph) (made : List SymRow) : Type 0 where
  pub rows : AreRowsOf g made
  pub fit : IsFinishing scope columns select → AreSourcesFit scope sources → All (IsRowFit columns) made

abbrev pub AreRowsOfSelect : Scope → List Column → Select → List (List SymRow) → List SymRow → List ℤ → (ℕ → ℤ) → Type 0
AreRowsOfSelect scope columns select sources made numbers v = IsFinishing scope columns select → AreSourcesFit scope sources → rows_in v made ≡ select_rows select (map (rows_in v) sources)

-- ---- the selects of a view, one after the other

-- rows that were counted
pub record AreFew (rows : List SymRow) (g : Graph) (made : List SymRow) : Type 0 where
  pub same : made ≡ rows
  pub few : length made ≤ 200000

abbrev pub AreSame : List SymRow → List SymRow → List ℤ → (ℕ → ℤ) → Type 0
AreSame rows made numbers v = made ≡ rows

-- a select of a view, and the possible rows of its sources, fit
pub record IsSelectReady (query : Query) (columns : List Column) (known : Known) (select : Select) : Type 0 where
  pub finishing : IsFinishing (scope_of query select) columns select
  pub sources : AreSourcesFit (scope_of query select) (sources_of known select)

-- rows, and behind them those of a select
pub record AreMore (query : Query) (columns : List Column) (known : Known) (select : Select) (before : List SymRow) (g : Graph) (made : List SymRow) : Type 0 where
  pub rows : AreRowsOf g made
  pub few : length made ≤ 200000
  pub fit : All (IsRowFit columns) before → IsSelectReady query columns known select → All (IsRowFit columns) made

abbrev pub AreOfMore : Query → List Column → Known → Select → List SymRow → List SymRow → List ℤ → (ℕ → ℤ) → Type 0
AreOfMore query columns known select before made numbers v =
    IsSelectReady query columns known select → rows_in v made ≡ rows_in v before ++ select_rows select (map (rows_in v) (sources_of known select))

-- the rows of all selects
pub record AreArmRows (query : Query) (known : Known) (view : QView) (g : Graph) (made : List SymRow) : Type 0 where
  pub rows : AreRowsOf g made
  pub few : length made ≤ 200000
  pub fit : All (IsSelectReady query view.columns known) view.arms → All (IsRowFit view.columns) made

abbrev pub AreOfArms : Query → Known → QView → List SymRow → List ℤ → (ℕ → ℤ) → Type 0
AreOfArms query known view made numbers v = All (IsSelectReady query view.columns known) view.arms
    → rows_in v made ≡ flat_map (λ (select : Select). select_rows select (map (rows_in v) (sources_of known select))) view.arms
