-- queries whose numbers name what is there, and whose types and marks fit
use Rattle.std.specs.Prelude.{◌≡◌, ◌<◌, ℕ, ◌+◌, ◌==◌, Bool, true, false, not, ◌&&◌, IsTrue, List, [], ◌∷◌, length, map, Option, Some, None, option_map, unwrap_or, slice_get, All, if◌then◌else◌}
use Rattle.std.specs.List.{list_any}
use Rattle.tiql_query.specs.declared.relation.Source.{Source}
use Rattle.tiql_query.specs.declared.relation.Source.TheVariants as sources
use Rattle.tiql_query.specs.declared.relation.Column.{Column}
use Rattle.tiql_query.specs.declared.expression.At.{At}
use Rattle.tiql_query.specs.declared.relation.QTable.{QTable}
use Rattle.tiql_query.specs.declared.relation.QBound.{QBound}
use Rattle.tiql_query.specs.declared.relation.QHypo.{QHypo}
use Rattle.tiql_query.specs.declared.view.Item.{Item}
use Rattle.tiql_query.specs.declared.view.Item.TheVariants as items
use Rattle.tiql_query.specs.declared.view.Select.{Select}
use Rattle.tiql_query.specs.declared.view.QView.{QView}
use Rattle.tiql_query.specs.declared.aim.Require.{Require}
use Rattle.tiql_query.specs.declared.aim.Require.TheVariants as needs
use Rattle.tiql_query.specs.declared.aim.Aim.{Aim}
use Rattle.tiql_query.specs.declared.aim.Aim.TheVariants as aims
use Rattle.tiql_query.specs.declared.query.Query.{Query}
use Rattle.tiql_query.specs.Kinds.{Kind, Scope, number, kind_at, kind, is_number, is_unknown, is_fit, is_fit_filter}

-- the columns of a relation, and none where the relation is not there
unfoldable pub columns_of : Query → Source → Option (List Column)
columns_of query (sources.Table n) = option_map (λ table. table.columns) (slice_get query.tables n)
columns_of query (sources.Hypo n) = option_map (λ hypo. hypo.columns) (slice_get query.hypos n)
columns_of query (sources.View n) = option_map (λ view. view.columns) (slice_get query.views n)

-- a relation is there that has these columns, and they are all that is in scope
abbrev pub IsOver : Query → Source → (Scope → Bool) → Type 0
IsOver query source holds = (columns : List Column) × (columns_of query source ≡ Some columns) × IsTrue (holds (columns ∷ []))

-- the columns of the key are there, and no column is unknown
pub record IsTableFit (table : QTable) : Type 0 where
  pub key : All (λ column. column < length table.columns) table.key
  pub fixed : All (λ column. column.unknown ≡ false) table.columns

-- the columns of a table, the set ones unknown
unfoldable pub with_set : List QBound → ℕ → List Column → List Column
with_set set n [] = []
with_set set n (column ∷ columns) = record column { unknown = list_any (λ bound. bound.column == n) set } ∷ with_set set (n + 1) columns

-- a set column is a number, and its bounds are
pub record IsBoundFit (columns : List Column) (bound : QBound) : Type 0 where
  pub column : IsTrue (is_number (kind_at (columns ∷ []) (record { source = 0; column = bound.column })))
  pub lo : IsTrue (is_number (kind (columns ∷ []) bound.lo))
  pub hi : IsTrue (is_number (kind (columns ∷ []) bound.hi))

-- no column is set twice
unfoldable pub are_once : List QBound → Bool
are_once [] = true
are_once (bound ∷ bounds) = not (list_any (λ other. other.column == bound.column) bounds) && are_once bounds

-- over a declared table, whose columns it has. No column of the key is set, and rows may be left out only of a table with a key
pub record IsHypoFit (query : Query) (hypo : QHypo) : Type 0 where
  pub table : QTable
  pub there : slice_get query.tables hypo.table ≡ Some table
  pub columns : hypo.columns ≡ with_set hypo.set 0 table.columns
  pub bounds : All (IsBoundFit table.columns) hypo.set
  pub filter : IsTrue (is_fit_filter (table.columns ∷ []) hypo.filter)
  pub once : IsTrue (are_once hypo.set)
  pub keys : All (λ bound. list_any (λ column. column == bound.column) table.key ≡ false) hypo.set
  pub dropped : hypo.droppable ≡ true → 0 < length table.key

-- a source of the view with this number: of the views only an earlier one
abbrev pub IsEarlier : Query → ℕ → Source → Type 0
IsEarlier query before (sources.Table n) = n < length query.tables
IsEarlier query before (sources.Hypo n) = n < length query.hypos
IsEarlier query before (sources.View n) = n < before

-- the columns of each source of a select
abbrev pub scope_of : Query → Select → Scope
scope_of query select = map (λ source. unwrap_or (columns_of query source) []) select.sources

-- an aggregate of a number is an unknown number
abbrev pub aggregate : Option Kind → Option Kind
aggregate part = if is_number part then Some (number true) else None

-- the kind of an item of a select
unfoldable pub item_kind : Scope → Item → Option Kind
item_kind scope (items.Plain part) = kind scope part
item_kind scope (items.Sum part) = aggregate (kind scope part)
item_kind scope items.Count = Some (number true)
item_kind scope (items.Min part) = aggregate (kind scope part)
item_kind scope (items.Max part) = aggregate (kind scope part)

-- the kinds of all items of a select
abbrev pub item_kinds : Query → Select → List (Option Kind)
item_kinds query select = map (item_kind (scope_of query select)) select.items

-- a column that is there and is fixed
abbrev pub IsFixedColumn : Scope → At → Type 0
IsFixedColumn scope at = (it : Kind) × (kind_at scope at ≡ Some it) × (it.unknown ≡ false)

-- a select of the view with this number. Columns of GROUP BY, and the items of a DISTINCT select, are fixed
pub record IsSelectFit (query : Query) (before : ℕ) (columns : List Column) (select : Select) : Type 0 where
  pub sources : All (IsEarlier query before) select.sources
  pub filter : IsTrue (is_fit_filter (scope_of query select) select.filter)
  pub group : All (IsFixedColumn (scope_of query select)) (unwrap_or select.group [])
  pub distinct : select.distinct ≡ true → All (λ it. is_unknown it ≡ false) (item_kinds query select)
  pub texts : map (option_map (λ it. it.text)) (item_kinds query select) ≡ map (λ column. Some column.text) columns

-- a column of a view is unknown where it is so in one of its selects
pub record IsViewFit (query : Query) (before : ℕ) (view : QView) : Type 0 where
  pub arms : All (IsSelectFit query before view.columns) view.arms
  pub marks : (n : ℕ) (column : Column) → slice_get view.columns n ≡ Some column →
      column.unknown ≡ list_any (λ arm. is_unknown (unwrap_or (slice_get (item_kinds query arm) n) None)) view.arms

-- the relation of a requirement is there, and its condition fits
unfoldable pub IsRequireFit : Query → Require → Type 0
IsRequireFit query (needs.All source test) = IsOver query source (λ scope. is_fit scope test)
IsRequireFit query (needs.Some source test) = IsOver query source (λ scope. is_fit scope test)
IsRequireFit query (needs.None source) = IsOver query source (λ scope. true)

-- the relation of a goal is there, and its expression is a number
unfoldable pub IsAimFit : Query → Aim → Type 0
IsAimFit query aims.Find = Unit
IsAimFit query (aims.Sum maximize source part) = IsOver query source (λ scope. is_number (kind scope part))

-- the query's numbers name what is there, the sources of a view stand before it, numbers are at most 10^15 in size, types fit,
-- products have one unknown factor at most, columns of GROUP BY and of DISTINCT selects are fixed, what is marked unknown is so,
-- and of a hypothetical table each column is set once at most and none of the key is, and without a key no row is left out
pub record IsWellFormed (query : Query) : Type 0 where
  pub tables : All IsTableFit query.tables
  pub hypos : All (IsHypoFit query) query.hypos
  pub views : (n : ℕ) (view : QView) → slice_get query.views n ≡ Some view → IsViewFit query n view
  pub requires_ : All (IsRequireFit query) query.requires_
  pub aim : IsAimFit query query.aim
