-- the rows of a view have a value for each of its columns
use Rattle.std.proofs.Common.{◌≡◌, ℕ, Bool, true, false, List, [], ◌∷◌, length, map, take, sym, ◌∙◌, ap, subst, if◌then◌else◌, Option, Some, unwrap_or}
use Rattle.std.specs.Prelude.{All, flat_map, option_map, slice_get}
use Rattle.std.specs.List.{fold}
use Rattle.std.specs.BTreeSet.{insert_key}
use Rattle.std.proofs.lemmas.List.{length-map}
use Rattle.std.proofs.lemmas.List.Elements.{All-append, All-cons, All-head, All-nil, All-tail}
use Rattle.std.proofs.lemmas.Map.Views.{All-insert_key}
use Rattle.base_kit.specs.Orders.{row_order}
use Rattle.base_kit.specs.declared.value.Value.{Value}
use Rattle.tiql_query.specs.declared.relation.Column.{Column}
use Rattle.tiql_query.specs.declared.relation.Source.TheVariants as sources
use Rattle.tiql_query.specs.declared.view.Item.{Item}
use Rattle.tiql_query.specs.declared.view.Select.{Select}
use Rattle.tiql_query.specs.declared.view.QView.{QView}
use Rattle.tiql_query.specs.declared.query.Query.{Query}
use Rattle.tiql_query.specs.Kinds.{Kind}
use Rattle.tiql_query.specs.WellFormed.{IsSelectFit, IsWellFormed, item_kinds, scope_of, item_kind}
use Rattle.row_values.specs.Values.{Combination}
use Rattle.view_select.specs.Selects.{chosen, distinct, groups, is_grouped, item_of, listed, row_of, select_rows}
use Rattle.world_def.specs.declared.world.World.{World}
use Rattle.world_def.specs.Columns.{Rows, Tables}
use Rattle.world_def.specs.Relations.{rows_in, rows_of_view, rows_over}
use Rattle.world_def.proofs.Outcomes.{meant, meant_is}

-- a row of so many values
abbrev pub IsWide : ℕ → List Value → Type 0
IsWide n row = length row ≡ n

-- rows that are made of items
made_wide : {X : Type 0} (items : List Item) (group : X → List Combination) (xs : List X) → All (IsWide (length items)) (map (λ x. row_of items (group x)) xs)
made_wide items group [] = All-nil (IsWide (length items))
made_wide items group (x ∷ xs) =
    All-cons (IsWide (length items)) (row_of items (group x)) (map (λ x. row_of items (group x)) xs) (length-map items (item_of (group x))) (made_wide items group xs)

once_wide : (n : ℕ) (rows so_far : Rows) → All (IsWide n) so_far → All (IsWide n) rows → All (IsWide n) (fold (insert_key row_order) so_far rows)
once_wide n [] so_far are all = are
once_wide n (row ∷ rows) so_far are all =
    once_wide n rows (insert_key row_order so_far row) (All-insert_key row_order row (IsWide n) so_far are (All-head (IsWide n) row rows all)) (All-tail (IsWide n) row rows all)

listed_wide : (n : ℕ) (once : Bool) (rows : Rows) → All (IsWide n) rows → All (IsWide n) (listed once rows)
unfolding distinct
listed_wide n true rows all = once_wide n rows [] (All-nil (IsWide n)) all
listed_wide n false rows all = all

select_wide : (select : Select) (given : List Rows) → All (IsWide (length select.items)) (select_rows select given)
unfolding select_rows
select_wide select given = by_test (is_grouped select)
  where
    by_test : (b : Bool) → All (IsWide (length select.items)) (if b then map (row_of select.items) (groups (unwrap_or select.group []) select.items (chosen select.filter given))
        else listed select.distinct (map (λ rows. row_of select.items (rows ∷ [])) (chosen select.filter given)))
    by_test true = made_wide select.items (λ group. group) (groups (unwrap_or select.group []) select.items (chosen select.filter given))
    by_test false = listed_wide (length select.items) select.distinct (map (λ rows. row_of select.items (rows ∷ [])) (chosen select.filter given)) (made_wide select.items (λ rows. rows ∷ []) (chosen select.filter given))

-- a select has an item for each column of its view
items_long : (query : Query) (n : ℕ) (columns : List Column) (select : Select) → IsSelectFit query n columns select → length select.items ≡ length columns
items_long query n columns select fit =
    sym (length-map select.items (item_kind (scope_of query select)))
    ∙ sym (length-map (item_kinds query select) (λ it. text_of it)) ∙ ap length fit.texts ∙ length-map columns (λ column. Some column.text)
  where
    text_of : Option Kind → Option Bool
    text_of it = option_map (λ (k : Kind). k.text) it

arms_wide : (query : Query) (n : ℕ) (columns : List Column) (given : Select → List Rows) (arms : List Select) → All (IsSelectFit query n columns) arms
    → All (IsWide (length columns)) (flat_map (λ select. select_rows select (given select)) arms)
arms_wide query n columns given [] fit = All-nil (IsWide (length columns))
arms_wide query n columns given (arm ∷ arms) fit =
    All-append (IsWide (length columns)) (select_rows arm (given arm)) (flat_map (λ select. select_rows select (given select)) arms)
    (subst (λ (m : ℕ). All (IsWide m) (select_rows arm (given arm))) (items_long query n columns arm (All-head (IsSelectFit query n columns) arm arms fit)) (select_wide arm (given arm)))
    (arms_wide query n columns given arms (All-tail (IsSelectFit query n columns) arm arms fit))

pub rows_wide : (query : Query) (tables : Tables) (world : World) (n : ℕ) (view : QView) → IsWellFormed query → slice_get query.views n ≡ Some view
    → All (IsWide (length view.columns)) (rows_in query tables world (sources.View n))
unfolding rows_in rows_over rows_of_view
rows_wide query tables world n view fit there =
    subst (λ (rows : Rows). All (IsWide (length view.columns)) rows) (sym (meant_is query tables world n view there))
    (arms_wide query n view.columns (λ select. map (rows_over tables world (take n (meant query tables world))) select.sources) view.arms (fit.views n view there).arms)
