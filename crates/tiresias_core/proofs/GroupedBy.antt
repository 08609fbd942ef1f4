-- what the check of a query ensures of its grouped selects is the premise of what the walk of its views means
use Rattle.std.proofs.Common.{◌≡◌, refl, sym, ◌∙◌, ap, subst, ℕ, zero, suc, ◌+◌, ◌<◌, ◌==◌, ◌&&◌, ◌||◌, Bool, true, false, if◌then◌else◌, List, [], ◌∷◌, length, get_or, Option, Some, None, is_some, All, arith}
use Rattle.std.specs.Prelude.{unwrap_or}
use Rattle.std.specs.List.{list_any}
use Rattle.std.proofs.lemmas.Bool.{true≢false, and_from, eq-eqb}
use Rattle.std.proofs.lemmas.List.Elements.{All-weaker}
use Rattle.std.proofs.lemmas.List.Folds.{list_any_none}
use denote.Hole.Carrier.{roll, out}
use Rattle.tiql_query.specs.declared.expression.At.{At}
use Rattle.tiql_query.specs.declared.expression.Expr.{Expr}
use Rattle.tiql_query.specs.declared.expression.Expr.TheViews.{roll-Expr, out-Expr}
use Rattle.tiql_query.specs.declared.expression.Expr.TheVariants.{Column}
use Rattle.tiql_query.specs.declared.view.Item.{Item}
use Rattle.tiql_query.specs.declared.view.Item.TheVariants as items
use Rattle.tiql_query.specs.declared.view.Select.{Select}
use Rattle.tiql_query.specs.declared.view.QView.{QView}
use Rattle.tiql_query.specs.declared.query.Query.{Query}
use Rattle.tiql_check.specs.Grouped.{FitsGroup, IsGroupedRightly, AreGrouped}
use Rattle.view_select.specs.Selects.{is_aggregate}
use Rattle.sym_groups.specs.Aggregates.{place_of, key_place}
use Rattle.sym_groups.specs.Groups.{keys_of}
use Rattle.sym_groups.specs.Meanings.{IsGroupItem}
use Rattle.view_agg.specs.Views.{IsGroupedBy}
use Rattle.sym_query.specs.Meant.{AreGroupedBy}

same_column : (key at : At) → key ≡ at → ((key.source == at.source) && (key.column == at.column)) ≡ true
same_column key at same = and_from (key.source == at.source) (key.column == at.column)
    (eq-eqb key.source at.source (ap (λ (it : At). it.source) same)) (eq-eqb key.column at.column (ap (λ (it : At). it.column) same))

-- the place of a column is its first one, or one behind that
place_behind : (key at : At) (keys : List At) → (((key.source == at.source) && (key.column == at.column)) ≡ false → place_of at keys < length keys) → place_of at (key ∷ keys) < length (key ∷ keys)
unfolding place_of
place_behind key at keys later = by_key ((key.source == at.source) && (key.column == at.column)) refl
  where
    by_key : (b : Bool) → ((key.source == at.source) && (key.column == at.column)) ≡ b → (if (key.source == at.source) && (key.column == at.column) then 0 else place_of at keys + 1) < length (key ∷ keys)
    by_key true is = rw is (omega arith)
    by_key false is = let less = later is in rw is (omega (arith, less))

-- a column of GROUP BY has a place among them
place_within : (keys : List At) (k : ℕ) (at : At) → k < length keys → get_or keys k at ≡ at → place_of at keys < length keys
place_within [] k at less here = absurd (omega (arith, less))
place_within (key ∷ keys) zero at less here = place_behind key at keys (λ other. absurd (true≢false (sym (same_column key at here) ∙ other)))
place_within (key ∷ keys) (suc k) at less here = let later = place_within keys k at (omega (arith, less)) here in place_behind key at keys (λ other. later)

column_place : (keys : List At) (at : At) → place_of at keys < length keys → key_place keys (Column at) < length keys
unfolding key_place roll-Expr out-Expr roll out
column_place keys at less = less

item_by : (keys : List At) (item : Item) → FitsGroup (Some keys) item → IsGroupItem keys item
item_by keys (items.Plain part) fit = subst (λ (e : Expr). key_place keys e < length keys) (sym fit.4) (column_place keys fit.1 (place_within keys fit.0 fit.1 fit.2 fit.3))
item_by keys (items.Sum part) fit = tt
item_by keys items.Count fit = tt
item_by keys (items.Min part) fit = tt
item_by keys (items.Max part) fit = tt

no_aggregate : (item : Item) → FitsGroup None item → is_aggregate item ≡ false
unfolding is_aggregate
no_aggregate (items.Plain part) fit = refl
no_aggregate (items.Sum part) fit = absurd fit
no_aggregate items.Count fit = absurd fit
no_aggregate (items.Min part) fit = absurd fit
no_aggregate (items.Max part) fit = absurd fit

-- a plain select is not grouped, and the items of a grouped one have places
select_by : (select : Select) → IsGroupedRightly select → IsGroupedBy select
select_by select fit grouped = by_group select.group refl
  where
    by_group : (group : Option (List At)) → select.group ≡ group → All (IsGroupItem (keys_of select)) select.items
    by_group None is =
        let plain = All-weaker (FitsGroup None) (λ item. is_aggregate item ≡ false) no_aggregate select.items (subst (λ group. All (FitsGroup group) select.items) is fit) in
        absurd (true≢false (sym grouped ∙ ap (λ (group : Option (List At)). is_some group || list_any is_aggregate select.items) is ∙ list_any_none is_aggregate select.items plain))
    by_group (Some keys) is =
        subst (λ (group : Option (List At)). All (IsGroupItem (unwrap_or group [])) select.items) (sym is)
        (All-weaker (FitsGroup (Some keys)) (IsGroupItem keys) (item_by keys) select.items (subst (λ group. All (FitsGroup group) select.items) is fit))

-- what the check of a query ensures is what the meaning of its possible rows asks
pub grouped_by : (query : Query) → AreGrouped query → AreGroupedBy query
unfolding AreGrouped
grouped_by query fit = All-weaker (λ (view : QView). All IsGroupedRightly view.arms) (λ (view : QView). All IsGroupedBy view.arms) (λ view. All-weaker IsGroupedRightly IsGroupedBy select_by view.arms) query.views fit
