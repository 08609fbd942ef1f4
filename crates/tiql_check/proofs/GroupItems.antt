-- the items of a checked select fit its GROUP BY
use Rattle.std.proofs.Common.{◌≡◌, ap, ap₂, sym, ◌∙◌, refl, subst, ℕ, Bool, true, false, ◌&&◌, ◌||◌, ◌==◌, not, if◌then◌else◌, List, [], ◌∷◌, ◌++◌, Option, Some, None, Result, Ok, Err, All, Any}
use Rattle.std.specs.List.{list_all}
use Rattle.std.proofs.lemmas.Bool.{true≢false, false≢true, and_parts, or_parts, not-true, not-false, not_from_false, eqb-true}
use Rattle.std.proofs.lemmas.List.Elements.{All-nil, All-push}
use Rattle.std.proofs.lemmas.List.Folds.{Any-from_list_any}
use Rattle.base_kit.proofs.Results.{same_Ok}
use Rattle.tiql_query.specs.declared.condition.Cond.{Cond}
use Rattle.tiql_query.specs.declared.expression.At.{At}
use Rattle.tiql_query.specs.declared.expression.Expr.TheVariants.{Column}
use Rattle.tiql_query.specs.declared.view.Item.{Item}
use Rattle.tiql_query.specs.declared.view.Item.TheVariants as items
use Rattle.tiql_tree.specs.declared.tree.TreeItem.{TreeItem}
use Rattle.tiql_tree.specs.declared.tree.TreeSelect.{TreeSelect}
use Rattle.tiql_tree.specs.declared.tree.TreeValue.{TreeValue}
use Rattle.tiql_tree.specs.declared.tree.TreeValue.TheVariants as values
use Rattle.tiql_check.specs.declared.fault.SoundFault.{SoundFault}
use Rattle.tiql_check.specs.declared.fault.SoundFault.TheVariants as fault
use Rattle.tiql_check.specs.declared.known.Known.{Known}
use Rattle.tiql_check.specs.declared.item.TypedItem.{TypedItem}
use Rattle.tiql_check.specs.declared.item.Items.{Items}
use Rattle.tiql_check.specs.declared.item.Rules.{Rules}
use Rattle.tiql_check.specs.declared.select.Arm.{Arm}
use Rattle.tiql_check.specs.Turns.{◌>>=◌, in_turn}
use Rattle.tiql_check.specs.Scopes.{Scope}
use Rattle.tiql_check.specs.Expressions.{typed_in}
use Rattle.tiql_check.specs.Conditions.{filter_in}
use Rattle.tiql_check.specs.Selects.{Taken, none_taken, with_source, with_group, is_aggregate, is_written, has_aggregate, is_grouped, value_in, lone_column, same_column, is_in_group, fits_group, item_ruled, no_items, with_item, group_if, items_in, checked_select}
use Rattle.tiql_check.specs.Grouped.{FitsGroup, IsGroupedRightly}
use Rattle.tiql_check.proofs.Inverse.{came_of, kept, through}
use Rattle.tiql_check.proofs.Items.{column-lone}
use Rattle.tiql_check.proofs.FitTables.{any_part}
use Rattle.tiql_check.proofs.FitSelects.{ruled_came}

column_at : ℕ → ℕ → At
column_at source column = record { source = source; column = column }

-- columns that are told to be one are equal
same_at : (one other : At) → same_column one other ≡ true → one ≡ other
unfolding column_at
same_at one other same =
    let parts = and_parts (one.source == other.source) (one.column == other.column) same in
    ap₂ column_at (eqb-true one.source other.source parts.0) (eqb-true one.column other.column parts.1)

-- what fits the columns of GROUP BY is an aggregate or one of them
grouped_fit : (group : List At) (item : Item) → fits_group group item ≡ true → FitsGroup (Some group) item
unfolding fits_group
grouped_fit group (items.Plain part) fits = by_lone (lone_column part) refl fits
  where
    by_lone : (o : Option At) → lone_column part ≡ o → is_in_group group o ≡ true → Any (λ at. part ≡ Column at) group
    by_lone None is among = absurd (false≢true among)
    by_lone (Some at) is among =
        let found = Any-from_list_any (λ other. same_column other at) group among in
        (found.0, found.1, found.2, found.3, column-lone part at is ∙ ap Column (sym (same_at found.1 at found.4)))
grouped_fit group (items.Sum part) fits = tt
grouped_fit group items.Count fits = tt
grouped_fit group (items.Min part) fits = tt
grouped_fit group (items.Max part) fits = tt

-- what is written as no aggregate is none
plain_fit : (scope : Scope) (value : TreeValue) (made : TypedItem) → is_aggregate value ≡ false → value_in scope value ≡ Ok made → FitsGroup None made.item
unfolding value_in
plain_fit scope (values.Plain expr) made plain e =
    let one = came_of (typed_in scope expr) (λ one. Ok (record { item = items.Plain one.expr; kind = one.kind })) made e in
    subst (λ (it : TypedItem). FitsGroup None it.item) {x = record { item = items.Plain (one.0).expr; kind = (one.0).kind }} (same_Ok (record { item = items.Plain (one.0).expr; kind = (one.0).kind }) made one.2) tt
plain_fit scope (values.Sum expr) made plain e = absurd (true≢false plain)
plain_fit scope values.Count made plain e = absurd (true≢false plain)
plain_fit scope (values.Min expr) made plain e = absurd (true≢false plain)
plain_fit scope (values.Max expr) made plain e = absurd (true≢false plain)

-- an item may be written in a select that is grouped or not
abbrev may_stand : Bool → TreeItem → Bool
may_stand grouped item = grouped || not (is_aggregate item.value)

item_fit : (grouped : Bool) (scope : Scope) (group : List At) (item : TreeItem) (made : TypedItem) → may_stand grouped item ≡ true → value_in scope item.value ≡ Ok made
    → (grouped && not (fits_group group made.item)) ≡ false → FitsGroup (group_if grouped group) made.item
item_fit true scope group item made may e fits = grouped_fit group made.item (not-false (fits_group group made.item) fits)
item_fit false scope group item made may e fits = plain_fit scope item.value made (not-true (is_aggregate item.value) may) e

item_step : (rules : Rules) (scope : Scope) (group : List At) (before next : Items) (item : TreeItem) → may_stand rules.grouped item ≡ true → with_item rules scope group before item ≡ Ok next
    → All (FitsGroup (group_if rules.grouped group)) before.items → All (FitsGroup (group_if rules.grouped group)) next.items
unfolding with_item
item_step rules scope group before next item may e fit =
    let more : TypedItem → Items = λ ruled. record { items = before.items ++ ruled.item ∷ []; columns = before.columns ++ record { name = item.name.name; place = item.place; kind = ruled.kind } ∷ [] } in
    let made = came_of (value_in scope item.value) (λ made. item_ruled rules group before.columns item made >>= (λ ruled. Ok (more ruled))) next e in
    let ruled = came_of (item_ruled rules group before.columns item made.0) (λ ruled. Ok (more ruled)) next made.2 in
    let rule = ruled_came rules group before.columns item made.0 ruled.0 ruled.1 in
    subst (λ (all : Items). All (FitsGroup (group_if rules.grouped group)) all.items) {x = more made.0} (ap more rule.0 ∙ same_Ok (more ruled.0) next ruled.2)
    (All-push (FitsGroup (group_if rules.grouped group)) before.items (made.0).item fit (item_fit rules.grouped scope group item made.0 may made.1 rule.2))

plain_stand : (trees : List TreeItem) → has_aggregate trees ≡ false → list_all (may_stand false) trees ≡ true
plain_stand [] none = refl
plain_stand (item ∷ trees) none =
    let parts = or_parts (is_aggregate item.value) (has_aggregate trees) none in
    ap (λ b. b && list_all (may_stand false) trees) (not_from_false (is_aggregate item.value) parts.0) ∙ plain_stand trees parts.1

no_aggregate : (select : TreeSelect) → is_grouped select ≡ false → has_aggregate select.items ≡ false
unfolding is_grouped
no_aggregate select plain = (or_parts (is_written select.group) (has_aggregate select.items) plain).1

-- a select that is not grouped has no aggregate
all_stand : (select : TreeSelect) → list_all (may_stand (is_grouped select)) select.items ≡ true
all_stand select = by_grouped (is_grouped select) refl
  where
    by_grouped : (b : Bool) → is_grouped select ≡ b → list_all (may_stand (is_grouped select)) select.items ≡ true
    by_grouped true is = ap (λ b. list_all (may_stand b) select.items) is ∙ any_part select.items
    by_grouped false is = ap (λ b. list_all (may_stand b) select.items) is ∙ plain_stand select.items (no_aggregate select is)

arm_fit : (first : Bool) (taken : Taken) (select : TreeSelect) (filter : Option Cond) (arm : Arm) → items_in first taken select filter ≡ Ok arm → IsGroupedRightly arm.select
unfolding items_in
arm_fit first taken select filter arm e =
    let rules : Rules = record { named = first; distinct = select.distinct; grouped = is_grouped select } in
    let whole : List At → Items → Arm = λ group all. record {
      select = record { distinct = select.distinct; sources = taken.sources; filter = filter; group = group_if (is_grouped select) group; items = all.items };
      columns = all.columns;
    } in
    let last : List At → Items → Result Arm SoundFault = λ group all. if is_grouped select && select.distinct then Err (fault.NotGrouped select.place) else Ok (whole group all) in
    let group = came_of (in_turn (with_group taken.scope) [] select.group) (λ group. in_turn (with_item rules taken.scope group) no_items select.items >>= last group) arm e in
    let all = came_of (in_turn (with_item rules taken.scope group.0) no_items select.items) (last group.0) arm group.2 in
    let once = kept (is_grouped select && select.distinct) (fault.NotGrouped select.place) (Ok (whole group.0 all.0)) arm all.2 in
    subst (λ (arm : Arm). IsGroupedRightly arm.select) {x = whole group.0 all.0} (same_Ok (whole group.0 all.0) arm once.1)
    (through (with_item rules taken.scope group.0) (λ (made : Items). All (FitsGroup (group_if (is_grouped select) group.0)) made.items) (may_stand (is_grouped select))
    (item_step rules taken.scope group.0) select.items no_items all.0 (all_stand select) all.1 (All-nil (FitsGroup (group_if (is_grouped select) group.0))))

pub select_grouped : (known : Known) (first : Bool) (select : TreeSelect) (arm : Arm) → checked_select known first select ≡ Ok arm → IsGroupedRightly arm.select
unfolding checked_select
select_grouped known first select arm e =
    let taken = came_of (in_turn (with_source known) none_taken select.sources) (λ taken. filter_in taken.scope select.filter >>= items_in first taken select) arm e in
    let filter = came_of (filter_in (taken.0).scope select.filter) (items_in first taken.0 select) arm taken.2 in
    arm_fit first taken.0 select filter.0 arm filter.2
