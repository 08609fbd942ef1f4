-- checked selects fit
use Rattle.std.proofs.Common.{◌≡◌, ℕ, Bool, true, false, ◌&&◌, not, List, [], ◌∷◌, ◌++◌, length, map, refl, sym, ◌∙◌, ap, subst, if◌then◌else◌}
use Rattle.std.specs.Prelude.{Option, Some, None, unwrap_or, Result, Ok, Err, All}
use Rattle.std.specs.List.{list_all}
use Rattle.std.proofs.lemmas.List.{map-append}
use Rattle.std.proofs.lemmas.List.Elements.{All-nil, All-push, All-head, All-tail}
use Rattle.tiql_query.specs.declared.relation.Source.{Source}
use Rattle.tiql_query.specs.declared.expression.At.{At}
use Rattle.tiql_query.specs.declared.condition.Cond.{Cond}
use Rattle.tiql_query.specs.Kinds as query
use Rattle.tiql_query.specs.Kinds.{kind_at, is_unknown, is_fit_filter}
use Rattle.tiql_query.specs.WellFormed.{columns_of, IsEarlier, scope_of, item_kind, item_kinds, IsFixedColumn}
use Rattle.tiql_tree.specs.declared.expression.TreeRef.{TreeRef}
use Rattle.tiql_tree.specs.declared.tree.Spot.{Spot}
use Rattle.tiql_tree.specs.declared.tree.TreeItem.{TreeItem}
use Rattle.tiql_tree.specs.declared.tree.TreeSelect.{TreeSelect}
use Rattle.tiql_tree.specs.declared.tree.TreeSource.{TreeSource}
use Rattle.tiql_check.specs.declared.fault.SoundFault.{SoundFault}
use Rattle.tiql_check.specs.declared.fault.SoundFault.TheVariants as fault
use Rattle.tiql_check.specs.declared.known.Relation.{Relation}
use Rattle.tiql_check.specs.declared.known.Known.{Known}
use Rattle.tiql_check.specs.declared.item.TypedItem.{TypedItem}
use Rattle.tiql_check.specs.declared.item.ItemColumn.{ItemColumn}
use Rattle.tiql_check.specs.declared.item.Items.{Items}
use Rattle.tiql_check.specs.declared.item.Rules.{Rules}
use Rattle.tiql_check.specs.declared.select.Arm.{Arm}
use Rattle.tiql_check.specs.Turns.{◌>>=◌, in_turn}
use Rattle.tiql_check.specs.Scopes.{same, Seen, Scope, meant}
use Rattle.tiql_check.specs.Conditions.{filter_in}
use Rattle.tiql_check.specs.Known.{relation_named, declared_at, declared, columns_in}
use Rattle.tiql_check.specs.Selects.{Taken, none_taken, has_alias, with_source, with_group, is_grouped, value_in, fits_group, has_name, item_ruled, no_items, with_item, group_if, items_in, checked_select}
use Rattle.tiql_check.specs.Small.{small_filter, small_value, small_select}
use Rattle.tiql_check.proofs.Inverse.{came_of, kept, through}
use Rattle.tiql_check.proofs.Fit.{cols, as_kind}
use Rattle.tiql_check.proofs.FitExprs.{meant_there}
use Rattle.tiql_check.proofs.FitConds.{filter_fit, ItemFit, value_fit}
use Rattle.tiql_check.proofs.FitTables.{any_part}
use Rattle.std.proofs.lemmas.Bool.{and_parts}
use Rattle.base_kit.proofs.Results.{same_Ok}

-- each relation that was declared is there
abbrev pub AreThere : Known → Type 0
AreThere known = All (λ (r : Relation). IsEarlier known.query (length known.query.views) r.source) known.relations

pub named_there : (P : Source → Type 0) (name : List ℕ) (relations : List Relation) (source : Source) → All (λ (r : Relation). P r.source) relations → relation_named name relations ≡ Some source → P source
unfolding relation_named
named_there P name [] source all e = absurd (let h : None ≡ Some source = e in cc)
named_there P name (r ∷ rs) source all e = by_name (λ h. named_there P name rs source (All-tail (λ (r : Relation). P r.source) r rs all) h) (same r.name name) refl e
  where
    by_name : (relation_named name rs ≡ Some source → P source) → (b : Bool) → same r.name name ≡ b → (if same r.name name then Some r.source else relation_named name rs) ≡ Some source → P source
    by_name more true is h = subst P (let k : Some r.source ≡ Some source = sym (rw is refl) ∙ h in let e : r.source ≡ source = cc in e) (All-head (λ (r : Relation). P r.source) r rs all)
    by_name more false is h = more (sym (rw is refl) ∙ h)

pub declared_there : (known : Known) (spot : Spot) (source : Source) → AreThere known → declared known spot ≡ Ok source → IsEarlier known.query (length known.query.views) source
declared_there known spot source all e = by_named (relation_named spot.name known.relations) refl e
  where
    by_named : (o : Option Source) → relation_named spot.name known.relations ≡ o → declared_at spot o ≡ Ok source → IsEarlier known.query (length known.query.views) source
    by_named None is h = absurd (let k : Err (fault.UnknownName spot.place) ≡ Ok source = h in cc)
    by_named (Some s) is h = subst (IsEarlier known.query (length known.query.views)) (same_Ok s source h) (named_there (IsEarlier known.query (length known.query.views)) spot.name known.relations s all is)

-- the sources of a select, and what they bring into scope
pub record TakenFit (known : Known) (taken : Taken) : Type 0 where
  pub there : All (IsEarlier known.query (length known.query.views)) taken.sources
  pub scope : map (λ source. unwrap_or (columns_of known.query source) []) taken.sources ≡ cols taken.scope

source_step : (known : Known) → AreThere known → (before next : Taken) (tree : TreeSource) → true ≡ true → with_source known before tree ≡ Ok next → TakenFit known before → TakenFit known next
unfolding columns_in
source_step known all before next tree any e p =
    let source = came_of (declared known tree.relation) (λ source. if has_alias tree.alias.name before.scope then Err (fault.SameName tree.alias.place) else Ok (record { sources = before.sources ++ source ∷ []; scope = before.scope ++ record { alias = Some tree.alias.name; columns = columns_in known source } ∷ [] })) next e in
    let seen : Seen = record { alias = Some tree.alias.name; columns = columns_in known source.0 } in
    let made : Taken = record { sources = before.sources ++ source.0 ∷ []; scope = before.scope ++ seen ∷ [] } in
    let new = kept (has_alias tree.alias.name before.scope) (fault.SameName tree.alias.place) (Ok made) next source.2 in
    subst (TakenFit known) (same_Ok made next new.1) (record {
      there = All-push (IsEarlier known.query (length known.query.views)) before.sources source.0 p.there (declared_there known tree.relation source.0 all source.1);
      scope = map-append (λ source. unwrap_or (columns_of known.query source) []) before.sources (source.0 ∷ [])
          ∙ ap (λ l. l ++ columns_in known source.0 ∷ []) p.scope ∙ sym (map-append (λ (it : Seen). it.columns) before.scope (seen ∷ []));
    })

group_step : (scope : Scope) (before next : List At) (ref : TreeRef) → true ≡ true → with_group scope before ref ≡ Ok next → All (IsFixedColumn (cols scope)) before → All (IsFixedColumn (cols scope)) next
group_step scope before next ref any e p =
    let it = came_of (meant scope ref) (λ it. if it.kind.unknown then Err (fault.NotFixed ref.place) else Ok (before ++ it.at ∷ [])) next e in
    let fixed = kept ((it.0).kind).unknown (fault.NotFixed ref.place) (Ok (before ++ (it.0).at ∷ [])) next it.2 in
    subst (All (IsFixedColumn (cols scope))) (same_Ok (before ++ (it.0).at ∷ []) next fixed.1)
    (All-push (IsFixedColumn (cols scope)) before (it.0).at p (as_kind (it.0).kind, meant_there scope ref it.0 it.1, fixed.0))

abbrev pub told : ItemColumn → Option query.Kind
told column = Some (as_kind column.kind)

-- the items of a select, each of the kind that is told, and fixed under DISTINCT
pub record ItemsFit (scope : Scope) (distinct : Bool) (made : Items) : Type 0 where
  pub kinds : map (item_kind (cols scope)) made.items ≡ map told made.columns
  pub fixed : distinct ≡ true → All (λ it. is_unknown it ≡ false) (map told made.columns)

-- an item that breaks no rule is itself, is fixed under DISTINCT, and fits the group of a grouped select
pub ruled_came : (rules : Rules) (group : List At) (before : List ItemColumn) (item : TreeItem) (made ruled : TypedItem) → item_ruled rules group before item made ≡ Ok ruled
    → (made ≡ ruled) × (rules.distinct ≡ true → made.kind.unknown ≡ false) × ((rules.grouped && not (fits_group group made.item)) ≡ false)
ruled_came rules group before item made ruled e =
    let third : Result TypedItem SoundFault = if rules.grouped && not (fits_group group made.item) then Err (fault.NotGrouped item.place) else Ok made in
    let second : Result TypedItem SoundFault = if rules.distinct && made.kind.unknown then Err (fault.NotFixed item.place) else third in
    let named = kept (rules.named && has_name item.name.name before) (fault.SameName item.name.place) second ruled e in
    let fixed = kept (rules.distinct && made.kind.unknown) (fault.NotFixed item.place) third ruled named.1 in
    let fits = kept (rules.grouped && not (fits_group group made.item)) (fault.NotGrouped item.place) (Ok made) ruled fixed.1 in
    (same_Ok made ruled fits.1, λ distinct. sym (ap (λ d. d && made.kind.unknown) distinct) ∙ fixed.0, fits.0)

item_step : (rules : Rules) (scope : Scope) (group : List At) (before next : Items) (item : TreeItem) → small_value item.value ≡ true → with_item rules scope group before item ≡ Ok next → ItemsFit scope rules.distinct before → ItemsFit scope rules.distinct next
unfolding with_item
item_step rules scope group before next item small e p =
    let made = came_of (value_in scope item.value) (λ made. item_ruled rules group before.columns item made >>= (λ ruled. Ok (record { items = before.items ++ ruled.item ∷ []; columns = before.columns ++ record { name = item.name.name; place = item.place; kind = ruled.kind } ∷ [] }))) next e in
    let ruled = came_of (item_ruled rules group before.columns item made.0) (λ ruled. Ok (record { items = before.items ++ ruled.item ∷ []; columns = before.columns ++ record { name = item.name.name; place = item.place; kind = ruled.kind } ∷ [] })) next made.2 in
    let rule = ruled_came rules group before.columns item made.0 ruled.0 ruled.1 in
    let fit = subst (ItemFit scope) rule.0 (value_fit scope item.value made.0 made.1 small) in
    let column : ItemColumn = record { name = item.name.name; place = item.place; kind = (ruled.0).kind } in
    let all : Items = record { items = before.items ++ (ruled.0).item ∷ []; columns = before.columns ++ column ∷ [] } in
    subst (ItemsFit scope rules.distinct) (same_Ok all next ruled.2) (record {
      kinds = map-append (item_kind (cols scope)) before.items ((ruled.0).item ∷ []) ∙ ap (λ l. l ++ item_kind (cols scope) (ruled.0).item ∷ []) p.kinds
          ∙ ap (λ k. map told before.columns ++ k ∷ []) fit ∙ sym (map-append told before.columns (column ∷ []));
      fixed = λ distinct. subst (All (λ it. is_unknown it ≡ false)) (sym (map-append told before.columns (column ∷ [])))
          (All-push (λ it. is_unknown it ≡ false) (map told before.columns) (told column) (p.fixed distinct) (subst (λ (it : TypedItem). it.kind.unknown ≡ false) rule.0 (rule.1 distinct)));
    })

-- a select with what is told of its columns
pub record ArmFit (known : Known) (arm : Arm) : Type 0 where
  pub sources : All (IsEarlier known.query (length known.query.views)) arm.select.sources
  pub filter : is_fit_filter (scope_of known.query arm.select) arm.select.filter ≡ true
  pub group : All (IsFixedColumn (scope_of known.query arm.select)) (unwrap_or arm.select.group [])
  pub distinct : arm.select.distinct ≡ true → All (λ it. is_unknown it ≡ false) (item_kinds known.query arm.select)
  pub kinds : item_kinds known.query arm.select ≡ map told arm.columns

group_written : (scope : query.Scope) (grouped : Bool) (group : List At) → All (IsFixedColumn scope) group → All (IsFixedColumn scope) (unwrap_or (group_if grouped group) [])
group_written scope true group all = all
group_written scope false group all = All-nil (IsFixedColumn scope)

arm_made : (known : Known) (first : Bool) (taken : Taken) (select : TreeSelect) (filter : Option Cond) (arm : Arm) → TakenFit known taken → is_fit_filter (cols taken.scope) filter ≡ true → list_all (λ (item : TreeItem). small_value item.value) select.items ≡ true → items_in first taken select filter ≡ Ok arm → ArmFit known arm
unfolding items_in
arm_made known first taken select filter arm p fits small e =
    let rules : Rules = record { named = first; distinct = select.distinct; grouped = is_grouped select } in
    let whole : List At → Items → Arm = λ group all. record {
      select = record { distinct = select.distinct; sources = taken.sources; filter = filter; group = group_if (is_grouped select) group; items = all.items };
      columns = all.columns;
    } in
    let last : List At → Items → Result Arm SoundFault = λ group all. if is_grouped select && select.distinct then Err (fault.NotGrouped select.place) else Ok (whole group all) in
    let group = came_of (in_turn (with_group taken.scope) [] select.group) (λ group. in_turn (with_item rules taken.scope group) no_items select.items >>= last group) arm e in
    let all = came_of (in_turn (with_item rules taken.scope group.0) no_items select.items) (last group.0) arm group.2 in
    let once = kept (is_grouped select && select.distinct) (fault.NotGrouped select.place) (Ok (whole group.0 all.0)) arm all.2 in
    let items = through (with_item rules taken.scope group.0) (ItemsFit taken.scope select.distinct) (λ (item : TreeItem). small_value item.value) (item_step rules taken.scope group.0) select.items no_items all.0 small all.1
    (record { kinds = refl; fixed = λ distinct. All-nil (λ it. is_unknown it ≡ false) }) in
    let kinds : map (item_kind (map (λ source. unwrap_or (columns_of known.query source) []) taken.sources)) (all.0).items ≡ map told (all.0).columns =
    ap (λ (scope : query.Scope). map (item_kind scope) (all.0).items) p.scope ∙ items.kinds in
    subst (ArmFit known) {x = whole group.0 all.0} (same_Ok (whole group.0 all.0) arm once.1) (record {
      sources = p.there;
      filter = ap (λ scope. is_fit_filter scope filter) p.scope ∙ fits;
      group = subst (λ scope. All (IsFixedColumn scope) (unwrap_or (group_if (is_grouped select) group.0) [])) (sym p.scope)
          (group_written (cols taken.scope) (is_grouped select) group.0 (through (with_group taken.scope) (All (IsFixedColumn (cols taken.scope))) (λ ref. true) (group_step taken.scope) select.group [] group.0 (any_part select.group) group.1 (All-nil (IsFixedColumn (cols taken.scope)))));
      distinct = λ distinct. subst (All (λ it. is_unknown it ≡ false)) (sym kinds) (items.fixed distinct);
      kinds = kinds;
    })

pub select_fit : (known : Known) (first : Bool) (select : TreeSelect) (arm : Arm) → AreThere known → checked_select known first select ≡ Ok arm → small_select select ≡ true → ArmFit known arm
unfolding checked_select
select_fit known first select arm all e small =
    let tests = and_parts (small_filter select.filter) (list_all (λ (item : TreeItem). small_value item.value) select.items) small in
    let taken = came_of (in_turn (with_source known) none_taken select.sources) (λ taken. filter_in taken.scope select.filter >>= items_in first taken select) arm e in
    let filter = came_of (filter_in (taken.0).scope select.filter) (items_in first taken.0 select) arm taken.2 in
    arm_made known first taken.0 select filter.0 arm
    (through (with_source known) (TakenFit known) (λ source. true) (source_step known all) select.sources none_taken taken.0 (any_part select.sources) taken.1 (record { there = All-nil (IsEarlier known.query (length known.query.views)); scope = refl }))
    (filter_fit (taken.0).scope select.filter filter.0 filter.1 tests.0) tests.1 filter.2
