-- a checked query is well formed
use Rattle.std.proofs.Common.{◌≡◌, ℕ, zero, suc, ◌+◌, ◌<◌, ◌≤◌, Bool, true, false, ◌||◌, List, [], ◌∷◌, ◌++◌, length, map, refl, sym, ◌∙◌, ap, subst, arith, ◌⊎◌, inl, inr}
use Rattle.std.specs.Prelude.{Option, Some, None, unwrap_or, slice_get, option_map, Result, Ok, Err, All, IfOk}
use Rattle.std.specs.List.{list_all, list_any}
use Rattle.std.proofs.lemmas.List.{length-append}
use Rattle.std.proofs.lemmas.List.Elements.{All-nil, All-push, All-weaker, All-head, All-tail}
use Rattle.std.proofs.lemmas.Option.{slice_get_within}
use Rattle.tiql_query.specs.declared.relation.Source.{Source}
use Rattle.tiql_query.specs.declared.relation.Source.TheVariants as sources
use Rattle.tiql_query.specs.declared.relation.Column.{Column}
use Rattle.tiql_query.specs.declared.relation.QTable.{QTable}
use Rattle.tiql_query.specs.declared.relation.QHypo.{QHypo}
use Rattle.tiql_query.specs.declared.expression.Expr.{Expr}
use Rattle.tiql_query.specs.declared.condition.Cond.{Cond}
use Rattle.tiql_query.specs.declared.view.Select.{Select}
use Rattle.tiql_query.specs.declared.view.QView.{QView}
use Rattle.tiql_query.specs.declared.aim.Require.{Require}
use Rattle.tiql_query.specs.declared.aim.Require.TheVariants as needs
use Rattle.tiql_query.specs.declared.aim.Aim.{Aim}
use Rattle.tiql_query.specs.declared.aim.Aim.TheVariants as aims
use Rattle.tiql_query.specs.declared.query.Query.{Query}
use Rattle.tiql_query.specs.Kinds as query
use Rattle.tiql_query.specs.Kinds.{kind, is_fit, is_number, is_unknown, is_fit_filter}
use Rattle.tiql_query.specs.WellFormed.{columns_of, IsOver, IsTableFit, IsHypoFit, IsEarlier, item_kind, item_kinds, IsFixedColumn, IsSelectFit, IsViewFit, IsRequireFit, IsAimFit, IsWellFormed}
use Rattle.tiql_tree.specs.declared.condition.TreeCond.{TreeCond}
use Rattle.tiql_tree.specs.declared.tree.Spot.{Spot}
use Rattle.tiql_tree.specs.declared.tree.Tree.{Tree}
use Rattle.tiql_tree.specs.declared.tree.Decl.{Decl}
use Rattle.tiql_tree.specs.declared.tree.Decl.TheVariants as decls
use Rattle.tiql_tree.specs.declared.tree.TreeRequire.{TreeRequire}
use Rattle.tiql_tree.specs.declared.tree.TreeRequire.TheVariants as tree_needs
use Rattle.tiql_tree.specs.declared.tree.TreeGoal.{TreeGoal}
use Rattle.tiql_tree.specs.declared.tree.TreeGoal.TheVariants as goals
use Rattle.tiql_check.specs.declared.fault.SoundFault.{SoundFault}
use Rattle.tiql_check.specs.declared.known.Relation.{Relation}
use Rattle.tiql_check.specs.declared.known.Known.{Known}
use Rattle.tiql_check.specs.Turns.{◌>>=◌, in_turn, ChecksTo}
use Rattle.tiql_check.specs.Expressions.{number_in}
use Rattle.tiql_check.specs.Conditions.{cond_in}
use Rattle.tiql_check.specs.Known.{nothing, declared, columns_in, with_table, with_hypo, with_view, with_require}
use Rattle.tiql_check.specs.Tables.{checked_table}
use Rattle.tiql_check.specs.Hypos.{checked_hypo}
use Rattle.tiql_check.specs.Views.{checked_view}
use Rattle.tiql_check.specs.Sound.{relation_scope, have, checked_require, with_decl, summed, checked_goal, checked}
use Rattle.tiql_check.specs.Small.{small_cond, small_require, small_decl, small_goal, HasSmallNumbers}
use Rattle.tiql_check.proofs.Inverse.{came_of, through}
use Rattle.tiql_check.proofs.FitExprs.{number_fit}
use Rattle.tiql_check.proofs.FitConds.{cond_fit}
use Rattle.tiql_check.proofs.FitTables.{table_fit, hypo_fit}
use Rattle.tiql_check.proofs.FitSelects.{AreThere, declared_there}
use Rattle.tiql_check.proofs.FitViews.{view_fit}
use Rattle.tiql_check.proofs.SmallText.{text_small}
use Rattle.tiql_tree.specs.Unplaced.{HasText}
use Rattle.std.proofs.lemmas.Bool.{and_parts}
use Rattle.base_kit.proofs.Results.{same_Ok}

get_left : {A : Type 0} (xs ys : List A) (n : ℕ) (x : A) → slice_get xs n ≡ Some x → slice_get (xs ++ ys) n ≡ Some x
get_left [] ys n x e = absurd (let h : None ≡ Some x = e in cc)
get_left (y ∷ xs) ys zero x e = e
get_left (y ∷ xs) ys (suc n) x e = get_left xs ys n x e

get_within : {A : Type 0} (xs : List A) (n : ℕ) → n < length xs → (x : A) × (slice_get xs n ≡ Some x)
get_within [] n lt = absurd (omega (arith, lt))
get_within (y ∷ xs) zero lt = (y, refl)
get_within (y ∷ xs) (suc n) lt = get_within xs n (omega (arith, lt))

-- an earlier item, or the last one
get_last : {A : Type 0} (xs : List A) (x : A) (n : ℕ) (y : A) → slice_get (xs ++ x ∷ []) n ≡ Some y → (slice_get xs n ≡ Some y) ⊎ ((n ≡ length xs) × (x ≡ y))
get_last [] x zero y e = inr (refl, let h : Some x ≡ Some y = e in cc)
get_last [] x (suc n) y e = absurd (let h : None ≡ Some y = e in cc)
get_last (z ∷ xs) x zero y e = inl e
get_last (z ∷ xs) x (suc n) y e = by_rest (get_last xs x n y e)
  where
    by_rest : (slice_get xs n ≡ Some y) ⊎ ((n ≡ length xs) × (x ≡ y)) → (slice_get (z ∷ xs) (suc n) ≡ Some y) ⊎ ((suc n ≡ length (z ∷ xs)) × (x ≡ y))
    by_rest (inl early) = inl early
    by_rest (inr last) = inr (ap suc last.0, last.1)

-- relations of the one query stand in the other too, under the same numbers
record Extends (q r : Query) : Type 0 where
  tables : (n : ℕ) (t : QTable) → slice_get q.tables n ≡ Some t → slice_get r.tables n ≡ Some t
  hypos : (n : ℕ) (h : QHypo) → slice_get q.hypos n ≡ Some h → slice_get r.hypos n ≡ Some h
  views : (n : ℕ) (v : QView) → slice_get q.views n ≡ Some v → slice_get r.views n ≡ Some v
  more_tables : length q.tables ≤ length r.tables
  more_hypos : length q.hypos ≤ length r.hypos
  more_views : length q.views ≤ length r.views

longer : {A : Type 0} (xs : List A) (x : A) → length xs ≤ length (xs ++ x ∷ [])
longer xs x = let l : length (xs ++ x ∷ []) ≡ length xs + 1 = length-append xs (x ∷ []) in omega (arith, l)

last_within : {A : Type 0} (xs : List A) (x : A) → length xs < length (xs ++ x ∷ [])
last_within xs x = let l : length (xs ++ x ∷ []) ≡ length xs + 1 = length-append xs (x ∷ []) in omega (arith, l)

module _ (q r : Query) (ext : Extends q r) where
  columns_kept : (s : Source) (cs : List Column) → columns_of q s ≡ Some cs → columns_of r s ≡ Some cs
  unfolding columns_of
  columns_kept (sources.Table n) cs e = by_get (slice_get q.tables n) refl e
    where
      by_get : (o : Option QTable) → slice_get q.tables n ≡ o → option_map (λ (t : QTable). t.columns) o ≡ Some cs → option_map (λ (t : QTable). t.columns) (slice_get r.tables n) ≡ Some cs
      by_get None is h = absurd (let k : None ≡ Some cs = h in cc)
      by_get (Some t) is h = ap (option_map (λ (t : QTable). t.columns)) (ext.tables n t is) ∙ h
  columns_kept (sources.Hypo n) cs e = by_get (slice_get q.hypos n) refl e
    where
      by_get : (o : Option QHypo) → slice_get q.hypos n ≡ o → option_map (λ (t : QHypo). t.columns) o ≡ Some cs → option_map (λ (t : QHypo). t.columns) (slice_get r.hypos n) ≡ Some cs
      by_get None is h = absurd (let k : None ≡ Some cs = h in cc)
      by_get (Some t) is h = ap (option_map (λ (t : QHypo). t.columns)) (ext.hypos n t is) ∙ h
  columns_kept (sources.View n) cs e = by_get (slice_get q.views n) refl e
    where
      by_get : (o : Option QView) → slice_get q.views n ≡ o → option_map (λ (t : QView). t.columns) o ≡ Some cs → option_map (λ (t : QView). t.columns) (slice_get r.views n) ≡ Some cs
      by_get None is h = absurd (let k : None ≡ Some cs = h in cc)
      by_get (Some t) is h = ap (option_map (λ (t : QView). t.columns)) (ext.views n t is) ∙ h

  earlier_kept : (n : ℕ) (s : Source) → IsEarlier q n s → IsEarlier r n s
  earlier_kept n (sources.Table k) lt = omega (arith, lt, ext.more_tables)
  earlier_kept n (sources.Hypo k) lt = omega (arith, lt, ext.more_hypos)
  earlier_kept n (sources.View k) lt = lt

  later_kept : (n m : ℕ) → n ≤ m → (s : Source) → IsEarlier q n s → IsEarlier r m s
  later_kept n m le (sources.Table k) lt = omega (arith, lt, ext.more_tables)
  later_kept n m le (sources.Hypo k) lt = omega (arith, lt, ext.more_hypos)
  later_kept n m le (sources.View k) lt = omega (arith, lt, le)

-- a relation that may be named has columns
there_of : (q : Query) (n : ℕ) → n ≤ length q.views → (s : Source) → IsEarlier q n s → (cs : List Column) × (columns_of q s ≡ Some cs)
unfolding columns_of
there_of q n le (sources.Table k) lt = let t = get_within q.tables k lt in ((t.0).columns, ap (option_map (λ (t : QTable). t.columns)) t.1)
there_of q n le (sources.Hypo k) lt = let t = get_within q.hypos k lt in ((t.0).columns, ap (option_map (λ (t : QHypo). t.columns)) t.1)
there_of q n le (sources.View k) lt = let t = get_within q.views k (omega (arith, lt, le)) in ((t.0).columns, ap (option_map (λ (t : QView). t.columns)) t.1)

-- a test is the same where it is so of each item
same_any : {A : Type 0} (f g : A → Bool) (P : A → Type 0) → ((x : A) → P x → f x ≡ g x) → (xs : List A) → All P xs → list_any f xs ≡ list_any g xs
same_any f g P same [] all = refl
same_any f g P same (x ∷ xs) all = ap (λ b. b || list_any f xs) (same x (All-head P x xs all)) ∙ ap (λ b. g x || b) (same_any f g P same xs (All-tail P x xs all))

abbrev columns_or_none : Query → Source → List Column
columns_or_none q source = unwrap_or (columns_of q source) []

module _ (q r : Query) (ext : Extends q r) (n : ℕ) (le : n ≤ length q.views) where
  scope_kept : (ss : List Source) → All (IsEarlier q n) ss → map (columns_or_none r) ss ≡ map (columns_or_none q) ss
  scope_kept [] all = refl
  scope_kept (s ∷ ss) all =
      let there = there_of q n le s (All-head (IsEarlier q n) s ss all) in
      ap (λ cs. cs ∷ map (columns_or_none r) ss) (ap (λ o. unwrap_or o []) (columns_kept q r ext s there.0 there.1 ∙ sym there.1))
      ∙ ap (λ l. columns_or_none q s ∷ l) (scope_kept ss (All-tail (IsEarlier q n) s ss all))

  kinds_kept : (columns : List Column) (select : Select) → IsSelectFit q n columns select → item_kinds r select ≡ item_kinds q select
  kinds_kept columns select fit = ap (λ (scope : query.Scope). map (item_kind scope) select.items) (scope_kept select.sources fit.sources)

  select_kept : (columns : List Column) (select : Select) → IsSelectFit q n columns select → IsSelectFit r n columns select
  select_kept columns select fit =
      let scope = sym (scope_kept select.sources fit.sources) in
      let kinds = sym (kinds_kept columns select fit) in
      record {
        sources = All-weaker (IsEarlier q n) (IsEarlier r n) (earlier_kept q r ext n) select.sources fit.sources;
        filter = subst (λ (scope : query.Scope). is_fit_filter scope select.filter ≡ true) scope fit.filter;
        group = subst (λ (scope : query.Scope). All (IsFixedColumn scope) (unwrap_or select.group [])) scope fit.group;
        distinct = λ distinct. subst (All (λ it. is_unknown it ≡ false)) kinds (fit.distinct distinct);
        texts = subst (λ l. map (option_map (λ (it : query.Kind). it.text)) l ≡ map (λ (column : Column). Some column.text) columns) kinds fit.texts;
      }

  view_kept : (view : QView) → IsViewFit q n view → IsViewFit r n view
  view_kept view fit = record {
    arms = All-weaker (IsSelectFit q n view.columns) (IsSelectFit r n view.columns) (select_kept view.columns) view.arms fit.arms;
    marks = λ i column here. fit.marks i column here ∙ sym (same_any (λ arm. is_unknown (unwrap_or (slice_get (item_kinds r arm) i) None)) (λ arm. is_unknown (unwrap_or (slice_get (item_kinds q arm) i) None)) (IsSelectFit q n view.columns)
        (λ arm arm_fit. ap (λ l. is_unknown (unwrap_or (slice_get l i) None)) (kinds_kept view.columns arm arm_fit)) view.arms fit.arms);
  }

module _ (q r : Query) (ext : Extends q r) where
  hypo_kept : (hypo : QHypo) → IsHypoFit q hypo → IsHypoFit r hypo
  hypo_kept hypo fit = record { table = fit.table; there = ext.tables hypo.table fit.table fit.there; columns = fit.columns; bounds = fit.bounds; filter = fit.filter; once = fit.once; keys = fit.keys; dropped = fit.dropped }

  over_kept : (source : Source) (holds : query.Scope → Bool) → IsOver q source holds → IsOver r source holds
  over_kept source holds fit = (fit.0, columns_kept q r ext source fit.0 fit.1, fit.2)

  require_kept : (require : Require) → IsRequireFit q require → IsRequireFit r require
  unfolding IsRequireFit
  require_kept (needs.All source test) fit = over_kept source (λ scope. is_fit scope test) fit
  require_kept (needs.Some source test) fit = over_kept source (λ scope. is_fit scope test) fit
  require_kept (needs.None source) fit = over_kept source (λ scope. true) fit

  aim_kept : (aim : Aim) → IsAimFit q aim → IsAimFit r aim
  unfolding IsAimFit
  aim_kept aims.Find fit = fit
  aim_kept (aims.Sum maximize source part) fit = over_kept source (λ scope. is_number (kind scope part)) fit

-- what was checked so far is well formed
record KnownFit (known : Known) : Type 0 where
  relations : AreThere known
  tables : All IsTableFit known.query.tables
  hypos : All (IsHypoFit known.query) known.query.hypos
  views : (n : ℕ) (view : QView) → slice_get known.query.views n ≡ Some view → IsViewFit known.query n view
  requires_ : All (IsRequireFit known.query) known.query.requires_

-- over the columns of a declared relation
over_relation : (known : Known) → AreThere known → (spot : Spot) (source : Source) → declared known spot ≡ Ok source → (holds : query.Scope → Bool) → holds (columns_in known source ∷ []) ≡ true → IsOver known.query source holds
unfolding columns_in
over_relation known all spot source e holds fit =
    let there = there_of known.query (length known.query.views) (omega arith) source (declared_there known spot source all e) in
    (there.0, there.1, subst (λ cs. holds (cs ∷ []) ≡ true) (ap (λ o. unwrap_or o []) there.1) fit)

have_fit : (known : Known) → AreThere known → (spot : Spot) (test : TreeCond) (it : Source × Cond) → have known spot test ≡ Ok it → small_cond test ≡ true → IsOver known.query it.0 (λ scope. is_fit scope it.1)
have_fit known all spot test it e small =
    let source = came_of (declared known spot) (λ source. cond_in (relation_scope known spot source) test >>= (λ cond. Ok (source, cond))) it e in
    let cond = came_of (cond_in (relation_scope known spot source.0) test) (λ cond. Ok (source.0, cond)) it source.2 in
    subst (λ (it : Source × Cond). IsOver known.query it.0 (λ scope. is_fit scope it.1)) (same_Ok (source.0, cond.0) it cond.2)
    (over_relation known all spot source.0 source.1 (λ scope. is_fit scope cond.0) (cond_fit (relation_scope known spot source.0) test cond.0 cond.1 small))

require_fit : (known : Known) → AreThere known → (tree : TreeRequire) (require : Require) → checked_require known tree ≡ Ok require → small_require tree ≡ true → IsRequireFit known.query require
unfolding checked_require IsRequireFit
require_fit known all (tree_needs.All spot test) require e small =
    let it = came_of (have known spot test) (λ it. Ok (needs.All it.0 it.1)) require e in
    subst (IsRequireFit known.query) (same_Ok (needs.All (it.0).0 (it.0).1) require it.2) (have_fit known all spot test it.0 it.1 small)
require_fit known all (tree_needs.Some spot test) require e small =
    let it = came_of (have known spot test) (λ it. Ok (needs.Some it.0 it.1)) require e in
    subst (IsRequireFit known.query) (same_Ok (needs.Some (it.0).0 (it.0).1) require it.2) (have_fit known all spot test it.0 it.1 small)
require_fit known all (tree_needs.None spot) require e small =
    let source = came_of (declared known spot) (λ source. Ok (needs.None source)) require e in
    subst (IsRequireFit known.query) (same_Ok (needs.None source.0) require source.2) (over_relation known all spot source.0 source.1 (λ scope. true) refl)

goal_fit : (known : Known) → AreThere known → (tree : TreeGoal) (aim : Aim) → checked_goal known tree ≡ Ok aim → small_goal tree ≡ true → IsAimFit known.query aim
unfolding checked_goal IsAimFit
goal_fit known all goals.Find aim e small = subst (IsAimFit known.query) (same_Ok aims.Find aim e) tt
goal_fit known all (goals.Sum maximize part relation) aim e small =
    let it = came_of (summed known part relation) (λ it. Ok (aims.Sum maximize it.0 it.1)) aim e in
    let source = came_of (declared known relation) (λ source. number_in (relation_scope known relation source) part >>= (λ one. Ok (source, one.expr))) it.0 it.1 in
    let one = came_of (number_in (relation_scope known relation source.0) part) (λ one. Ok (source.0, one.expr)) it.0 source.2 in
    subst (IsAimFit known.query) (ap (λ (it : Source × Expr). aims.Sum maximize it.0 it.1) (same_Ok (source.0, (one.0).expr) it.0 one.2) ∙ same_Ok (aims.Sum maximize (it.0).0 (it.0).1) aim it.2)
    (over_relation known all relation source.0 source.1 (λ scope. is_number (kind scope (one.0).expr)) (ap is_number (number_fit (relation_scope known relation source.0) part one.0 one.1 small)))

same_query : (q r : Query) → q.tables ≡ r.tables → q.hypos ≡ r.hypos → q.views ≡ r.views → Extends q r
same_query q r tables hypos views = record {
  tables = λ n t e. subst (λ (l : List QTable). slice_get l n ≡ Some t) tables e;
  hypos = λ n h e. subst (λ (l : List QHypo). slice_get l n ≡ Some h) hypos e;
  views = λ n v e. subst (λ (l : List QView). slice_get l n ≡ Some v) views e;
  more_tables = subst (λ (l : List QTable). length q.tables ≤ length l) tables (omega arith);
  more_hypos = subst (λ (l : List QHypo). length q.hypos ≤ length l) hypos (omega arith);
  more_views = subst (λ (l : List QView). length q.views ≤ length l) views (omega arith);
}

one_table : (known : Known) (table : QTable) → Extends known.query (with_table known table).query
one_table known table = record {
  tables = get_left known.query.tables (table ∷ []);
  hypos = λ n h e. e;
  views = λ n v e. e;
  more_tables = longer known.query.tables table;
  more_hypos = omega arith;
  more_views = omega arith;
}

one_hypo : (known : Known) (hypo : QHypo) → Extends known.query (with_hypo known hypo).query
one_hypo known hypo = record {
  tables = λ n t e. e;
  hypos = get_left known.query.hypos (hypo ∷ []);
  views = λ n v e. e;
  more_tables = omega arith;
  more_hypos = longer known.query.hypos hypo;
  more_views = omega arith;
}

one_view : (known : Known) (view : QView) → Extends known.query (with_view known view).query
one_view known view = record {
  tables = λ n t e. e;
  hypos = λ n h e. e;
  views = get_left known.query.views (view ∷ []);
  more_tables = omega arith;
  more_hypos = omega arith;
  more_views = longer known.query.views view;
}

-- what was well formed before one more declaration stays so
relations_kept : (known : Known) (r : Query) (ext : Extends known.query r) → AreThere known → All (λ (relation : Relation). IsEarlier r (length r.views) relation.source) known.relations
relations_kept known r ext all =
    All-weaker (λ (relation : Relation). IsEarlier known.query (length known.query.views) relation.source) (λ (relation : Relation). IsEarlier r (length r.views) relation.source)
    (λ relation. later_kept known.query r ext (length known.query.views) (length r.views) ext.more_views relation.source) known.relations all

hypos_kept : (known : Known) (r : Query) → Extends known.query r → All (IsHypoFit known.query) known.query.hypos → All (IsHypoFit r) known.query.hypos
hypos_kept known r ext all = All-weaker (IsHypoFit known.query) (IsHypoFit r) (hypo_kept known.query r ext) known.query.hypos all

requires_kept : (known : Known) (r : Query) → Extends known.query r → All (IsRequireFit known.query) known.query.requires_ → All (IsRequireFit r) known.query.requires_
requires_kept known r ext all = All-weaker (IsRequireFit known.query) (IsRequireFit r) (require_kept known.query r ext) known.query.requires_ all

views_kept : (known : Known) (r : Query) → Extends known.query r → ((n : ℕ) (view : QView) → slice_get known.query.views n ≡ Some view → IsViewFit known.query n view) → (n : ℕ) (view : QView) → slice_get known.query.views n ≡ Some view → IsViewFit r n view
views_kept known r ext all n view here = let within = slice_get_within known.query.views n view here in view_kept known.query r ext n (omega (arith, within)) view (all n view here)

table_known : (known : Known) (table : QTable) → KnownFit known → IsTableFit table → KnownFit (with_table known table)
table_known known table fit new =
    let r : Query = (with_table known table).query in
    let ext = one_table known table in
    record {
      relations = All-push (λ (relation : Relation). IsEarlier r (length r.views) relation.source) known.relations (record { name = table.name; source = sources.Table (length known.query.tables) }) (relations_kept known r ext fit.relations) (last_within known.query.tables table);
      tables = All-push IsTableFit known.query.tables table fit.tables new;
      hypos = hypos_kept known r ext fit.hypos;
      views = views_kept known r ext fit.views;
      requires_ = requires_kept known r ext fit.requires_;
    }

hypo_known : (known : Known) (hypo : QHypo) → KnownFit known → IsHypoFit known.query hypo → KnownFit (with_hypo known hypo)
hypo_known known hypo fit new =
    let r : Query = (with_hypo known hypo).query in
    let ext = one_hypo known hypo in
    record {
      relations = All-push (λ (relation : Relation). IsEarlier r (length r.views) relation.source) known.relations (record { name = hypo.name; source = sources.Hypo (length known.query.hypos) }) (relations_kept known r ext fit.relations) (last_within known.query.hypos hypo);
      tables = fit.tables;
      hypos = All-push (IsHypoFit r) known.query.hypos hypo (hypos_kept known r ext fit.hypos) (hypo_kept known.query r ext hypo new);
      views = views_kept known r ext fit.views;
      requires_ = requires_kept known r ext fit.requires_;
    }

view_known : (known : Known) (view : QView) → KnownFit known → IsViewFit known.query (length known.query.views) view → KnownFit (with_view known view)
view_known known view fit new =
    let r : Query = (with_view known view).query in
    let ext = one_view known view in
    record {
      relations = All-push (λ (relation : Relation). IsEarlier r (length r.views) relation.source) known.relations (record { name = view.name; source = sources.View (length known.query.views) }) (relations_kept known r ext fit.relations) (last_within known.query.views view);
      tables = fit.tables;
      hypos = hypos_kept known r ext fit.hypos;
      views = λ n other here. by_place n other (get_last known.query.views view n other here);
      requires_ = requires_kept known r ext fit.requires_;
    }
  where
    by_place : (n : ℕ) (other : QView) → (slice_get known.query.views n ≡ Some other) ⊎ ((n ≡ length known.query.views) × (view ≡ other)) → IsViewFit (with_view known view).query n other
    by_place n other (inl early) = views_kept known (with_view known view).query (one_view known view) fit.views n other early
    by_place n other (inr last) =
        subst (λ v. IsViewFit (with_view known view).query n v) last.1 (subst (λ k. IsViewFit (with_view known view).query k view) (sym last.0)
        (view_kept known.query (with_view known view).query (one_view known view) (length known.query.views) (omega arith) view new))

require_known : (known : Known) (require : Require) → KnownFit known → IsRequireFit known.query require → KnownFit (with_require known require)
require_known known require fit new =
    let r : Query = (with_require known require).query in
    let ext : Extends known.query r = same_query known.query r refl refl refl in
    record {
      relations = relations_kept known r ext fit.relations;
      tables = fit.tables;
      hypos = hypos_kept known r ext fit.hypos;
      views = views_kept known r ext fit.views;
      requires_ = All-push (IsRequireFit r) known.query.requires_ require (requires_kept known r ext fit.requires_) (require_kept known.query r ext require new);
    }

decl_step : (known next : Known) (decl : Decl) → small_decl decl ≡ true → with_decl known decl ≡ Ok next → KnownFit known → KnownFit next
unfolding with_decl
decl_step known next (decls.Table tree) small e fit =
    let table = came_of (checked_table known tree) (λ table. Ok (with_table known table)) next e in
    subst KnownFit (same_Ok (with_table known table.0) next table.2) (table_known known table.0 fit (table_fit known tree table.0 table.1))
decl_step known next (decls.Hypo tree) small e fit =
    let hypo = came_of (checked_hypo known tree) (λ hypo. Ok (with_hypo known hypo)) next e in
    subst KnownFit (same_Ok (with_hypo known hypo.0) next hypo.2) (hypo_known known hypo.0 fit (hypo_fit known tree hypo.0 hypo.1 small))
decl_step known next (decls.View tree) small e fit =
    let view = came_of (checked_view known tree) (λ view. Ok (with_view known view)) next e in
    subst KnownFit (same_Ok (with_view known view.0) next view.2) (view_known known view.0 fit (view_fit known tree view.0 fit.relations view.1 small))
decl_step known next (decls.Require tree) small e fit =
    let require = came_of (checked_require known tree) (λ require. Ok (with_require known require)) next e in
    subst KnownFit (same_Ok (with_require known require.0) next require.2) (require_known known require.0 fit (require_fit known fit.relations tree require.0 require.1 small))

-- a checked query is well formed, where every number in its tree is small
pub well_formed : (tree : Tree) (q : Query) → HasSmallNumbers tree → checked tree ≡ Ok q → IsWellFormed q
unfolding checked HasSmallNumbers
well_formed tree q small e =
    let tests = and_parts (list_all small_decl tree.decls) (small_goal tree.goal) small in
    let known = came_of (in_turn with_decl nothing tree.decls) (λ known. checked_goal known tree.goal >>= (λ aim. Ok (record known.query { aim = aim }))) q e in
    let aim = came_of (checked_goal known.0 tree.goal) (λ aim. Ok (record (known.0).query { aim = aim })) q known.2 in
    let fit = through with_decl KnownFit small_decl decl_step tree.decls nothing known.0 tests.0 known.1 (record {
      relations = All-nil (λ (relation : Relation). IsEarlier nothing.query (length nothing.query.views) relation.source);
      tables = All-nil IsTableFit;
      hypos = All-nil (IsHypoFit nothing.query);
      views = λ n view h. absurd (let k : None ≡ Some view = h in cc);
      requires_ = All-nil (IsRequireFit nothing.query);
    }) in
    let r : Query = record (known.0).query { aim = aim.0 } in
    let ext : Extends (known.0).query r = same_query (known.0).query r refl refl refl in
    subst IsWellFormed (same_Ok r q aim.2) (record {
      tables = fit.tables;
      hypos = hypos_kept known.0 r ext fit.hypos;
      views = views_kept known.0 r ext fit.views;
      requires_ = requires_kept known.0 r ext fit.requires_;
      aim = aim_kept (known.0).query r ext aim.0 (goal_fit known.0 fit.relations tree.goal aim.0 aim.1 tests.1);
    })

-- the clause of the call that checks
pub checked_well : (tree : Tree) (r : Result Query SoundFault) → ChecksTo (checked tree) r → HasText tree → IfOk r (λ q. IsWellFormed q)
checked_well tree (Ok q) gives has = well_formed tree q (text_small tree has) gives
checked_well tree (Err e) gives has = tt
