-- trees that are the same, places aside, have one text
use Rattle.std.proofs.Common.{◌≡◌, ℕ, ◌+◌, drop, ◌<◌, Bool, List, [], ◌∷◌, map, length, refl, sym, ◌∙◌, ap, subst, arith, option_map, is_some}
use Rattle.std.specs.List.{AllByRecursion}
use Rattle.std.specs.declared.option.Option.{Option}
use Rattle.std.specs.declared.option.Option.TheVariants.{None, Some}
use Rattle.base_kit.specs.declared.place.Place.{Place}
use Rattle.tiql_tree.specs.declared.expression.TreeRef.{TreeRef}
use Rattle.tiql_tree.specs.declared.expression.TreeExpr.{TreeExpr}
use Rattle.tiql_tree.specs.declared.condition.TreeCond.{TreeCond}
use Rattle.tiql_tree.specs.declared.tree.Tree.{Tree}
use Rattle.tiql_tree.specs.declared.tree.Decl.{Decl}
use Rattle.tiql_tree.specs.declared.tree.Decl.TheVariants.{Table, Hypo, View, Require}
use Rattle.tiql_tree.specs.declared.tree.TreeTable.{TreeTable}
use Rattle.tiql_tree.specs.declared.tree.TreeBound.{TreeBound}
use Rattle.tiql_tree.specs.declared.tree.TreeHypo.{TreeHypo}
use Rattle.tiql_tree.specs.declared.tree.TreeView.{TreeView}
use Rattle.tiql_tree.specs.declared.tree.TreeSelect.{TreeSelect}
use Rattle.tiql_tree.specs.declared.tree.TreeItem.{TreeItem}
use Rattle.tiql_tree.specs.declared.tree.TreeValue.{TreeValue}
use Rattle.tiql_tree.specs.declared.tree.TreeValue.TheVariants as values
use Rattle.tiql_tree.specs.declared.tree.TreeRequire.{TreeRequire}
use Rattle.tiql_tree.specs.declared.tree.TreeRequire.TheVariants as needs
use Rattle.tiql_tree.specs.declared.tree.TreeGoal.{TreeGoal}
use Rattle.tiql_tree.specs.declared.tree.TreeGoal.TheVariants as goals
use Rattle.tiql_tree.specs.Words.{Several, parts_of}
use Rattle.tiql_tree.specs.Texts.{RefText, ExprText, CondText, ColumnText, BoundText, TableText, HypoText, ItemText, SourceText, SelectText, ViewText, DeclText, GoalText, QueryText}
use Rattle.tiql_tree.specs.Texts.ItemText.{count_item, plain_item, sum_item, min_item, max_item}
use Rattle.tiql_tree.specs.Texts.RequireText.{all_have, some_have}
use Rattle.tiql_tree.specs.Texts.DeclText.{table_decl, hypo_decl, view_decl, require_decl}
use Rattle.tiql_tree.specs.Texts.GoalText.{sum_goal}
use Rattle.tiql_tree.specs.Trees.{Places, laid, table_tree, select_tree, view_tree, decl_tree, query_tree}
use Rattle.tiql_tree.specs.Unplaced.{no_place, spot_only, ref_only, expr_only, cond_only, column_only, table_only, bound_only, hypo_only, value_only, item_only, source_only, select_only, view_only, require_only, decl_only, goal_only, tree_only}
use Rattle.tiql_tree.specs.Printed.{as_expr, as_cond, several, several_if, ref_text, expr_text, cond_text, name_of, column_text, table_text, bound_text, hypo_text, value_text_as, item_text, source_text, select_text, no_select, view_text, require_text, decl_text, goal_text, tree_text}
use Rattle.tiql_tree.proofs.Erase.{same_made, same_cond_made}
use Rattle.tiql_tree.proofs.Lines.{WholeSelect, WholeDecl}

expr_alike : (e : TreeExpr) → expr_text e ≡ expr_text (expr_only e)
expr_alike e = ap as_expr (same_made e)

cond_alike : (c : TreeCond) → cond_text c ≡ cond_text (cond_only c)
cond_alike c = ap as_cond (same_cond_made c)

filter_alike : (f : Option TreeCond) → option_map cond_text f ≡ option_map cond_text (option_map cond_only f)
filter_alike None = refl
filter_alike (Some c) = ap Some (cond_alike c)

module _ {A B : Type 0} (text : A → B) (only : A → A) (same : (x : A) → text x ≡ text (only x)) where
  texts_alike : (xs : List A) → map text xs ≡ map text (map only xs)
  texts_alike [] = refl
  texts_alike (x ∷ xs) = ap (λ (b : B). b ∷ map text xs) (same x) ∙ ap (λ (l : List B). text (only x) ∷ l) (texts_alike xs)

  several_alike : (none : B) (xs : List A) → several none text xs ≡ several none text (map only xs)
  several_alike none [] = refl
  several_alike none (x ∷ xs) = ap (λ (b : B). several_of b (map text xs)) (same x) ∙ ap (several_of (text (only x))) (texts_alike xs)
    where
      several_of : B → List B → Several B
      several_of first more = record { first = first; more = more }

  if_alike : (xs : List A) → several_if text xs ≡ several_if text (map only xs)
  if_alike [] = refl
  if_alike (x ∷ xs) = ap Some (several_alike (text x) (x ∷ xs) ∙ refl)

ref_alike : (r : TreeRef) → ref_text r ≡ ref_text (ref_only r)
ref_alike r = refl

table_alike : (t : TreeTable) → table_text t ≡ table_text (table_only t)
unfolding table_text
table_alike t = ap (λ (c : Several ColumnText). table_of c (several_if name_of t.key)) (several_alike column_text column_only (λ c. refl) _ t.columns) ∙ ap (table_of _) (if_alike name_of spot_only (λ s. refl) t.key)
  where
    table_of : Several ColumnText → Option (Several (List ℕ)) → TableText
    table_of columns names = record { name = t.name.name; columns = columns; key_names = names }

bound_alike : (b : TreeBound) → bound_text b ≡ bound_text (bound_only b)
bound_alike b = ap (λ (e : ExprText). bound_of e (expr_text b.hi)) (expr_alike b.lo) ∙ ap (bound_of (expr_text (expr_only b.lo))) (expr_alike b.hi)
  where
    bound_of : ExprText → ExprText → BoundText
    bound_of lo hi = record { name = b.name.name; lo = lo; hi = hi }

drop_alike : (d : Option Place) → is_some d ≡ is_some (option_map (λ (place : Place). no_place) d)
drop_alike None = refl
drop_alike (Some p) = refl

hypo_alike : (h : TreeHypo) → hypo_text h ≡ hypo_text (hypo_only h)
unfolding hypo_text
hypo_alike h =
    ap (λ (b : Option (Several BoundText)). hypo_of b (option_map cond_text h.filter) (is_some h.dropped)) (if_alike bound_text bound_only bound_alike h.set)
    ∙ ap (λ (f : Option CondText). hypo_of (several_if bound_text (map bound_only h.set)) f (is_some h.dropped)) (filter_alike h.filter)
    ∙ ap (hypo_of (several_if bound_text (map bound_only h.set)) (option_map cond_text (option_map cond_only h.filter))) (drop_alike h.dropped)
  where
    hypo_of : Option (Several BoundText) → Option CondText → Bool → HypoText
    hypo_of bounds filter dropped = record { name = h.name.name; table = h.table.name; bounds = bounds; filter = filter; is_dropped = dropped }

value_alike : (v : TreeValue) (name : List ℕ) → value_text_as v name ≡ value_text_as (value_only v) name
value_alike (values.Plain e) name = ap (λ (x : ExprText). plain_item x name) (expr_alike e)
value_alike (values.Sum e) name = ap (λ (x : ExprText). sum_item x name) (expr_alike e)
value_alike values.Count name = refl
value_alike (values.Min e) name = ap (λ (x : ExprText). min_item x name) (expr_alike e)
value_alike (values.Max e) name = ap (λ (x : ExprText). max_item x name) (expr_alike e)

item_alike : (i : TreeItem) → item_text i ≡ item_text (item_only i)
unfolding item_text
item_alike i = value_alike i.value i.name.name

select_alike : (s : TreeSelect) → select_text s ≡ select_text (select_only s)
unfolding select_text
select_alike s =
    ap (λ (x : Several ItemText). select_of x (several (record { relation = []; alias = None }) source_text s.sources) (option_map cond_text s.filter) (several_if ref_text s.group)) (several_alike item_text item_only item_alike (count_item []) s.items)
    ∙ ap (λ (x : Several SourceText). select_of (several (count_item []) item_text (map item_only s.items)) x (option_map cond_text s.filter) (several_if ref_text s.group)) (several_alike source_text source_only (λ x. refl) (record { relation = []; alias = None }) s.sources)
    ∙ ap (λ (x : Option CondText). select_of (several (count_item []) item_text (map item_only s.items)) (several (record { relation = []; alias = None }) source_text (map source_only s.sources)) x (several_if ref_text s.group)) (filter_alike s.filter)
    ∙ ap (select_of (several (count_item []) item_text (map item_only s.items)) (several (record { relation = []; alias = None }) source_text (map source_only s.sources)) (option_map cond_text (option_map cond_only s.filter))) (if_alike ref_text ref_only ref_alike s.group)
  where
    select_of : Several ItemText → Several SourceText → Option CondText → Option (Several RefText) → SelectText
    select_of items sources filter group = record { is_distinct = s.distinct; items = items; sources = sources; filter = filter; group = group }

view_alike : (v : TreeView) → view_text v ≡ view_text (view_only v)
unfolding view_text
view_alike v = ap view_of (several_alike select_text select_only select_alike no_select v.arms)
  where
    view_of : Several SelectText → ViewText
    view_of arms = record { name = v.name.name; arms = arms }

require_alike : (r : TreeRequire) → require_text r ≡ require_text (require_only r)
unfolding require_text
require_alike (needs.All name c) = ap (all_have name.name) (cond_alike c)
require_alike (needs.Some name c) = ap (some_have name.name) (cond_alike c)
require_alike (needs.None name) = refl

decl_alike : (d : Decl) → decl_text d ≡ decl_text (decl_only d)
unfolding decl_text
decl_alike (Table table) = ap table_decl (table_alike table)
decl_alike (Hypo hypo) = ap hypo_decl (hypo_alike hypo)
decl_alike (View view) = ap view_decl (view_alike view)
decl_alike (Require require) = ap require_decl (require_alike require)

goal_alike : (g : TreeGoal) → goal_text g ≡ goal_text (goal_only g)
unfolding goal_text
goal_alike goals.Find = refl
goal_alike (goals.Sum maximize part relation) = ap (λ (e : ExprText). sum_goal maximize e relation.name) (expr_alike part)

tree_alike : (t : Tree) → tree_text t ≡ tree_text (tree_only t)
unfolding tree_text tree_only
tree_alike t = ap (λ (ds : List DeclText). query_of ds (goal_text t.goal)) (texts_alike decl_text decl_only decl_alike t.decls) ∙ ap (query_of (map decl_text (map decl_only t.decls))) (goal_alike t.goal)
  where
    query_of : List DeclText → GoalText → QueryText
    query_of decls goal = record { decls = decls; goal = goal }

pub text_alike : (one other : Tree) → tree_only one ≡ tree_only other → tree_text one ≡ tree_text other
text_alike one other same = tree_alike one ∙ ap tree_text same ∙ sym (tree_alike other)

-- lists are as long without places
some_map : {A B : Type 0} (f : A → B) (xs : List A) → 0 < length xs → 0 < length (map f xs)
some_map f [] some = absurd (omega arith)
some_map f (x ∷ xs) some = omega arith

map_some : {A B : Type 0} (f : A → B) (xs : List A) → 0 < length (map f xs) → 0 < length xs
map_some f [] some = absurd (omega arith)
map_some f (x ∷ xs) some = omega arith

arms_only : (xs : List TreeSelect) → AllByRecursion WholeSelect xs → AllByRecursion WholeSelect (map select_only xs)
arms_only [] all = tt
arms_only (x ∷ xs) all = (record { items = some_map item_only x.items (all.0).items; sources = some_map source_only x.sources (all.0).sources }, arms_only xs all.1)

only_arms : (xs : List TreeSelect) → AllByRecursion WholeSelect (map select_only xs) → AllByRecursion WholeSelect xs
only_arms [] all = tt
only_arms (x ∷ xs) all = (record { items = map_some item_only x.items (all.0).items; sources = map_some source_only x.sources (all.0).sources }, only_arms xs all.1)

decls_only : (ds : List Decl) → AllByRecursion WholeDecl ds → AllByRecursion WholeDecl (map decl_only ds)
decls_only [] all = tt
decls_only (Table t ∷ ds) all = (some_map column_only t.columns all.0, decls_only ds all.1)
decls_only (Hypo h ∷ ds) all = (tt, decls_only ds all.1)
decls_only (View v ∷ ds) all = ((some_map select_only v.arms (all.0).0, arms_only v.arms (all.0).1), decls_only ds all.1)
decls_only (Require r ∷ ds) all = (tt, decls_only ds all.1)

only_decls : (ds : List Decl) → AllByRecursion WholeDecl (map decl_only ds) → AllByRecursion WholeDecl ds
only_decls [] all = tt
only_decls (Table t ∷ ds) all = (map_some column_only t.columns all.0, only_decls ds all.1)
only_decls (Hypo h ∷ ds) all = (tt, only_decls ds all.1)
only_decls (View v ∷ ds) all = ((map_some select_only v.arms (all.0).0, only_arms v.arms (all.0).1), only_decls ds all.1)
only_decls (Require r ∷ ds) all = (tt, only_decls ds all.1)

pub whole_alike : (one other : Tree) → tree_only one ≡ tree_only other → AllByRecursion WholeDecl one.decls → AllByRecursion WholeDecl other.decls
unfolding tree_only
whole_alike one other same all = only_decls other.decls (subst (λ (t : Tree). AllByRecursion WholeDecl t.decls) same (decls_only one.decls all))

-- the tree of a text has all parts
arms_whole : (size : SelectText → ℕ) (ps : Places) (xs : List SelectText) → AllByRecursion WholeSelect (laid 2 size select_tree ps xs)
unfolding select_tree
arms_whole size ps [] = tt
arms_whole size ps (x ∷ xs) = (record { items = omega arith; sources = omega arith }, arms_whole size (drop (size x + 2) ps) xs)

decl_whole : (ps : Places) (d : DeclText) → WholeDecl (decl_tree ps d)
unfolding decl_tree table_tree view_tree
decl_whole ps (table_decl table) = omega arith
decl_whole ps (hypo_decl hypo) = tt
decl_whole ps (view_decl view) = (omega arith, arms_whole _ _ (parts_of view.arms))
decl_whole ps (require_decl require) = tt

decls_whole : (size : DeclText → ℕ) (ps : Places) (ds : List DeclText) → AllByRecursion WholeDecl (laid 0 size decl_tree ps ds)
decls_whole size ps [] = tt
decls_whole size ps (d ∷ ds) = (decl_whole ps d, decls_whole size (drop (size d + 0) ps) ds)

pub query_whole : (ps : Places) (q : QueryText) → AllByRecursion WholeDecl (query_tree ps q).decls
unfolding query_tree
query_whole ps q = decls_whole _ ps q.decls
