-- the text of a query as it is printed gives the same tree, places aside
use Rattle.std.proofs.Common.{◌≡◌, ℕ, ◌+◌, Bool, true, false, cond, List, [], ◌∷◌, ◌++◌, map, length, drop, flat_map, codes, refl, ◌∙◌, ap, option_map}
use Rattle.std.specs.List.{AllByRecursion}
use Rattle.std.specs.declared.option.Option.{Option}
use Rattle.std.specs.declared.option.Option.TheVariants.{None, Some}
use Rattle.base_kit.specs.declared.place.Place.{Place}
use Rattle.tiql_tree.specs.declared.expression.TreeExpr.{TreeExpr}
use Rattle.tiql_tree.specs.declared.expression.TreeRef.{TreeRef}
use Rattle.tiql_tree.specs.declared.condition.TreeCond.{TreeCond}
use Rattle.tiql_tree.specs.declared.tree.Spot.{Spot}
use Rattle.tiql_tree.specs.declared.tree.Tree.{Tree}
use Rattle.tiql_tree.specs.declared.tree.Decl.{Decl}
use Rattle.tiql_tree.specs.declared.tree.Decl.TheVariants.{Table, Hypo, View, Require}
use Rattle.tiql_tree.specs.declared.tree.TreeColumn.{TreeColumn}
use Rattle.tiql_tree.specs.declared.tree.TreeTable.{TreeTable}
use Rattle.tiql_tree.specs.declared.tree.TreeBound.{TreeBound}
use Rattle.tiql_tree.specs.declared.tree.TreeHypo.{TreeHypo}
use Rattle.tiql_tree.specs.declared.tree.TreeSelect.{TreeSelect}
use Rattle.tiql_tree.specs.declared.tree.TreeSource.{TreeSource}
use Rattle.tiql_tree.specs.declared.tree.TreeItem.{TreeItem}
use Rattle.tiql_tree.specs.declared.tree.TreeValue.{TreeValue}
use Rattle.tiql_tree.specs.declared.tree.TreeValue.TheVariants as values
use Rattle.tiql_tree.specs.declared.tree.TreeRequire.TheVariants as needs
use Rattle.tiql_tree.specs.declared.tree.TreeGoal.{TreeGoal}
use Rattle.tiql_tree.specs.declared.tree.TreeGoal.TheVariants as goals
use Rattle.tiql_tree.specs.Words.{Word, key, sign, named, Several, parts_of, with_between}
use Rattle.tiql_tree.specs.Texts.{RefText, ExprText, CondText}
use Rattle.tiql_tree.specs.Texts.{ColumnText, TableText, BoundText, HypoText, ItemText, SourceText, SelectText, ViewText}
use Rattle.tiql_tree.specs.Texts.{RequireText, DeclText, GoalText, QueryText}
use Rattle.tiql_tree.specs.Texts.RefText.{alone, qualified}
use Rattle.tiql_tree.specs.Texts.FactorText.{reference}
use Rattle.tiql_tree.specs.Texts.ItemText.{lone_ref, plain_item, sum_item, min_item, max_item, count_item}
use Rattle.tiql_tree.specs.Texts.RequireText.{all_have, some_have, none_is}
use Rattle.tiql_tree.specs.Texts.DeclText.{table_decl, hypo_decl, view_decl, require_decl}
use Rattle.tiql_tree.specs.Texts.GoalText.{find_goal, sum_goal}
use Rattle.tiql_tree.specs.Grammar.{comma, optional, in_parens, alias_words, ref_words, expr_words, cond_words, column_words, bound_words, bounds_words, filter_words, hypo_words, item_words, source_words, select_words, view_words, require_words, decl_words, goal_words, query_words}
use Rattle.tiql_tree.specs.declared.tree.TreeView.{TreeView}
use Rattle.tiql_tree.specs.Trees.{Places, spot, laid_if, ref_tree, ref_name, expr_tree, filter_tree, column_tree, table_tree, bound_tree, hypo_tree, item_tree, source_tree, select_tree, view_tree, require_tree, decl_tree, goal_tree, query_tree}
use Rattle.tiql_tree.specs.Unplaced.{no_place, spot_only, ref_only, cond_only, column_only, table_only, bound_only, hypo_only, item_only, source_only, select_only, view_only, require_only, decl_only, goal_only, tree_only}
use Rattle.tiql_tree.proofs.GoodWords.{all_front, all_back}
use Rattle.tiql_tree.proofs.Neat.{neat_tree, same_factor, ref_only-same}
use Rattle.tiql_tree.proofs.NeatCond.{neat_cond_tree}
use Rattle.tiql_tree.proofs.NeatQuery.{whole_cond, itself, neat_table, neat_bound, neat_hypo, neat_item, neat_source, neat_select, neat_view, neat_require, neat_decl, neat_goal, neat_query}
use Rattle.tiql_tree.proofs.Parts.{map_several, trees_laid, parts_good}
use Rattle.tiql_tree.proofs.Written.{Good}

abbrev pub AllGood : List Word → Type 0
AllGood words = AllByRecursion Good words

filter_same : (ps qs : Places) (f : Option CondText) → AllGood (filter_words f) → option_map cond_only (filter_tree ps (option_map whole_cond f)) ≡ option_map cond_only (filter_tree qs f)
filter_same ps qs None good = refl
filter_same ps qs (Some c) good = ap Some (neat_cond_tree (drop 1 ps) (drop 1 qs) c good.1)

abbrev AllIf : {A : Type 0} → (A → Type 0) → Option (Several A) → Type 0
AllIf P None = Unit {0}
AllIf P (Some parts) = AllByRecursion P (parts_of parts)

if_same : {A B D : Type 0} (size : A → ℕ) (tree : Places → A → B) (only : B → D) (neat : A → A) (P : A → Type 0) → ((ps qs : Places) (x : A) → P x → only (tree ps (neat x)) ≡ only (tree qs x)) → (ps qs : Places) (parts : Option (Several A)) → AllIf P parts → map only (laid_if size tree ps (option_map (map_several neat) parts)) ≡ map only (laid_if size tree qs parts)
if_same size tree only neat P same ps qs None all = refl
if_same size tree only neat P same ps qs (Some parts) all = trees_laid 1 size tree only neat P same ps qs (parts_of parts) all

abbrev Any : {A : Type 0} → A → Type 0
Any x = Unit {0}

all_any : {A : Type 0} (xs : List A) → AllByRecursion Any xs
all_any [] = tt
all_any (x ∷ xs) = (tt, all_any xs)

all_if_any : {A : Type 0} (parts : Option (Several A)) → AllIf Any parts
all_if_any None = tt
all_if_any (Some parts) = all_any (parts_of parts)

column_same : (ps qs : Places) (c : ColumnText) → column_only (column_tree ps c) ≡ column_only (column_tree qs c)
unfolding column_tree
column_same ps qs c = refl

table_alike : (name : Spot) (cs cs' : List TreeColumn) (ns ns' : List Spot) → cs ≡ cs' → ns ≡ ns' → (let one : TreeTable = record { name = name; columns = cs; key = ns } in one) ≡ record { name = name; columns = cs'; key = ns' }
table_alike name cs cs' ns ns' one other = ap (λ (c : List TreeColumn). table_of c ns) one ∙ ap (table_of cs') other
  where
    table_of : List TreeColumn → List Spot → TreeTable
    table_of columns names = record { name = name; columns = columns; key = names }

table_same : (ps qs : Places) (t : TableText) → table_only (table_tree ps (neat_table t)) ≡ table_only (table_tree qs t)
unfolding table_tree
table_same ps qs t = table_alike _ _ _ _ _
    (trees_laid 1 (λ column. 2) column_tree column_only itself Any (λ rs ss x any. column_same rs ss x) (drop 3 ps) (drop 3 qs) (parts_of t.columns) (all_any (parts_of t.columns)))
    (if_same (λ name. 1) (spot 0) spot_only itself Any (λ rs ss x any. refl) (drop (3 + length (with_between comma column_words (map_several itself t.columns)) + 3) ps) (drop (3 + length (with_between comma column_words t.columns) + 3) qs) t.key_names (all_if_any t.key_names))

bound_alike : (name : Spot) (a a' b b' : TreeExpr) → a ≡ a' → b ≡ b' → (let one : TreeBound = record { name = name; lo = a; hi = b } in one) ≡ record { name = name; lo = a'; hi = b' }
bound_alike name a a' b b' one other = ap (λ (e : TreeExpr). bound_of e b) one ∙ ap (bound_of a') other
  where
    bound_of : TreeExpr → TreeExpr → TreeBound
    bound_of lo hi = record { name = name; lo = lo; hi = hi }

abbrev IsGoodBound : BoundText → Type 0
IsGoodBound b = AllGood (bound_words b)

bound_same : (ps qs : Places) (b : BoundText) → IsGoodBound b → bound_only (bound_tree ps (neat_bound b)) ≡ bound_only (bound_tree qs b)
unfolding bound_tree bound_words
bound_same ps qs b good =
    let front = all_front (named b.name ∷ key (codes "IN") ∷ expr_words b.lo) _ good in
    let back = all_back (named b.name ∷ key (codes "IN") ∷ expr_words b.lo) _ good in
    bound_alike _ _ _ _ _ (neat_tree _ _ b.lo front.1.1) (neat_tree _ _ b.hi back.1)

bounds_good : (bounds : Option (Several BoundText)) → AllGood (bounds_words bounds) → AllIf IsGoodBound bounds
bounds_good None good = tt
bounds_good (Some parts) good = parts_good comma bound_words parts good.1

dropped_same : (b : Bool) (p q : Place) → option_map (λ (place : Place). no_place) (cond b (Some p) None) ≡ option_map (λ (place : Place). no_place) (cond b (Some q) None)
dropped_same true p q = refl
dropped_same false p q = refl

hypo_alike : (name table : Spot) (bs bs' : List TreeBound) (f f' : Option TreeCond) (d d' : Option Place) → bs ≡ bs' → f ≡ f' → d ≡ d' → (let one : TreeHypo = record { name = name; table = table; set = bs; filter = f; dropped = d } in one) ≡ record { name = name; table = table; set = bs'; filter = f'; dropped = d' }
hypo_alike name table bs bs' f f' d d' one two three = ap (λ (b : List TreeBound). hypo_of b f d) one ∙ ap (λ (g : Option TreeCond). hypo_of bs' g d) two ∙ ap (hypo_of bs' f') three
  where
    hypo_of : List TreeBound → Option TreeCond → Option Place → TreeHypo
    hypo_of set filter dropped = record { name = name; table = table; set = set; filter = filter; dropped = dropped }

abbrev pub hypo_head : HypoText → List Word
hypo_head h = key (codes "HYPO") ∷ named h.name ∷ key (codes "FROM") ∷ named h.table ∷ []

abbrev pub drop_words : Bool → List Word
drop_words dropped = cond dropped (key (codes "DROP") ∷ []) []

abbrev pub stop_words : List Word
stop_words = sign (codes ";") ∷ []

-- the words of the parts of a hypothetical table
pub record HypoGood (h : HypoText) : Type 0 where
  pub head : AllGood (hypo_head h)
  pub bounds : AllGood (bounds_words h.bounds)
  pub filter : AllGood (filter_words h.filter)
  pub drops : AllGood (drop_words h.is_dropped)
  pub stop : AllGood stop_words

pub hypo_good : (h : HypoText) → AllGood (hypo_words h) → HypoGood h
unfolding hypo_words
hypo_good h good =
    let a = all_front (hypo_head h ++ bounds_words h.bounds ++ filter_words h.filter ++ drop_words h.is_dropped) stop_words good in
    let b = all_front (hypo_head h ++ bounds_words h.bounds ++ filter_words h.filter) (drop_words h.is_dropped) a in
    let c = all_front (hypo_head h ++ bounds_words h.bounds) (filter_words h.filter) b in
    record {
      head = all_front (hypo_head h) (bounds_words h.bounds) c;
      bounds = all_back (hypo_head h) (bounds_words h.bounds) c;
      filter = all_back (hypo_head h ++ bounds_words h.bounds) (filter_words h.filter) b;
      drops = all_back (hypo_head h ++ bounds_words h.bounds ++ filter_words h.filter) (drop_words h.is_dropped) a;
      stop = all_back (hypo_head h ++ bounds_words h.bounds ++ filter_words h.filter ++ drop_words h.is_dropped) stop_words good;
    }

hypo_same : (ps qs : Places) (h : HypoText) → AllGood (hypo_words h) → hypo_only (hypo_tree ps (neat_hypo h)) ≡ hypo_only (hypo_tree qs h)
unfolding hypo_tree
hypo_same ps qs h good =
    let parts = hypo_good h good in
    hypo_alike _ _ _ _ _ _ _ _
    (if_same _ bound_tree bound_only neat_bound IsGoodBound bound_same (drop 5 ps) (drop 5 qs) h.bounds (bounds_good h.bounds parts.bounds))
    (filter_same (drop (4 + length (bounds_words (option_map (map_several neat_bound) h.bounds))) ps) (drop (4 + length (bounds_words h.bounds)) qs) h.filter parts.filter)
    (dropped_same h.is_dropped _ _)

item_alike : (name : Spot) (v v' : TreeValue) → v ≡ v' → (let one : TreeItem = record { place = no_place; value = v; name = name } in one) ≡ record { place = no_place; value = v'; name = name }
item_alike name v v' same = ap item_of same
  where
    item_of : TreeValue → TreeItem
    item_of value = record { place = no_place; value = value; name = name }

pub in_parens_back : {w : Word} (expr : ExprText) → AllGood (w ∷ in_parens (expr_words expr)) → AllGood (expr_words expr)
in_parens_back expr good = all_front (expr_words expr) _ good.1.1

item_same : (ps qs : Places) (i : ItemText) → AllGood (item_words i) → item_only (item_tree ps (neat_item i)) ≡ item_only (item_tree qs i)
unfolding item_tree item_words expr_tree ref_name
item_same ps qs (lone_ref (alone column)) good = item_alike _ _ _ (ap values.Plain (same_factor ps qs (reference (alone column))))
item_same ps qs (lone_ref (qualified relation column)) good = item_alike _ _ _ (ap values.Plain (same_factor ps qs (reference (qualified relation column))))
item_same ps qs (plain_item expr name) good = item_alike _ _ _ (ap values.Plain (neat_tree ps qs expr (all_front (expr_words expr) _ good)))
item_same ps qs (sum_item expr name) good = item_alike _ _ _ (ap values.Sum (neat_tree _ _ expr (in_parens_back expr (all_front (key (codes "SUM") ∷ in_parens (expr_words expr)) (alias_words name) good))))
item_same ps qs (min_item expr name) good = item_alike _ _ _ (ap values.Min (neat_tree _ _ expr (in_parens_back expr (all_front (key (codes "MIN") ∷ in_parens (expr_words expr)) (alias_words name) good))))
item_same ps qs (max_item expr name) good = item_alike _ _ _ (ap values.Max (neat_tree _ _ expr (in_parens_back expr (all_front (key (codes "MAX") ∷ in_parens (expr_words expr)) (alias_words name) good))))
item_same ps qs (count_item name) good = refl

source_same : (ps qs : Places) (s : SourceText) → source_only (source_tree ps (neat_source s)) ≡ source_only (source_tree qs s)
unfolding source_tree
source_same ps qs s = by_alias s.alias
  where
    source_of : Option (List ℕ) → SourceText
    source_of alias = record { relation = s.relation; alias = alias }

    by_alias : (a : Option (List ℕ)) → source_only (source_tree ps (neat_source (source_of a))) ≡ source_only (source_tree qs (source_of a))
    by_alias None = refl
    by_alias (Some name) = refl

abbrev pub select_head : SelectText → List Word
select_head s = key (codes "SELECT") ∷ cond s.is_distinct (key (codes "DISTINCT") ∷ []) []

abbrev pub items_words : SelectText → List Word
items_words s = with_between comma item_words s.items

abbrev pub from_words : SelectText → List Word
from_words s = key (codes "FROM") ∷ with_between comma source_words s.sources

abbrev pub group_words : Option (Several RefText) → List Word
group_words group = optional (λ refs. key (codes "GROUP") ∷ key (codes "BY") ∷ with_between comma ref_words refs) group

-- the words of the parts of a select
pub record SelectGood (s : SelectText) : Type 0 where
  pub head : AllGood (select_head s)
  pub items : AllGood (items_words s)
  pub sources : AllGood (from_words s)
  pub filter : AllGood (filter_words s.filter)
  pub group : AllGood (group_words s.group)

pub select_good : (s : SelectText) → AllGood (select_words s) → SelectGood s
unfolding select_words
select_good s good =
    let a = all_front (select_head s ++ items_words s ++ from_words s ++ filter_words s.filter) (group_words s.group) good in
    let b = all_front (select_head s ++ items_words s ++ from_words s) (filter_words s.filter) a in
    let c = all_front (select_head s ++ items_words s) (from_words s) b in
    record {
      head = all_front (select_head s) (items_words s) c;
      items = all_back (select_head s) (items_words s) c;
      sources = all_back (select_head s ++ items_words s) (from_words s) b;
      filter = all_back (select_head s ++ items_words s ++ from_words s) (filter_words s.filter) a;
      group = all_back (select_head s ++ items_words s ++ from_words s ++ filter_words s.filter) (group_words s.group) good;
    }

select_alike : (d : Bool) (is is' : List TreeItem) (ss ss' : List TreeSource) (f f' : Option TreeCond) (g g' : List TreeRef) → is ≡ is' → ss ≡ ss' → f ≡ f' → g ≡ g' → (let one : TreeSelect = record { place = no_place; distinct = d; items = is; sources = ss; filter = f; group = g } in one) ≡ record { place = no_place; distinct = d; items = is'; sources = ss'; filter = f'; group = g' }
select_alike d is is' ss ss' f f' g g' one two three four =
    ap (λ (x : List TreeItem). select_of x ss f g) one ∙ ap (λ (x : List TreeSource). select_of is' x f g) two ∙ ap (λ (x : Option TreeCond). select_of is' ss' x g) three ∙ ap (select_of is' ss' f') four
  where
    select_of : List TreeItem → List TreeSource → Option TreeCond → List TreeRef → TreeSelect
    select_of items sources filter group = record { place = no_place; distinct = d; items = items; sources = sources; filter = filter; group = group }

abbrev IsGoodItem : ItemText → Type 0
IsGoodItem i = AllGood (item_words i)

abbrev IsGoodSelect : SelectText → Type 0
IsGoodSelect s = AllGood (select_words s)

abbrev filter_at : SelectText → ℕ
filter_at s = cond s.is_distinct 2 1 + length (items_words s) + 1 + length (with_between comma source_words s.sources)

select_same : (ps qs : Places) (s : SelectText) → IsGoodSelect s → select_only (select_tree ps (neat_select s)) ≡ select_only (select_tree qs s)
unfolding select_tree
select_same ps qs s good =
    let parts = select_good s good in
    select_alike _ _ _ _ _ _ _ _ _
    (trees_laid 1 _ item_tree item_only neat_item IsGoodItem item_same _ _ (parts_of s.items) (parts_good comma item_words s.items parts.items))
    (trees_laid 1 _ source_tree source_only neat_source Any (λ rs ss x any. source_same rs ss x) _ _ (parts_of s.sources) (all_any (parts_of s.sources)))
    (filter_same (drop (filter_at (neat_select s)) ps) (drop (filter_at s) qs) s.filter parts.filter)
    (if_same (λ ref. length (ref_words ref)) ref_tree ref_only itself Any (λ rs ss x any. ref_only-same rs ss x) (drop (filter_at (neat_select s) + length (filter_words (neat_select s).filter) + 2) ps) (drop (filter_at s + length (filter_words s.filter) + 2) qs) s.group (all_if_any s.group))

abbrev pub union_words : List Word
union_words = key (codes "UNION") ∷ key (codes "ALL") ∷ []

abbrev pub view_head : ViewText → List Word
view_head v = key (codes "VIEW") ∷ named v.name ∷ key (codes "AS") ∷ []

pub arms_good : (v : ViewText) → AllGood (view_words v) → AllGood (with_between union_words select_words v.arms)
unfolding view_words
arms_good v good = all_back (view_head v) _ (all_front (view_head v ++ with_between union_words select_words v.arms) stop_words good)

view_same : (ps qs : Places) (v : ViewText) → AllGood (view_words v) → view_only (view_tree ps (neat_view v)) ≡ view_only (view_tree qs v)
unfolding view_tree
view_same ps qs v good = ap view_of (trees_laid 2 _ select_tree select_only neat_select IsGoodSelect select_same _ _ (parts_of v.arms) (parts_good union_words select_words v.arms (arms_good v good)))
  where
    view_of : List TreeSelect → TreeView
    view_of arms = record { name = record { name = v.name; place = no_place }; arms = arms }

require_same : (ps qs : Places) (r : RequireText) → AllGood (require_words r) → require_only (require_tree ps (neat_require r)) ≡ require_only (require_tree qs r)
unfolding require_tree require_words
require_same ps qs (all_have name cond) good = ap (needs.All (record { name = name; place = no_place })) (neat_cond_tree _ _ cond (all_front (cond_words cond) _ good.1.1.1.1))
require_same ps qs (some_have name cond) good = ap (needs.Some (record { name = name; place = no_place })) (neat_cond_tree _ _ cond (all_front (cond_words cond) _ good.1.1.1.1))
require_same ps qs (none_is name) good = refl

abbrev IsGoodDecl : DeclText → Type 0
IsGoodDecl d = AllGood (decl_words d)

decl_same : (ps qs : Places) (d : DeclText) → IsGoodDecl d → decl_only (decl_tree ps (neat_decl d)) ≡ decl_only (decl_tree qs d)
unfolding decl_tree decl_words
decl_same ps qs (table_decl table) good = ap Table (table_same ps qs table)
decl_same ps qs (hypo_decl hypo) good = ap Hypo (hypo_same ps qs hypo good)
decl_same ps qs (view_decl view) good = ap View (view_same ps qs view good)
decl_same ps qs (require_decl require) good = ap Require (require_same ps qs require good)

goal_same : (ps qs : Places) (g : GoalText) → AllGood (goal_words g) → goal_only (goal_tree ps (neat_goal g)) ≡ goal_only (goal_tree qs g)
unfolding goal_tree goal_words
goal_same ps qs find_goal good = refl
goal_same ps qs (sum_goal maximize expr relation) good = ap goal_of (neat_tree _ _ expr (all_front (expr_words expr) _ (all_front (in_parens (expr_words expr)) _ good.1.1).1))
  where
    goal_of : TreeExpr → TreeGoal
    goal_of part = goals.Sum maximize part (record { name = relation; place = no_place })

decls_good : (ds : List DeclText) → AllGood (flat_map decl_words ds) → AllByRecursion IsGoodDecl ds
decls_good [] good = tt
decls_good (d ∷ ds) good = (all_front (decl_words d) _ good, decls_good ds (all_back (decl_words d) _ good))

pub query_same : (ps qs : Places) (q : QueryText) → AllGood (query_words q) → tree_only (query_tree ps (neat_query q)) ≡ tree_only (query_tree qs q)
unfolding query_tree query_words tree_only
query_same ps qs q good =
    tree_alike _ _ _ _ (trees_laid 0 _ decl_tree decl_only neat_decl IsGoodDecl decl_same ps qs q.decls (decls_good q.decls (all_front (flat_map decl_words q.decls) _ good)))
    (goal_same (drop (length (flat_map decl_words (map neat_decl q.decls))) ps) (drop (length (flat_map decl_words q.decls)) qs) q.goal (all_back (flat_map decl_words q.decls) _ good))
  where
    tree_alike : (ds ds' : List Decl) (g g' : TreeGoal) → ds ≡ ds' → g ≡ g' → (let one : Tree = record { decls = ds; goal = g } in one) ≡ record { decls = ds'; goal = g' }
    tree_alike ds ds' g g' one other = ap (λ (d : List Decl). tree_of d g) one ∙ ap (tree_of ds') other
      where
        tree_of : List Decl → TreeGoal → Tree
        tree_of decls goal = record { decls = decls; goal = goal }
