-- the text of a query as it is printed: its words are tokens, and it is nested no deeper
use Rattle.std.proofs.Common.{ℕ, ◌≤◌, cond, List, [], ◌∷◌, ◌++◌, map, flat_map, codes, arith, option_map}
use Rattle.std.specs.declared.option.Option.{Option}
use Rattle.std.specs.declared.option.Option.TheVariants.{None, Some}
use Rattle.tiql_tree.specs.Words.{Word, key, named, Several, parts_of, with_between}
use Rattle.tiql_tree.specs.Texts.{RefText, ExprText, CondText}
use Rattle.tiql_tree.specs.Texts.{TableText, BoundText, HypoText, ItemText, SourceText, SelectText, ViewText}
use Rattle.tiql_tree.specs.Texts.{RequireText, DeclText, GoalText, QueryText}
use Rattle.tiql_tree.specs.Texts.RefText.{alone, qualified}
use Rattle.tiql_tree.specs.Texts.ItemText.{lone_ref, plain_item, sum_item, min_item, max_item, count_item}
use Rattle.tiql_tree.specs.Texts.RequireText.{all_have, some_have, none_is}
use Rattle.tiql_tree.specs.Texts.DeclText.{table_decl, hypo_decl, view_decl, require_decl}
use Rattle.tiql_tree.specs.Texts.GoalText.{find_goal, sum_goal}
use Rattle.tiql_tree.specs.Grammar.{comma, optional, in_parens, alias_words, name_words, ref_words, expr_words, cond_words, column_words, table_words, bound_words, bounds_words, filter_words, hypo_words, item_words, source_words, select_words, view_words, require_words, decl_words, goal_words, query_words}
use Rattle.tiql_tree.specs.Nesting.{expr_depth, filter_depth, bound_depth, bounds_depth, item_depth, select_depth, require_depth, decl_depth, goal_depth, query_depth}
use Rattle.tiql_tree.proofs.GoodWords.{all_append, all_front, all_back, as_good}
use Rattle.tiql_tree.proofs.Neat.{neat_depth, neat_good, in_parens_good}
use Rattle.tiql_tree.proofs.NeatCond.{neat_cond_depth, neat_cond_good}
use Rattle.tiql_tree.proofs.NeatQuery.{whole_expr, whole_cond, itself, neat_table, neat_bound, neat_hypo, neat_item, neat_source, neat_select, neat_view, neat_require, neat_decl, neat_goal, neat_query}
use Rattle.tiql_tree.proofs.NeatTrees.{AllGood, hypo_head, drop_words, stop_words, select_head, items_words, from_words, group_words, union_words, view_head, hypo_good, select_good}
use Rattle.tiql_tree.proofs.Parts.{map_several, neat_parts_good, deepest_le}

filter_deep : (f : Option CondText) → filter_depth (option_map whole_cond f) ≤ filter_depth f
filter_deep None = omega arith
filter_deep (Some c) = neat_cond_depth c

bound_deep : (b : BoundText) → bound_depth (neat_bound b) ≤ bound_depth b
unfolding bound_depth
bound_deep b = omega (arith, neat_depth b.lo, neat_depth b.hi)

bounds_deep : (bs : Option (Several BoundText)) → bounds_depth (option_map (map_several neat_bound) bs) ≤ bounds_depth bs
bounds_deep None = omega arith
bounds_deep (Some parts) = deepest_le bound_depth bound_depth neat_bound bound_deep (parts_of parts) 0 0 (omega arith)

item_deep : (i : ItemText) → item_depth (neat_item i) ≤ item_depth i
unfolding item_depth expr_depth
item_deep (lone_ref ref) = omega arith
item_deep (plain_item expr name) = neat_depth expr
item_deep (sum_item expr name) = omega (arith, neat_depth expr)
item_deep (min_item expr name) = omega (arith, neat_depth expr)
item_deep (max_item expr name) = omega (arith, neat_depth expr)
item_deep (count_item name) = omega arith

select_deep : (s : SelectText) → select_depth (neat_select s) ≤ select_depth s
unfolding select_depth
select_deep s = omega (arith, deepest_le item_depth item_depth neat_item item_deep (parts_of s.items) 0 0 (omega arith), filter_deep s.filter)

require_deep : (r : RequireText) → require_depth (neat_require r) ≤ require_depth r
unfolding require_depth
require_deep (all_have name cond) = neat_cond_depth cond
require_deep (some_have name cond) = neat_cond_depth cond
require_deep (none_is name) = omega arith

decl_deep : (d : DeclText) → decl_depth (neat_decl d) ≤ decl_depth d
unfolding decl_depth
decl_deep (table_decl table) = omega arith
decl_deep (hypo_decl hypo) = omega (arith, bounds_deep hypo.bounds, filter_deep hypo.filter)
decl_deep (view_decl view) = deepest_le select_depth select_depth neat_select select_deep (parts_of view.arms) 0 0 (omega arith)
decl_deep (require_decl require) = require_deep require

goal_deep : (g : GoalText) → goal_depth (neat_goal g) ≤ goal_depth g
unfolding goal_depth
goal_deep find_goal = omega arith
goal_deep (sum_goal maximize expr relation) = omega (arith, neat_depth expr)

pub query_deep : (q : QueryText) → query_depth (neat_query q) ≤ query_depth q
unfolding query_depth
query_deep q = omega (arith, deepest_le decl_depth decl_depth neat_decl decl_deep q.decls 0 0 (omega arith), goal_deep q.goal)

abbrev Keeps : {A : Type 0} → (A → List Word) → (A → A) → Type 0
Keeps {A} words neat = (x : A) → AllGood (words x) → AllGood (words (neat x))

itself_keeps : {A : Type 0} (words : A → List Word) → Keeps words itself
itself_keeps words x good = good

-- between two words that group
parens_keep : (ws vs : List Word) → (AllGood ws → AllGood vs) → AllGood (in_parens ws) → AllGood (in_parens vs)
parens_keep ws vs keeps good = in_parens_good vs (keeps (all_front ws _ good.1))

filter_good : (f : Option CondText) → AllGood (filter_words f) → AllGood (filter_words (option_map whole_cond f))
filter_good None good = tt
filter_good (Some c) good = (good.0, neat_cond_good c good.1)

abbrev key_words : Option (Several (List ℕ)) → List Word
key_words names = optional (λ parts. key (codes "KEY") ∷ in_parens (with_between comma name_words parts)) names

abbrev table_head : TableText → List Word
table_head t = key (codes "TABLE") ∷ named t.name ∷ in_parens (with_between comma column_words t.columns)

abbrev bound_head : BoundText → List Word
bound_head b = named b.name ∷ key (codes "IN") ∷ expr_words b.lo

key_good : (names : Option (Several (List ℕ))) → AllGood (key_words names) → AllGood (key_words (option_map (map_several itself) names))
key_good None good = tt
key_good (Some parts) good = (good.0, parens_keep (with_between comma name_words parts) (with_between comma name_words (map_several itself parts)) (neat_parts_good comma name_words itself (itself_keeps name_words) parts) good.1)

table_good : (t : TableText) → AllGood (table_words t) → AllGood (table_words (neat_table t))
unfolding table_words
table_good t good =
    let front = all_front (table_head t ++ key_words t.key_names) stop_words good in
    let head = all_front (table_head t) (key_words t.key_names) front in
    all_append (table_head (neat_table t) ++ key_words (neat_table t).key_names) stop_words
    (all_append (table_head (neat_table t)) (key_words (neat_table t).key_names)
    (head.0, (head.1.0, parens_keep (with_between comma column_words t.columns) _ (neat_parts_good comma column_words itself (itself_keeps column_words) t.columns) head.1.1))
    (key_good t.key_names (all_back (table_head t) (key_words t.key_names) front)))
    (all_back (table_head t ++ key_words t.key_names) stop_words good)

bound_good : (b : BoundText) → AllGood (bound_words b) → AllGood (bound_words (neat_bound b))
unfolding bound_words
bound_good b good =
    let front = all_front (bound_head b) _ good in
    let back = all_back (bound_head b) _ good in
    all_append (bound_head (neat_bound b)) _ (front.0, (front.1.0, neat_good b.lo front.1.1)) (back.0, neat_good b.hi back.1)

bounds_good : (bs : Option (Several BoundText)) → AllGood (bounds_words bs) → AllGood (bounds_words (option_map (map_several neat_bound) bs))
bounds_good None good = tt
bounds_good (Some parts) good = (good.0, neat_parts_good comma bound_words neat_bound bound_good parts good.1)

neat_hypo_good : (h : HypoText) → AllGood (hypo_words h) → AllGood (hypo_words (neat_hypo h))
unfolding hypo_words
neat_hypo_good h good =
    let parts = hypo_good h good in
    let n = neat_hypo h in
    all_append (hypo_head n ++ bounds_words n.bounds ++ filter_words n.filter ++ drop_words n.is_dropped) stop_words
    (all_append (hypo_head n ++ bounds_words n.bounds ++ filter_words n.filter) (drop_words n.is_dropped)
    (all_append (hypo_head n ++ bounds_words n.bounds) (filter_words n.filter)
    (all_append (hypo_head n) (bounds_words n.bounds) parts.head (bounds_good h.bounds parts.bounds))
    (filter_good h.filter parts.filter))
    parts.drops)
    parts.stop

aggregate_good : (word : List ℕ) (expr : ExprText) (name : List ℕ) → AllGood (key word ∷ in_parens (expr_words expr) ++ alias_words name) → AllGood (key word ∷ in_parens (expr_words (whole_expr expr)) ++ alias_words name)
aggregate_good word expr name good =
    let front = all_front (key word ∷ in_parens (expr_words expr)) (alias_words name) good in
    all_append (key word ∷ in_parens (expr_words (whole_expr expr))) (alias_words name) (front.0, parens_keep (expr_words expr) _ (neat_good expr) front.1) (all_back (key word ∷ in_parens (expr_words expr)) (alias_words name) good)

item_good : (i : ItemText) → AllGood (item_words i) → AllGood (item_words (neat_item i))
unfolding item_words ref_words expr_words
item_good (lone_ref (alone column)) good = (good.0, (as_good, (good.0, tt)))
item_good (lone_ref (qualified relation column)) good = (good.0, (good.1.0, (good.1.1.0, (as_good, (good.1.1.0, tt)))))
item_good (plain_item expr name) good = all_append (expr_words (whole_expr expr)) _ (neat_good expr (all_front (expr_words expr) _ good)) (all_back (expr_words expr) (alias_words name) good)
item_good (sum_item expr name) good = aggregate_good (codes "SUM") expr name good
item_good (min_item expr name) good = aggregate_good (codes "MIN") expr name good
item_good (max_item expr name) good = aggregate_good (codes "MAX") expr name good
item_good (count_item name) good = good

source_good : (s : SourceText) → AllGood (source_words s) → AllGood (source_words (neat_source s))
unfolding source_words
source_good s good = by_alias s.alias good
  where
    source_of : Option (List ℕ) → SourceText
    source_of alias = record { relation = s.relation; alias = alias }

    by_alias : (a : Option (List ℕ)) → AllGood (source_words (source_of a)) → AllGood (source_words (neat_source (source_of a)))
    by_alias None good = (good.0, (as_good, (good.0, tt)))
    by_alias (Some name) good = good

group_good : (g : Option (Several RefText)) → AllGood (group_words g) → AllGood (group_words (option_map (map_several itself) g))
group_good None good = tt
group_good (Some parts) good = (good.0, (good.1.0, neat_parts_good comma ref_words itself (itself_keeps ref_words) parts good.1.1))

neat_select_good : (s : SelectText) → AllGood (select_words s) → AllGood (select_words (neat_select s))
unfolding select_words
neat_select_good s good =
    let parts = select_good s good in
    let n = neat_select s in
    all_append (select_head n ++ items_words n ++ from_words n ++ filter_words n.filter) (group_words n.group)
    (all_append (select_head n ++ items_words n ++ from_words n) (filter_words n.filter)
    (all_append (select_head n ++ items_words n) (from_words n)
    (all_append (select_head n) (items_words n) parts.head (neat_parts_good comma item_words neat_item item_good s.items parts.items))
    ((parts.sources).0, neat_parts_good comma source_words neat_source source_good s.sources (parts.sources).1))
    (filter_good s.filter parts.filter))
    (group_good s.group parts.group)

view_good : (v : ViewText) → AllGood (view_words v) → AllGood (view_words (neat_view v))
unfolding view_words
view_good v good =
    let arms = with_between union_words select_words v.arms in
    let front = all_front (view_head v ++ arms) stop_words good in
    all_append (view_head v ++ with_between union_words select_words (map_several neat_select v.arms)) stop_words
    (all_append (view_head v) _ (all_front (view_head v) arms front) (neat_parts_good union_words select_words neat_select neat_select_good v.arms (all_back (view_head v) arms front)))
    (all_back (view_head v ++ arms) stop_words good)

require_good : (r : RequireText) → AllGood (require_words r) → AllGood (require_words (neat_require r))
unfolding require_words
require_good (all_have name cond) good =
    let rest = good.1.1.1.1 in (good.0, (good.1.0, (good.1.1.0, (good.1.1.1.0, all_append (cond_words (whole_cond cond)) stop_words (neat_cond_good cond (all_front (cond_words cond) stop_words rest)) (all_back (cond_words cond) stop_words rest)))))
require_good (some_have name cond) good =
    let rest = good.1.1.1.1 in (good.0, (good.1.0, (good.1.1.0, (good.1.1.1.0, all_append (cond_words (whole_cond cond)) stop_words (neat_cond_good cond (all_front (cond_words cond) stop_words rest)) (all_back (cond_words cond) stop_words rest)))))
require_good (none_is name) good = good

decl_good : (d : DeclText) → AllGood (decl_words d) → AllGood (decl_words (neat_decl d))
unfolding decl_words
decl_good (table_decl table) good = table_good table good
decl_good (hypo_decl hypo) good = neat_hypo_good hypo good
decl_good (view_decl view) good = view_good view good
decl_good (require_decl require) good = require_good require good

decls_good : (ds : List DeclText) → AllGood (flat_map decl_words ds) → AllGood (flat_map decl_words (map neat_decl ds))
decls_good [] good = tt
decls_good (d ∷ ds) good = all_append (decl_words (neat_decl d)) _ (decl_good d (all_front (decl_words d) _ good)) (decls_good ds (all_back (decl_words d) _ good))

goal_good : (g : GoalText) → AllGood (goal_words g) → AllGood (goal_words (neat_goal g))
unfolding goal_words
goal_good find_goal good = good
goal_good (sum_goal maximize expr relation) good =
    let parens = all_front (in_parens (expr_words expr)) _ good.1.1 in
    (good.0, (good.1.0, all_append (in_parens (expr_words (whole_expr expr))) _ (parens_keep (expr_words expr) _ (neat_good expr) parens) (all_back (in_parens (expr_words expr)) _ good.1.1)))

pub query_good : (q : QueryText) → AllGood (query_words q) → AllGood (query_words (neat_query q))
unfolding query_words
query_good q good =
    all_append (flat_map decl_words (map neat_decl q.decls)) _ (decls_good q.decls (all_front (flat_map decl_words q.decls) _ good)) (goal_good q.goal (all_back (flat_map decl_words q.decls) _ good))
