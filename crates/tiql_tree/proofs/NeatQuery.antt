-- the text of a query as it is printed
use Rattle.std.proofs.Common.{◌≡◌, ℕ, ◌+◌, Bool, true, false, cond, List, [], map, length, drop, flat_map, refl, ◌∙◌, ap, option_map, is_some}
use Rattle.std.specs.declared.option.Option.{Option}
use Rattle.std.specs.declared.option.Option.TheVariants.{None, Some}
use Rattle.base_kit.specs.declared.place.Place.{Place}
use Rattle.tiql_tree.specs.Words.{Several, with_between}
use Rattle.tiql_tree.specs.Texts.{RefText, ExprText, CondText}
use Rattle.tiql_tree.specs.Texts.{ColumnText, TableText, BoundText, HypoText, ItemText, SourceText, SelectText, ViewText}
use Rattle.tiql_tree.specs.Texts.{RequireText, DeclText, GoalText, QueryText}
use Rattle.tiql_tree.specs.Texts.RefText.{alone, qualified}
use Rattle.tiql_tree.specs.Texts.ExprText.{last_term}
use Rattle.tiql_tree.specs.Texts.TermText.{last_factor}
use Rattle.tiql_tree.specs.Texts.FactorText.{reference}
use Rattle.tiql_tree.specs.Texts.ItemText.{lone_ref, plain_item, sum_item, min_item, max_item, count_item}
use Rattle.tiql_tree.specs.Texts.RequireText.{all_have, some_have, none_is}
use Rattle.tiql_tree.specs.Texts.DeclText.{table_decl, hypo_decl, view_decl, require_decl}
use Rattle.tiql_tree.specs.Texts.GoalText.{find_goal, sum_goal}
use Rattle.tiql_tree.specs.Grammar.{comma, ref_words, column_words, bounds_words, filter_words, item_words, source_words, decl_words}
use Rattle.tiql_tree.specs.declared.expression.TreeForm.TheVariants.{Ref}
use Rattle.tiql_tree.proofs.Making.{made-Ref}
use Rattle.tiql_tree.specs.Trees.{Places, place, spot, laid_if, ref_tree, ref_name, expr_at, expr_tree, cond_tree, filter_tree, column_tree, table_tree, bound_tree, hypo_tree, item_tree, source_tree, select_tree, view_tree, require_tree, decl_tree, goal_tree, query_tree}
use Rattle.tiql_tree.specs.Printed.{made_factor, as_expr, as_cond, several_if, ref_text, expr_text, cond_text, name_of, column_text, table_text, bound_text, hypo_text, item_text, source_text, select_text, no_select, view_text, require_text, decl_text, goal_text, tree_text}
use Rattle.tiql_tree.proofs.Neat.{neat_expr, made_expr}
use Rattle.tiql_tree.proofs.NeatCond.{neat_cond, made_cond_}
use Rattle.tiql_tree.proofs.Parts.{map_several, several_laid, texts_laid}

abbrev pub whole_expr : ExprText → ExprText
whole_expr expr = as_expr (neat_expr expr)

abbrev pub whole_cond : CondText → CondText
whole_cond cond = as_cond (neat_cond cond)

-- of itself
abbrev pub itself : {A : Type 0} → A → A
itself x = x

abbrev pub neat_table : TableText → TableText
neat_table table = record { name = table.name; columns = map_several itself table.columns; key_names = option_map (map_several itself) table.key_names }

abbrev pub neat_bound : BoundText → BoundText
neat_bound bound = record { name = bound.name; lo = whole_expr bound.lo; hi = whole_expr bound.hi }

abbrev pub neat_hypo : HypoText → HypoText
neat_hypo hypo = record {
  name = hypo.name;
  table = hypo.table;
  bounds = option_map (map_several neat_bound) hypo.bounds;
  filter = option_map whole_cond hypo.filter;
  is_dropped = hypo.is_dropped;
}

abbrev pub last_name : RefText → List ℕ
last_name (alone column) = column
last_name (qualified relation column) = column

abbrev pub neat_item : ItemText → ItemText
neat_item (lone_ref ref) = plain_item (last_term (last_factor (reference ref))) (last_name ref)
neat_item (plain_item expr name) = plain_item (whole_expr expr) name
neat_item (sum_item expr name) = sum_item (whole_expr expr) name
neat_item (min_item expr name) = min_item (whole_expr expr) name
neat_item (max_item expr name) = max_item (whole_expr expr) name
neat_item (count_item name) = count_item name

abbrev pub alias_or : List ℕ → Option (List ℕ) → List ℕ
alias_or relation None = relation
alias_or relation (Some alias) = alias

abbrev pub neat_source : SourceText → SourceText
neat_source source = record { relation = source.relation; alias = Some (alias_or source.relation source.alias) }

abbrev pub neat_select : SelectText → SelectText
neat_select select = record {
  is_distinct = select.is_distinct;
  items = map_several neat_item select.items;
  sources = map_several neat_source select.sources;
  filter = option_map whole_cond select.filter;
  group = option_map (map_several itself) select.group;
}

abbrev pub neat_view : ViewText → ViewText
neat_view view = record { name = view.name; arms = map_several neat_select view.arms }

abbrev pub neat_require : RequireText → RequireText
neat_require (all_have name cond) = all_have name (whole_cond cond)
neat_require (some_have name cond) = some_have name (whole_cond cond)
neat_require (none_is name) = none_is name

abbrev pub neat_decl : DeclText → DeclText
neat_decl (table_decl table) = table_decl (neat_table table)
neat_decl (hypo_decl hypo) = hypo_decl (neat_hypo hypo)
neat_decl (view_decl view) = view_decl (neat_view view)
neat_decl (require_decl require) = require_decl (neat_require require)

abbrev pub neat_goal : GoalText → GoalText
neat_goal find_goal = find_goal
neat_goal (sum_goal maximize expr relation) = sum_goal maximize (whole_expr expr) relation

abbrev pub neat_query : QueryText → QueryText
neat_query query = record { decls = map neat_decl query.decls; goal = neat_goal query.goal }

-- what is printed of a tree is the neat text of its text
expr_is : (ps : Places) (e : ExprText) → expr_text (expr_tree ps e) ≡ whole_expr e
expr_is ps e = ap as_expr (made_expr ps e)

cond_is : (ps : Places) (c : CondText) → cond_text (cond_tree ps c) ≡ whole_cond c
cond_is ps c = ap as_cond (made_cond_ ps c)

filter_is : (ps : Places) (f : Option CondText) → option_map cond_text (filter_tree ps f) ≡ option_map whole_cond f
filter_is ps None = refl
filter_is ps (Some c) = ap Some (cond_is (drop 1 ps) c)

ref_is : (ps : Places) (ref : RefText) → ref_text (ref_tree ps ref) ≡ ref
unfolding ref_tree
ref_is ps (alone column) = refl
ref_is ps (qualified relation column) = refl

column_is : (ps : Places) (c : ColumnText) → column_text (column_tree ps c) ≡ c
unfolding column_tree
column_is ps c = refl

-- lists that may be left out
if_laid : {A B C : Type 0} (size : A → ℕ) (tree : Places → A → B) (text : B → C) (neat : A → C) → ((ps : Places) (x : A) → text (tree ps x) ≡ neat x) → (ps : Places) (parts : Option (Several A)) → several_if text (laid_if size tree ps parts) ≡ option_map (map_several neat) parts
if_laid size tree text neat same ps None = refl
if_laid size tree text neat same ps (Some parts) = ap Some (several_laid 1 size tree (neat parts.first) text neat same ps parts)

table_alike : (name : List ℕ) (cs cs' : Several ColumnText) (ns ns' : Option (Several (List ℕ))) → cs ≡ cs' → ns ≡ ns' → (let one : TableText = record { name = name; columns = cs; key_names = ns } in one) ≡ record { name = name; columns = cs'; key_names = ns' }
table_alike name cs cs' ns ns' one other = ap (λ (c : Several ColumnText). table_of c ns) one ∙ ap (table_of cs') other
  where
    table_of : Several ColumnText → Option (Several (List ℕ)) → TableText
    table_of columns names = record { name = name; columns = columns; key_names = names }

table_is : (ps : Places) (t : TableText) → table_text (table_tree ps t) ≡ neat_table t
unfolding table_text table_tree
table_is ps t =
    table_alike t.name _ _ _ _ (several_laid 1 (λ column. 2) column_tree (record { name = []; is_text = false }) column_text itself column_is _ t.columns)
    (if_laid (λ name. 1) (spot 0) name_of itself (λ qs x. refl) (drop (3 + length (with_between comma column_words t.columns) + 3) ps) t.key_names)

bound_alike : (name : List ℕ) (a a' b b' : ExprText) → a ≡ a' → b ≡ b' → (let one : BoundText = record { name = name; lo = a; hi = b } in one) ≡ record { name = name; lo = a'; hi = b' }
bound_alike name a a' b b' one other = ap (λ (e : ExprText). bound_of e b) one ∙ ap (bound_of a') other
  where
    bound_of : ExprText → ExprText → BoundText
    bound_of lo hi = record { name = name; lo = lo; hi = hi }

bound_is : (ps : Places) (b : BoundText) → bound_text (bound_tree ps b) ≡ neat_bound b
unfolding bound_tree
bound_is ps b = bound_alike b.name _ _ _ _ (expr_is _ b.lo) (expr_is _ b.hi)

dropped_is : (b : Bool) (p : Place) → is_some (cond b (Some p) None) ≡ b
dropped_is true p = refl
dropped_is false p = refl

hypo_alike : (name table : List ℕ) (bs bs' : Option (Several BoundText)) (f f' : Option CondText) (d d' : Bool) → bs ≡ bs' → f ≡ f' → d ≡ d' → (let one : HypoText = record { name = name; table = table; bounds = bs; filter = f; is_dropped = d } in one) ≡ record { name = name; table = table; bounds = bs'; filter = f'; is_dropped = d' }
hypo_alike name table bs bs' f f' d d' one two three = ap (λ (b : Option (Several BoundText)). hypo_of b f d) one ∙ ap (λ (g : Option CondText). hypo_of bs' g d) two ∙ ap (hypo_of bs' f') three
  where
    hypo_of : Option (Several BoundText) → Option CondText → Bool → HypoText
    hypo_of bounds filter dropped = record { name = name; table = table; bounds = bounds; filter = filter; is_dropped = dropped }

hypo_is : (ps : Places) (h : HypoText) → hypo_text (hypo_tree ps h) ≡ neat_hypo h
unfolding hypo_text hypo_tree
hypo_is ps h = hypo_alike h.name h.table _ _ _ _ _ _ (if_laid _ bound_tree bound_text neat_bound bound_is (drop 5 ps) h.bounds) (filter_is (drop (4 + length (bounds_words h.bounds)) ps) h.filter) (dropped_is h.is_dropped _)

lone_is : (ps : Places) (r : RefText) → expr_text (expr_at (place 0 ps) (Ref (ref_tree ps r))) ≡ last_term (last_factor (reference r))
lone_is ps r = ap as_expr (made-Ref _ _ refl ∙ ap (λ (x : RefText). made_factor (reference x)) (ref_is ps r))

item_is : (ps : Places) (i : ItemText) → item_text (item_tree ps i) ≡ neat_item i
unfolding item_text item_tree ref_name
item_is ps (lone_ref (alone column)) = ap (λ (e : ExprText). plain_item e column) (lone_is ps (alone column))
item_is ps (lone_ref (qualified relation column)) = ap (λ (e : ExprText). plain_item e column) (lone_is ps (qualified relation column))
item_is ps (plain_item expr name) = ap (λ (e : ExprText). plain_item e name) (expr_is ps expr)
item_is ps (sum_item expr name) = ap (λ (e : ExprText). sum_item e name) (expr_is (drop 2 ps) expr)
item_is ps (min_item expr name) = ap (λ (e : ExprText). min_item e name) (expr_is (drop 2 ps) expr)
item_is ps (max_item expr name) = ap (λ (e : ExprText). max_item e name) (expr_is (drop 2 ps) expr)
item_is ps (count_item name) = refl

source_is : (ps : Places) (s : SourceText) → source_text (source_tree ps s) ≡ neat_source s
unfolding source_tree
source_is ps s = ap (λ (n : List ℕ). source_of (Some n)) (by_alias s.alias)
  where
    source_of : Option (List ℕ) → SourceText
    source_of alias = record { relation = s.relation; alias = alias }

    by_alias : (a : Option (List ℕ)) → (source_tree ps (source_of a)).alias.name ≡ alias_or s.relation a
    by_alias None = refl
    by_alias (Some name) = refl

select_alike : (d : Bool) (is is' : Several ItemText) (ss ss' : Several SourceText) (f f' : Option CondText) (g g' : Option (Several RefText)) → is ≡ is' → ss ≡ ss' → f ≡ f' → g ≡ g' → (let one : SelectText = record { is_distinct = d; items = is; sources = ss; filter = f; group = g } in one) ≡ record { is_distinct = d; items = is'; sources = ss'; filter = f'; group = g' }
select_alike d is is' ss ss' f f' g g' one two three four =
    ap (λ (x : Several ItemText). select_of x ss f g) one ∙ ap (λ (x : Several SourceText). select_of is' x f g) two ∙ ap (λ (x : Option CondText). select_of is' ss' x g) three ∙ ap (select_of is' ss' f') four
  where
    select_of : Several ItemText → Several SourceText → Option CondText → Option (Several RefText) → SelectText
    select_of items sources filter group = record { is_distinct = d; items = items; sources = sources; filter = filter; group = group }

-- where WHERE may stand
abbrev pub filter_at : SelectText → ℕ
filter_at s = cond s.is_distinct 2 1 + length (with_between comma item_words s.items) + 1 + length (with_between comma source_words s.sources)

select_is : (ps : Places) (s : SelectText) → select_text (select_tree ps s) ≡ neat_select s
unfolding select_text select_tree
select_is ps s = select_alike s.is_distinct _ _ _ _ _ _ _ _
    (several_laid 1 _ item_tree (count_item []) item_text neat_item item_is _ s.items)
    (several_laid 1 _ source_tree (record { relation = []; alias = None }) source_text neat_source source_is _ s.sources)
    (filter_is (drop (filter_at s) ps) s.filter)
    (if_laid (λ ref. length (ref_words ref)) ref_tree ref_text itself ref_is (drop (filter_at s + length (filter_words s.filter) + 2) ps) s.group)

view_is : (ps : Places) (v : ViewText) → view_text (view_tree ps v) ≡ neat_view v
unfolding view_text view_tree
view_is ps v = ap view_of (several_laid 2 _ select_tree no_select select_text neat_select select_is _ v.arms)
  where
    view_of : Several SelectText → ViewText
    view_of arms = record { name = v.name; arms = arms }

require_is : (ps : Places) (r : RequireText) → require_text (require_tree ps r) ≡ neat_require r
unfolding require_text require_tree
require_is ps (all_have name cond) = ap (all_have name) (cond_is _ cond)
require_is ps (some_have name cond) = ap (some_have name) (cond_is _ cond)
require_is ps (none_is name) = refl

decl_is : (ps : Places) (d : DeclText) → decl_text (decl_tree ps d) ≡ neat_decl d
unfolding decl_text decl_tree
decl_is ps (table_decl table) = ap table_decl (table_is ps table)
decl_is ps (hypo_decl hypo) = ap hypo_decl (hypo_is ps hypo)
decl_is ps (view_decl view) = ap view_decl (view_is ps view)
decl_is ps (require_decl require) = ap require_decl (require_is ps require)

goal_is : (ps : Places) (g : GoalText) → goal_text (goal_tree ps g) ≡ neat_goal g
unfolding goal_text goal_tree
goal_is ps find_goal = refl
goal_is ps (sum_goal maximize expr relation) = ap (λ (e : ExprText). sum_goal maximize e relation) (expr_is _ expr)

pub query_is : (ps : Places) (q : QueryText) → tree_text (query_tree ps q) ≡ neat_query q
unfolding tree_text query_tree
query_is ps q = ap (λ (ds : List DeclText). query_of ds (goal_text (goal_tree (drop (length (flat_map decl_words q.decls)) ps) q.goal))) (texts_laid 0 _ decl_tree decl_text neat_decl decl_is ps q.decls) ∙ ap (query_of (map neat_decl q.decls)) (goal_is _ q.goal)
  where
    query_of : List DeclText → GoalText → QueryText
    query_of decls goal = record { decls = decls; goal = goal }
