-- the tree of a query, rule by rule. Each rule is given the places of the tokens from its first one on
use Rattle.std.specs.Prelude.{ℕ, zero, suc, ◌+◌, pos, Bool, false, if◌then◌else◌, List, [], ◌∷◌, length, drop}
use Rattle.std.specs.declared.option.Option.{Option}
use Rattle.std.specs.declared.option.Option.TheVariants.{None, Some}
use Rattle.std.specs.List.{flat_map}
use Rattle.std.specs.Str.Parse.{digits_value}
use Rattle.base_kit.specs.declared.place.Place.{Place}
use Rattle.tiql_tree.specs.declared.expression.TreeRef.{TreeRef}
use Rattle.tiql_tree.specs.declared.expression.TreeExpr.{TreeExpr, roll-TreeExpr, out-TreeExpr}
use Rattle.tiql_tree.specs.declared.expression.TreeSigned.{TreeSigned, roll-TreeSigned}
use Rattle.tiql_tree.specs.declared.expression.TreeForm.{TreeForm}
use Rattle.tiql_tree.specs.declared.expression.TreeForm.TheVariants.{Number, Text, Ref}
use Rattle.tiql_tree.specs.declared.expression.TreeForm.TheViews.{Sum, Product, Neg, Abs}
use Rattle.tiql_tree.specs.declared.condition.TreeCond.{TreeCond}
use Rattle.tiql_tree.specs.declared.condition.TreeCond.TheVariants.{Compare}
use Rattle.tiql_tree.specs.declared.condition.TreeCond.TheViews.{Not, And, Or}
use Rattle.tiql_tree.specs.declared.tree.Spot.{Spot}
use Rattle.tiql_tree.specs.declared.tree.Tree.{Tree}
use Rattle.tiql_tree.specs.declared.tree.Decl.{Decl}
use Rattle.tiql_tree.specs.declared.tree.Decl.TheVariants.{Table, Hypo, View, Require}
use Rattle.tiql_tree.specs.declared.tree.TreeColumn.{TreeColumn}
use Rattle.tiql_tree.specs.declared.tree.TreeTable.{TreeTable}
use Rattle.tiql_tree.specs.declared.tree.TreeBound.{TreeBound}
use Rattle.tiql_tree.specs.declared.tree.TreeHypo.{TreeHypo}
use Rattle.tiql_tree.specs.declared.tree.TreeView.{TreeView}
use Rattle.tiql_tree.specs.declared.tree.TreeSelect.{TreeSelect}
use Rattle.tiql_tree.specs.declared.tree.TreeSource.{TreeSource}
use Rattle.tiql_tree.specs.declared.tree.TreeItem.{TreeItem}
use Rattle.tiql_tree.specs.declared.tree.TreeValue.{TreeValue}
use Rattle.tiql_tree.specs.declared.tree.TreeValue.TheVariants as values
use Rattle.tiql_tree.specs.declared.tree.TreeRequire.{TreeRequire}
use Rattle.tiql_tree.specs.declared.tree.TreeRequire.TheVariants as needs
use Rattle.tiql_tree.specs.declared.tree.TreeGoal.{TreeGoal}
use Rattle.tiql_tree.specs.declared.tree.TreeGoal.TheVariants as goals
use Rattle.tiql_tree.specs.Words.{Several, parts_of, with_between}
use Rattle.tiql_tree.specs.Texts.{RefText, ExprText, TermText, FactorText, CondText, ConjText, UnitText}
use Rattle.tiql_tree.specs.Texts.{ColumnText, TableText, BoundText, HypoText, ItemText, SourceText, SelectText, ViewText}
use Rattle.tiql_tree.specs.Texts.{RequireText, DeclText, GoalText, QueryText}
use Rattle.tiql_tree.specs.Texts.RefText.{alone, qualified}
use Rattle.tiql_tree.specs.Texts.ExprText.{last_term, next_term}
use Rattle.tiql_tree.specs.Texts.TermText.{last_factor, next_factor}
use Rattle.tiql_tree.specs.Texts.FactorText.{negated, numeral, value_text, reference, absolute, grouped}
use Rattle.tiql_tree.specs.Texts.CondText.{last_conj, next_conj}
use Rattle.tiql_tree.specs.Texts.ConjText.{last_unit, next_unit}
use Rattle.tiql_tree.specs.Texts.UnitText.{denied, bracketed, compared}
use Rattle.tiql_tree.specs.Texts.ItemText.{lone_ref, plain_item, sum_item, min_item, max_item, count_item}
use Rattle.tiql_tree.specs.Texts.RequireText.{all_have, some_have, none_is}
use Rattle.tiql_tree.specs.Texts.DeclText.{table_decl, hypo_decl, view_decl, require_decl}
use Rattle.tiql_tree.specs.Texts.GoalText.{find_goal, sum_goal}
use Rattle.tiql_tree.specs.Grammar.{comma, filter_words, ref_words, term_words, factor_words, expr_words, conj_words, unit_words}
use Rattle.tiql_tree.specs.Grammar.{column_words, bound_words, bounds_words, item_words, source_words, select_words, decl_words}

-- the places of tokens that follow one another
abbrev pub Places : Type 0
Places = List Place

-- the place of the token with this number, from 0
abbrev pub place : ℕ → Places → Place
place zero [] = record { line = 0; column = 0 }
place zero (p ∷ places) = p
place (suc n) [] = record { line = 0; column = 0 }
place (suc n) (p ∷ places) = place n places

-- the name that is the token with this number
abbrev pub spot : ℕ → Places → List ℕ → Spot
spot n places name = record { name = name; place = place n places }

-- parts that follow one another with so many tokens between two of them
abbrev pub laid : {A B : Type 0} → ℕ → (A → ℕ) → (Places → A → B) → Places → List A → List B
laid between size tree places [] = []
laid between size tree places (part ∷ parts) = tree places part ∷ laid between size tree (drop (size part + between) places) parts

-- none where the part is not written
abbrev pub laid_if : {A B : Type 0} → (A → ℕ) → (Places → A → B) → Places → Option (Several A) → List B
laid_if size tree places None = []
laid_if size tree places (Some parts) = laid 1 size tree places (parts_of parts)

-- a column, at the place of its first name
unfoldable pub ref_tree : Places → RefText → TreeRef
ref_tree places (alone column) = record { place = place 0 places; relation = None; column = column }
ref_tree places (qualified relation column) = record { place = place 0 places; relation = Some relation; column = column }

-- the last name of a column
unfoldable pub ref_name : Places → RefText → Spot
ref_name places (alone column) = spot 0 places column
ref_name places (qualified relation column) = spot 2 places column

-- an expression of this form at this place
abbrev pub expr_at : Place → TreeForm → TreeExpr
expr_at place form = roll-TreeExpr (record { place = place; form = form })

-- the form of an expression
abbrev pub form_of : TreeExpr → TreeForm
form_of expr = (out-TreeExpr expr).form

-- a part of a sum with its sign
abbrev pub signed : Bool → TreeExpr → TreeSigned
signed minus part = roll-TreeSigned (record { minus = minus; part = part })

unfoldable mutual
  -- a sum, or the one term
  pub expr_tree : Places → ExprText → TreeExpr
  expr_tree places (last_term term) = term_tree places term
  expr_tree places (next_term term minus more) =
      expr_at (place 0 places) (Sum (signed false (term_tree places term) ∷ sum_parts minus (drop (length (term_words term) + 1) places) more))

  -- the parts of a sum behind the first one
  pub sum_parts : Bool → Places → ExprText → List TreeSigned
  sum_parts minus places (last_term term) = signed minus (term_tree places term) ∷ []
  sum_parts minus places (next_term term next more) =
      signed minus (term_tree places term) ∷ sum_parts next (drop (length (term_words term) + 1) places) more

  -- a product, or the one factor
  pub term_tree : Places → TermText → TreeExpr
  term_tree places (last_factor factor) = factor_tree places factor
  term_tree places (next_factor factor more) =
      expr_at (place 0 places) (Product (factor_tree places factor ∷ product_parts (drop (length (factor_words factor) + 1) places) more))

  -- the factors of a product behind the first one
  pub product_parts : Places → TermText → List TreeExpr
  product_parts places (last_factor factor) = factor_tree places factor ∷ []
  product_parts places (next_factor factor more) =
      factor_tree places factor ∷ product_parts (drop (length (factor_words factor) + 1) places) more

  -- a factor; parentheses are not in the tree
  pub factor_tree : Places → FactorText → TreeExpr
  factor_tree places (negated factor) = expr_at (place 0 places) (Neg (factor_tree (drop 1 places) factor))
  factor_tree places (numeral text) = expr_at (place 0 places) (Number (pos (digits_value 10 text)))
  factor_tree places (value_text value) = expr_at (place 0 places) (Text value)
  factor_tree places (reference ref) = expr_at (place 0 places) (Ref (ref_tree places ref))
  factor_tree places (absolute expr) = expr_at (place 0 places) (Abs (expr_tree (drop 2 places) expr))
  factor_tree places (grouped expr) = expr_at (place 0 places) (form_of (expr_tree (drop 1 places) expr))

unfoldable mutual
  -- an OR, or the one part
  pub cond_tree : Places → CondText → TreeCond
  cond_tree places (last_conj conj) = conj_tree places conj
  cond_tree places (next_conj conj more) = Or (conj_tree places conj ∷ or_parts (drop (length (conj_words conj) + 1) places) more)

  -- the parts of an OR behind the first one
  pub or_parts : Places → CondText → List TreeCond
  or_parts places (last_conj conj) = conj_tree places conj ∷ []
  or_parts places (next_conj conj more) = conj_tree places conj ∷ or_parts (drop (length (conj_words conj) + 1) places) more

  -- an AND, or the one part
  pub conj_tree : Places → ConjText → TreeCond
  conj_tree places (last_unit unit) = unit_tree places unit
  conj_tree places (next_unit unit more) = And (unit_tree places unit ∷ and_parts (drop (length (unit_words unit) + 1) places) more)

  -- the parts of an AND behind the first one
  pub and_parts : Places → ConjText → List TreeCond
  and_parts places (last_unit unit) = unit_tree places unit ∷ []
  and_parts places (next_unit unit more) = unit_tree places unit ∷ and_parts (drop (length (unit_words unit) + 1) places) more

  -- a part of a condition; square brackets are not in the tree
  pub unit_tree : Places → UnitText → TreeCond
  unit_tree places (denied unit) = Not (unit_tree (drop 1 places) unit)
  unit_tree places (bracketed cond) = cond_tree (drop 1 places) cond
  unit_tree places (compared cmp one other) =
      Compare cmp (expr_tree places one) (expr_tree (drop (length (expr_words one) + 1) places) other)

-- behind WHERE
abbrev pub filter_tree : Places → Option CondText → Option TreeCond
filter_tree places None = None
filter_tree places (Some cond) = Some (cond_tree (drop 1 places) cond)

-- a column of a table
unfoldable pub column_tree : Places → ColumnText → TreeColumn
column_tree places column = record { name = spot 0 places column.name; text = column.is_text }

-- a table
unfoldable pub table_tree : Places → TableText → TreeTable
table_tree places table =
    let columns = length (with_between comma column_words table.columns) in
    record {
      name = spot 1 places table.name;
      columns = laid 1 (λ column. 2) column_tree (drop 3 places) (parts_of table.columns);
      key = laid_if (λ name. 1) (spot 0) (drop (3 + columns + 3) places) table.key_names;
    }

-- the bounds of a column
unfoldable pub bound_tree : Places → BoundText → TreeBound
bound_tree places bound = record {
  name = spot 0 places bound.name;
  lo = expr_tree (drop 2 places) bound.lo;
  hi = expr_tree (drop (2 + length (expr_words bound.lo) + 1) places) bound.hi;
}

-- a hypothetical table
unfoldable pub hypo_tree : Places → HypoText → TreeHypo
hypo_tree places hypo =
    let filter = 4 + length (bounds_words hypo.bounds) in
    let dropped = filter + length (filter_words hypo.filter) in
    record {
      name = spot 1 places hypo.name;
      table = spot 3 places hypo.table;
      set = laid_if (λ bound. length (bound_words bound)) bound_tree (drop 5 places) hypo.bounds;
      filter = filter_tree (drop filter places) hypo.filter;
      dropped = if hypo.is_dropped then Some (place dropped places) else None;
    }

-- an item of this value, whose name behind AS stands behind so many tokens
abbrev pub item_at : Places → TreeValue → ℕ → List ℕ → TreeItem
item_at places value size name = record { place = place 0 places; value = value; name = spot (size + 1) places name }

-- an item; a column alone has its own last name
unfoldable pub item_tree : Places → ItemText → TreeItem
item_tree places (lone_ref ref) =
    record { place = place 0 places; value = values.Plain (expr_at (place 0 places) (Ref (ref_tree places ref))); name = ref_name places ref }
item_tree places (plain_item expr name) = item_at places (values.Plain (expr_tree places expr)) (length (expr_words expr)) name
item_tree places (sum_item expr name) = item_at places (values.Sum (expr_tree (drop 2 places) expr)) (3 + length (expr_words expr)) name
item_tree places (min_item expr name) = item_at places (values.Min (expr_tree (drop 2 places) expr)) (3 + length (expr_words expr)) name
item_tree places (max_item expr name) = item_at places (values.Max (expr_tree (drop 2 places) expr)) (3 + length (expr_words expr)) name
item_tree places (count_item name) = item_at places values.Count 4 name

-- a source; without AS its alias is the relation's own name
unfoldable pub source_tree : Places → SourceText → TreeSource
source_tree places source = record { relation = spot 0 places source.relation; alias = alias_of source.alias }
  where
    alias_of : Option (List ℕ) → Spot
    alias_of None = spot 0 places source.relation
    alias_of (Some name) = spot 2 places name

-- a select
unfoldable pub select_tree : Places → SelectText → TreeSelect
select_tree places select =
    let items = if select.is_distinct then 2 else 1 in
    let sources = items + length (with_between comma item_words select.items) + 1 in
    let filter = sources + length (with_between comma source_words select.sources) in
    let group = filter + length (filter_words select.filter) + 2 in
    record {
      place = place 0 places;
      distinct = select.is_distinct;
      items = laid 1 (λ item. length (item_words item)) item_tree (drop items places) (parts_of select.items);
      sources = laid 1 (λ source. length (source_words source)) source_tree (drop sources places) (parts_of select.sources);
      filter = filter_tree (drop filter places) select.filter;
      group = laid_if (λ ref. length (ref_words ref)) ref_tree (drop group places) select.group;
    }

-- a view
unfoldable pub view_tree : Places → ViewText → TreeView
view_tree places view = record {
  name = spot 1 places view.name;
  arms = laid 2 (λ select. length (select_words select)) select_tree (drop 3 places) (parts_of view.arms);
}

-- a requirement
unfoldable pub require_tree : Places → RequireText → TreeRequire
require_tree places (all_have name cond) = needs.All (spot 2 places name) (cond_tree (drop 4 places) cond)
require_tree places (some_have name cond) = needs.Some (spot 2 places name) (cond_tree (drop 4 places) cond)
require_tree places (none_is name) = needs.None (spot 2 places name)

-- a declaration
unfoldable pub decl_tree : Places → DeclText → Decl
decl_tree places (table_decl table) = Table (table_tree places table)
decl_tree places (hypo_decl hypo) = Hypo (hypo_tree places hypo)
decl_tree places (view_decl view) = View (view_tree places view)
decl_tree places (require_decl require) = Require (require_tree places require)

-- the goal
unfoldable pub goal_tree : Places → GoalText → TreeGoal
goal_tree places find_goal = goals.Find
goal_tree places (sum_goal maximize expr relation) =
    goals.Sum maximize (expr_tree (drop 3 places) expr) (spot (3 + length (expr_words expr) + 2) places relation)

-- the tree of a query
unfoldable pub query_tree : Places → QueryText → Tree
query_tree places query = record {
  decls = laid 0 (λ decl. length (decl_words decl)) decl_tree places query.decls;
  goal = goal_tree (drop (length (flat_map decl_words query.decls)) places) query.goal;
}
