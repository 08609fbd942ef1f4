-- within how many signs and words that open something a token of a query lies at most: (, [, NOT and a minus before a factor.
-- The parentheses of a table's columns and its KEY are not counted
use Rattle.std.specs.Prelude.{ℕ, ◌+◌, max, List, map}
use Rattle.std.specs.declared.option.Option.{Option}
use Rattle.std.specs.declared.option.Option.TheVariants.{None, Some}
use Rattle.std.specs.List.{fold}
use Rattle.tiql_tree.specs.Words.{Several, parts_of}
use Rattle.tiql_tree.specs.Texts.{ExprText, TermText, FactorText, CondText, ConjText, UnitText}
use Rattle.tiql_tree.specs.Texts.{BoundText, ItemText, SelectText, RequireText, DeclText, GoalText, QueryText}
use Rattle.tiql_tree.specs.Texts.ExprText.{last_term, next_term}
use Rattle.tiql_tree.specs.Texts.TermText.{last_factor, next_factor}
use Rattle.tiql_tree.specs.Texts.FactorText.{negated, numeral, value_text, reference, absolute, grouped}
use Rattle.tiql_tree.specs.Texts.CondText.{last_conj, next_conj}
use Rattle.tiql_tree.specs.Texts.ConjText.{last_unit, next_unit}
use Rattle.tiql_tree.specs.Texts.UnitText.{denied, bracketed, compared}
use Rattle.tiql_tree.specs.Texts.ItemText.{lone_ref, plain_item, sum_item, min_item, max_item, count_item}
use Rattle.tiql_tree.specs.Texts.RequireText.{all_have, some_have, none_is}
use Rattle.tiql_tree.specs.Texts.DeclText.{table_decl, hypo_decl, view_decl, require_decl}
use Rattle.tiql_tree.specs.Texts.GoalText.{find_goal, sum_goal}

-- of the deepest of these parts
abbrev pub deepest : {A : Type 0} → (A → ℕ) → List A → ℕ
deepest depth parts = fold max 0 (map depth parts)

unfoldable mutual
  -- of the deepest term
  pub expr_depth : ExprText → ℕ
  expr_depth (last_term term) = term_depth term
  expr_depth (next_term term minus more) = max (term_depth term) (expr_depth more)

  -- of the deepest factor
  pub term_depth : TermText → ℕ
  term_depth (last_factor factor) = factor_depth factor
  term_depth (next_factor factor more) = max (factor_depth factor) (term_depth more)

  -- a minus sign, a parenthesis and ABS each open one level
  pub factor_depth : FactorText → ℕ
  factor_depth (negated factor) = 1 + factor_depth factor
  factor_depth (numeral text) = 0
  factor_depth (value_text value) = 0
  factor_depth (reference ref) = 0
  factor_depth (absolute expr) = 1 + expr_depth expr
  factor_depth (grouped expr) = 1 + expr_depth expr

unfoldable mutual
  -- of the deepest part between OR
  pub cond_depth : CondText → ℕ
  cond_depth (last_conj conj) = conj_depth conj
  cond_depth (next_conj conj more) = max (conj_depth conj) (cond_depth more)

  -- of the deepest part between AND
  pub conj_depth : ConjText → ℕ
  conj_depth (last_unit unit) = unit_depth unit
  conj_depth (next_unit unit more) = max (unit_depth unit) (conj_depth more)

  -- NOT and a square bracket each open one level
  pub unit_depth : UnitText → ℕ
  unit_depth (denied unit) = 1 + unit_depth unit
  unit_depth (bracketed cond) = 1 + cond_depth cond
  unit_depth (compared cmp one other) = max (expr_depth one) (expr_depth other)

-- of the condition behind WHERE
abbrev pub filter_depth : Option CondText → ℕ
filter_depth None = 0
filter_depth (Some cond) = cond_depth cond

-- of the deeper of the two bounds
unfoldable pub bound_depth : BoundText → ℕ
bound_depth bound = max (expr_depth bound.lo) (expr_depth bound.hi)

-- of the deepest bound behind SET
abbrev pub bounds_depth : Option (Several BoundText) → ℕ
bounds_depth None = 0
bounds_depth (Some bounds) = deepest bound_depth (parts_of bounds)

-- of an item; the parenthesis behind an aggregate opens one level
unfoldable pub item_depth : ItemText → ℕ
item_depth (lone_ref ref) = 0
item_depth (plain_item expr name) = expr_depth expr
item_depth (sum_item expr name) = 1 + expr_depth expr
item_depth (min_item expr name) = 1 + expr_depth expr
item_depth (max_item expr name) = 1 + expr_depth expr
item_depth (count_item name) = 1

-- of the deepest item or of the condition
unfoldable pub select_depth : SelectText → ℕ
select_depth select = max (deepest item_depth (parts_of select.items)) (filter_depth select.filter)

-- of the condition
unfoldable pub require_depth : RequireText → ℕ
require_depth (all_have name cond) = cond_depth cond
require_depth (some_have name cond) = cond_depth cond
require_depth (none_is name) = 0

-- of a declaration
unfoldable pub decl_depth : DeclText → ℕ
decl_depth (table_decl table) = 0
decl_depth (hypo_decl hypo) = max (bounds_depth hypo.bounds) (filter_depth hypo.filter)
decl_depth (view_decl view) = deepest select_depth (parts_of view.arms)
decl_depth (require_decl require) = require_depth require

-- of the goal; the parenthesis behind SUM opens one level
unfoldable pub goal_depth : GoalText → ℕ
goal_depth find_goal = 0
goal_depth (sum_goal maximize expr relation) = 1 + expr_depth expr

-- of the deepest declaration or of the goal
unfoldable pub query_depth : QueryText → ℕ
query_depth query = max (deepest decl_depth query.decls) (goal_depth query.goal)
