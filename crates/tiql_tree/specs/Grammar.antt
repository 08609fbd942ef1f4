-- the words of a query, rule by rule
use Rattle.std.specs.Prelude.{ℕ, if◌then◌else◌, List, [], ◌∷◌, ◌++◌, codes}
use Rattle.std.specs.declared.option.Option.{Option}
use Rattle.std.specs.declared.option.Option.TheVariants.{None, Some}
use Rattle.std.specs.List.{flat_map}
use Rattle.tiql_tree.specs.declared.condition.TreeCmp.{TreeCmp}
use Rattle.tiql_tree.specs.declared.condition.TreeCmp.TheVariants.{Eq, Ne, Lt, Le, Gt, Ge}
use Rattle.tiql_tree.specs.Words.{Word, key, sign, named, digits, in_quotes, Several, with_between}
use Rattle.tiql_tree.specs.Texts.{RefText, ExprText, TermText, FactorText, CondText, ConjText, UnitText}
use Rattle.tiql_tree.specs.Texts.{ColumnText, TableText, BoundText, HypoText, ItemText, SourceText, SelectText, ViewText}
use Rattle.tiql_tree.specs.Texts.{RequireText, DeclText, GoalText, QueryText}
use Rattle.tiql_tree.specs.Texts.RefText.{alone, qualified}
use Rattle.tiql_tree.specs.Texts.ExprText.{last_term, next_term}
use Rattle.tiql_tree.specs.Texts.TermText.{last_factor, next_factor}
use Rattle.tiql_tree.specs.Texts.FactorText.{negated, numeral, value_text, reference, absolute, grouped}
use Rattle.tiql_tree.specs.Texts.CondText.{last_conj, next_conj}
use Rattle.tiql_tree.specs.Texts.ConjText.{last_unit, next_unit}
use Rattle.tiql_tree.specs.Texts.UnitText.{denied, bracketed, compared}
use Rattle.tiql_tree.specs.Texts.ItemText.{lone_ref, plain_item, sum_item, min_item, max_item, count_item}
use Rattle.tiql_tree.specs.Texts.RequireText.{all_have, some_have, none_is}
use Rattle.tiql_tree.specs.Texts.DeclText.{table_decl, hypo_decl, view_decl, require_decl}
use Rattle.tiql_tree.specs.Texts.GoalText.{find_goal, sum_goal}

-- a comma
abbrev pub comma : List Word
comma = sign (codes ",") ∷ []

-- in parentheses
abbrev pub in_parens : List Word → List Word
in_parens words = sign (codes "(") ∷ words ++ sign (codes ")") ∷ []

-- an optional part behind these words
abbrev pub optional : {A : Type 0} → (A → List Word) → Option A → List Word
optional words None = []
optional words (Some part) = words part

-- a column's name, or a relation's name, a point and a column's
unfoldable pub ref_words : RefText → List Word
ref_words (alone column) = named column ∷ []
ref_words (qualified relation column) = named relation ∷ sign (codes ".") ∷ named column ∷ []

unfoldable mutual
  -- terms with plus or minus signs between them
  pub expr_words : ExprText → List Word
  expr_words (last_term term) = term_words term
  expr_words (next_term term minus more) = term_words term ++ sign (if minus then codes "-" else codes "+") ∷ expr_words more

  -- factors with stars between them
  pub term_words : TermText → List Word
  term_words (last_factor factor) = factor_words factor
  term_words (next_factor factor more) = factor_words factor ++ sign (codes "*") ∷ term_words more

  -- a factor
  pub factor_words : FactorText → List Word
  factor_words (negated factor) = sign (codes "-") ∷ factor_words factor
  factor_words (numeral text) = digits text ∷ []
  factor_words (value_text value) = in_quotes value ∷ []
  factor_words (reference ref) = ref_words ref
  factor_words (absolute expr) = key (codes "ABS") ∷ in_parens (expr_words expr)
  factor_words (grouped expr) = in_parens (expr_words expr)

-- the sign of a comparison
abbrev pub cmp_text : TreeCmp → List ℕ
cmp_text Eq = codes "="
cmp_text Ne = codes "<>"
cmp_text Lt = codes "<"
cmp_text Le = codes "<="
cmp_text Gt = codes ">"
cmp_text Ge = codes ">="

unfoldable mutual
  -- parts with OR between them
  pub cond_words : CondText → List Word
  cond_words (last_conj conj) = conj_words conj
  cond_words (next_conj conj more) = conj_words conj ++ key (codes "OR") ∷ cond_words more

  -- parts with AND between them
  pub conj_words : ConjText → List Word
  conj_words (last_unit unit) = unit_words unit
  conj_words (next_unit unit more) = unit_words unit ++ key (codes "AND") ∷ conj_words more

  -- a part of a condition
  pub unit_words : UnitText → List Word
  unit_words (denied unit) = key (codes "NOT") ∷ unit_words unit
  unit_words (bracketed cond) = sign (codes "[") ∷ cond_words cond ++ sign (codes "]") ∷ []
  unit_words (compared cmp one other) = expr_words one ++ sign (cmp_text cmp) ∷ expr_words other

-- a name
abbrev pub name_words : List ℕ → List Word
name_words name = named name ∷ []

-- a column of a table and its type
unfoldable pub column_words : ColumnText → List Word
column_words column = named column.name ∷ key (if column.is_text then codes "TEXT" else codes "INT") ∷ []

-- a table
unfoldable pub table_words : TableText → List Word
table_words table =
    key (codes "TABLE") ∷ named table.name ∷ in_parens (with_between comma column_words table.columns)
    ++ optional (λ names. key (codes "KEY") ∷ in_parens (with_between comma name_words names)) table.key_names
    ++ sign (codes ";") ∷ []

-- the bounds of a column
unfoldable pub bound_words : BoundText → List Word
bound_words bound = named bound.name ∷ key (codes "IN") ∷ expr_words bound.lo ++ sign (codes "..") ∷ expr_words bound.hi

-- [ "SET" bound { "," bound } ]
abbrev pub bounds_words : Option (Several BoundText) → List Word
bounds_words bounds = optional (λ several. key (codes "SET") ∷ with_between comma bound_words several) bounds

-- [ "WHERE" cond ]
abbrev pub filter_words : Option CondText → List Word
filter_words filter = optional (λ cond. key (codes "WHERE") ∷ cond_words cond) filter

-- a hypothetical table
unfoldable pub hypo_words : HypoText → List Word
hypo_words hypo =
    key (codes "HYPO") ∷ named hypo.name ∷ key (codes "FROM") ∷ named hypo.table ∷ []
    ++ bounds_words hypo.bounds
    ++ filter_words hypo.filter
    ++ (if hypo.is_dropped then key (codes "DROP") ∷ [] else [])
    ++ sign (codes ";") ∷ []

-- "AS" name
abbrev pub alias_words : List ℕ → List Word
alias_words name = key (codes "AS") ∷ named name ∷ []

-- an item of a select
unfoldable pub item_words : ItemText → List Word
item_words (lone_ref ref) = ref_words ref
item_words (plain_item expr name) = expr_words expr ++ alias_words name
item_words (sum_item expr name) = key (codes "SUM") ∷ in_parens (expr_words expr) ++ alias_words name
item_words (min_item expr name) = key (codes "MIN") ∷ in_parens (expr_words expr) ++ alias_words name
item_words (max_item expr name) = key (codes "MAX") ∷ in_parens (expr_words expr) ++ alias_words name
item_words (count_item name) = key (codes "COUNT") ∷ in_parens (sign (codes "*") ∷ []) ++ alias_words name

-- a source of a select
unfoldable pub source_words : SourceText → List Word
source_words source = named source.relation ∷ optional alias_words source.alias

-- a select
unfoldable pub select_words : SelectText → List Word
select_words select =
    key (codes "SELECT") ∷ (if select.is_distinct then key (codes "DISTINCT") ∷ [] else [])
    ++ with_between comma item_words select.items
    ++ key (codes "FROM") ∷ with_between comma source_words select.sources
    ++ filter_words select.filter
    ++ optional (λ refs. key (codes "GROUP") ∷ key (codes "BY") ∷ with_between comma ref_words refs) select.group

-- a view
unfoldable pub view_words : ViewText → List Word
view_words view =
    key (codes "VIEW") ∷ named view.name ∷ key (codes "AS") ∷ []
    ++ with_between (key (codes "UNION") ∷ key (codes "ALL") ∷ []) select_words view.arms
    ++ sign (codes ";") ∷ []

-- a requirement
unfoldable pub require_words : RequireText → List Word
require_words (all_have name cond) =
    key (codes "REQUIRE") ∷ key (codes "ALL") ∷ named name ∷ key (codes "HAVE") ∷ cond_words cond ++ sign (codes ";") ∷ []
require_words (some_have name cond) =
    key (codes "REQUIRE") ∷ key (codes "SOME") ∷ named name ∷ key (codes "HAVE") ∷ cond_words cond ++ sign (codes ";") ∷ []
require_words (none_is name) = key (codes "REQUIRE") ∷ key (codes "NONE") ∷ named name ∷ sign (codes ";") ∷ []

-- a declaration
unfoldable pub decl_words : DeclText → List Word
decl_words (table_decl table) = table_words table
decl_words (hypo_decl hypo) = hypo_words hypo
decl_words (view_decl view) = view_words view
decl_words (require_decl require) = require_words require

-- the goal
unfoldable pub goal_words : GoalText → List Word
goal_words find_goal = key (codes "FIND") ∷ sign (codes ";") ∷ []
goal_words (sum_goal maximize expr relation) =
    key (if maximize then codes "MAXIMIZE" else codes "MINIMIZE") ∷ key (codes "SUM") ∷ in_parens (expr_words expr)
    ++ key (codes "FROM") ∷ named relation ∷ sign (codes ";") ∷ []

-- all declarations and the goal
unfoldable pub query_words : QueryText → List Word
query_words query = flat_map decl_words query.decls ++ goal_words query.goal
