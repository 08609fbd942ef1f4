-- how a tree is printed
use Rattle.std.specs.Prelude.{ℕ, Bool, false, if◌then◌else◌, List, [], ◌∷◌, ◌++◌, map, codes, unsigned_abs, decimal, is_some}
use Rattle.std.specs.declared.option.Option.{Option}
use Rattle.std.specs.declared.option.Option.TheVariants.{None, Some}
use Rattle.std.specs.Option.{option_map}
use Rattle.std.specs.List.{flat_map}
use Rattle.std.specs.Str.{bytes_eq}
use Rattle.tiql_lex.specs.declared.token.TokenKind.{TokenKind}
use Rattle.tiql_lex.specs.declared.token.TokenKind.TheVariants.{Name, Keyword, Number, Text, Sign}
use Rattle.tiql_tree.specs.declared.expression.TreeRef.{TreeRef}
use Rattle.tiql_tree.specs.declared.expression.TreeExpr.{TreeExpr, TreeExpr-F, fold-TreeExpr}
use Rattle.tiql_tree.specs.declared.expression.TreeSigned.{TreeSigned, TreeSigned-F, fold-TreeSigned}
use Rattle.tiql_tree.specs.declared.expression.TreeForm.{TreeForm}
use Rattle.tiql_tree.specs.declared.expression.TreeForm.TheOpen.{TreeForm-F}
use Rattle.tiql_tree.specs.declared.expression.TreeForm.TheFolds.{fold-TreeForm}
use Rattle.tiql_tree.specs.declared.condition.TreeCmp.TheVariants.{Eq, Ne}
use Rattle.tiql_tree.specs.declared.condition.TreeCond.{TreeCond}
use Rattle.tiql_tree.specs.declared.condition.TreeCond.TheOpen.{TreeCond-F}
use Rattle.tiql_tree.specs.declared.condition.TreeCond.TheFolds.{fold-TreeCond}
use Rattle.tiql_tree.specs.declared.tree.Spot.{Spot}
use Rattle.tiql_tree.specs.declared.tree.Tree.{Tree}
use Rattle.tiql_tree.specs.declared.tree.Decl.{Decl}
use Rattle.tiql_tree.specs.declared.tree.Decl.TheVariants.{Table, Hypo, View, Require}
use Rattle.tiql_tree.specs.declared.tree.TreeColumn.{TreeColumn}
use Rattle.tiql_tree.specs.declared.tree.TreeTable.{TreeTable}
use Rattle.tiql_tree.specs.declared.tree.TreeBound.{TreeBound}
use Rattle.tiql_tree.specs.declared.tree.TreeHypo.{TreeHypo}
use Rattle.tiql_tree.specs.declared.tree.TreeView.{TreeView}
use Rattle.tiql_tree.specs.declared.tree.TreeSelect.{TreeSelect}
use Rattle.tiql_tree.specs.declared.tree.TreeSource.{TreeSource}
use Rattle.tiql_tree.specs.declared.tree.TreeItem.{TreeItem}
use Rattle.tiql_tree.specs.declared.tree.TreeValue.{TreeValue}
use Rattle.tiql_tree.specs.declared.tree.TreeValue.TheVariants as values
use Rattle.tiql_tree.specs.declared.tree.TreeRequire.{TreeRequire}
use Rattle.tiql_tree.specs.declared.tree.TreeRequire.TheVariants as needs
use Rattle.tiql_tree.specs.declared.tree.TreeGoal.{TreeGoal}
use Rattle.tiql_tree.specs.declared.tree.TreeGoal.TheVariants as goals
use Rattle.tiql_tree.specs.Words.{Word, Several}
use Rattle.tiql_tree.specs.Texts.{RefText, ExprText, TermText, FactorText, CondText, ConjText, UnitText}
use Rattle.tiql_tree.specs.Texts.{ColumnText, TableText, BoundText, HypoText, ItemText, SourceText, SelectText, ViewText}
use Rattle.tiql_tree.specs.Texts.{RequireText, DeclText, GoalText, QueryText}
use Rattle.tiql_tree.specs.Texts.RefText.{alone, qualified}
use Rattle.tiql_tree.specs.Texts.ExprText.{last_term, next_term}
use Rattle.tiql_tree.specs.Texts.TermText.{last_factor, next_factor}
use Rattle.tiql_tree.specs.Texts.FactorText.{negated, numeral, value_text, reference, absolute, grouped}
use Rattle.tiql_tree.specs.Texts.CondText.{last_conj, next_conj}
use Rattle.tiql_tree.specs.Texts.ConjText.{last_unit, next_unit}
use Rattle.tiql_tree.specs.Texts.UnitText.{denied, bracketed, compared}
use Rattle.tiql_tree.specs.Texts.ItemText.{plain_item, sum_item, min_item, max_item, count_item}
use Rattle.tiql_tree.specs.Texts.RequireText.{all_have, some_have, none_is}
use Rattle.tiql_tree.specs.Texts.DeclText.{table_decl, hypo_decl, view_decl, require_decl}
use Rattle.tiql_tree.specs.Texts.GoalText.{find_goal, sum_goal}
use Rattle.tiql_tree.specs.Grammar.{query_words}

-- what stands behind a word: a line ends behind a semicolon, and one space stands behind every other word
abbrev pub space_behind : TokenKind → List ℕ → ℕ
space_behind Sign text = if bytes_eq text (codes ";") then 10 else 32
space_behind Name text = 32
space_behind Keyword text = 32
space_behind Number text = 32
space_behind Text text = 32

-- a word with the byte behind it
abbrev pub spaced : Word → List ℕ
spaced word = word.text ++ space_behind word.kind word.text ∷ []

-- words one after another, each with the byte behind it
unfoldable pub written : List Word → List ℕ
written words = flat_map spaced words

-- what an expression is by itself: a factor, two factors or more, or two terms or more
pub data ExprMade : Type 0 where
  made_factor : FactorText → ExprMade
  made_term : TermText → ExprMade
  made_sum : ExprText → ExprMade

-- the expression where a sum may stand, where a product may stand, and where a factor alone may stand: in parentheses where
-- it is more
abbrev pub as_expr : ExprMade → ExprText
as_expr (made_factor factor) = last_term (last_factor factor)
as_expr (made_term term) = last_term term
as_expr (made_sum expr) = expr

-- the expression where a product may stand
abbrev pub as_term : ExprMade → TermText
as_term (made_factor factor) = last_factor factor
as_term (made_term term) = term
as_term (made_sum expr) = last_factor (grouped expr)

-- the expression where a factor alone may stand
abbrev pub as_factor : ExprMade → FactorText
as_factor (made_factor factor) = factor
as_factor (made_term term) = grouped (last_term term)
as_factor (made_sum expr) = grouped expr

-- a part of a sum, and whether it is taken away
abbrev pub SignedMade : Type 0
SignedMade = Bool × ExprMade

-- the parts of a sum behind the first one
abbrev pub sum_from : TermText → List SignedMade → ExprText
sum_from term [] = last_term term
sum_from term (part ∷ parts) = next_term term part.0 (sum_from (as_term part.1) parts)

-- the factors of a product behind the first one
abbrev pub product_from : FactorText → List ExprMade → TermText
product_from factor [] = last_factor factor
product_from factor (part ∷ parts) = next_factor factor (product_from (as_factor part) parts)

-- a sum of no parts is 0 and a product of none is 1; no text spells them
abbrev pub sum_made : List SignedMade → ExprText
sum_made [] = last_term (last_factor (numeral (codes "0")))
sum_made (part ∷ parts) = sum_from (as_term part.1) parts

-- a product of these factors
abbrev pub product_made : List ExprMade → TermText
product_made [] = last_factor (numeral (codes "1"))
product_made (part ∷ parts) = product_from (as_factor part) parts

-- a column, behind its relation where that is written
abbrev pub ref_text : TreeRef → RefText
ref_text ref = by_relation ref.relation
  where
    by_relation : Option (List ℕ) → RefText
    by_relation None = alone ref.column
    by_relation (Some relation) = qualified relation ref.column

-- a form whose parts are made
abbrev pub form_made : TreeForm-F ExprMade ExprMade SignedMade → ExprMade
form_made (TreeForm-F.Number n) = made_factor (numeral (decimal (unsigned_abs n)))
form_made (TreeForm-F.Text value) = made_factor (value_text value)
form_made (TreeForm-F.Ref ref) = made_factor (reference (ref_text ref))
form_made (TreeForm-F.Sum parts) = made_sum (sum_made parts)
form_made (TreeForm-F.Product parts) = made_term (product_made parts)
form_made (TreeForm-F.Neg part) = made_factor (negated (as_factor part))
form_made (TreeForm-F.Abs part) = made_factor (absolute (as_expr part))

-- an expression is what its form is
abbrev pub expr_of_form : TreeExpr-F ExprMade ExprMade SignedMade → ExprMade
expr_of_form expr = expr.form

-- a part of a sum is its expression with its sign
abbrev pub signed_of_form : TreeSigned-F ExprMade ExprMade SignedMade → SignedMade
signed_of_form part = (part.minus, part.part)

-- what an expression is by itself
unfoldable pub expr_made : TreeExpr → ExprMade
expr_made = fold-TreeExpr ExprMade ExprMade SignedMade form_made expr_of_form signed_of_form

-- what a part of a sum is by itself
unfoldable pub signed_made : TreeSigned → SignedMade
signed_made = fold-TreeSigned ExprMade ExprMade SignedMade form_made expr_of_form signed_of_form

-- what a form is by itself
unfoldable pub made_of_form : TreeForm → ExprMade
made_of_form = fold-TreeForm ExprMade ExprMade SignedMade form_made expr_of_form signed_of_form

-- an expression where a sum may stand
abbrev pub expr_text : TreeExpr → ExprText
expr_text expr = as_expr (expr_made expr)

-- what a condition is by itself: a unit, two units or more, or two ANDs or more
pub data CondMade : Type 0 where
  made_unit : UnitText → CondMade
  made_conj : ConjText → CondMade
  made_cond : CondText → CondMade

-- the condition where an OR may stand
abbrev pub as_cond : CondMade → CondText
as_cond (made_unit unit) = last_conj (last_unit unit)
as_cond (made_conj conj) = last_conj conj
as_cond (made_cond cond) = cond

-- the condition where an AND may stand: in square brackets where it is an OR
abbrev pub as_conj : CondMade → ConjText
as_conj (made_unit unit) = last_unit unit
as_conj (made_conj conj) = conj
as_conj (made_cond cond) = last_unit (bracketed cond)

-- the condition where a unit alone may stand: in square brackets where it is more
abbrev pub as_unit : CondMade → UnitText
as_unit (made_unit unit) = unit
as_unit (made_conj conj) = bracketed (last_conj conj)
as_unit (made_cond cond) = bracketed cond

-- the parts of an OR behind the first one
abbrev pub or_from : ConjText → List CondMade → CondText
or_from conj [] = last_conj conj
or_from conj (part ∷ parts) = next_conj conj (or_from (as_conj part) parts)

-- the parts of an AND behind the first one
abbrev pub and_from : UnitText → List CondMade → ConjText
and_from unit [] = last_unit unit
and_from unit (part ∷ parts) = next_unit unit (and_from (as_unit part) parts)

-- the number 0
abbrev pub zero_expr : ExprText
zero_expr = last_term (last_factor (numeral (codes "0")))

-- an AND of no parts holds and an OR of none fails; no text spells them
abbrev pub and_made : List CondMade → ConjText
and_made [] = last_unit (compared Eq zero_expr zero_expr)
and_made (part ∷ parts) = and_from (as_unit part) parts

-- an OR of these parts
abbrev pub or_made : List CondMade → CondText
or_made [] = last_conj (last_unit (compared Ne zero_expr zero_expr))
or_made (part ∷ parts) = or_from (as_conj part) parts

-- a condition whose parts are made
abbrev pub cond_step : TreeCond-F CondMade → CondMade
cond_step (TreeCond-F.Compare cmp one other) = made_unit (compared cmp (expr_text one) (expr_text other))
cond_step (TreeCond-F.Not part) = made_unit (denied (as_unit part))
cond_step (TreeCond-F.And parts) = made_conj (and_made parts)
cond_step (TreeCond-F.Or parts) = made_cond (or_made parts)

-- what a condition is by itself
unfoldable pub cond_made : TreeCond → CondMade
cond_made = fold-TreeCond CondMade cond_step

-- a condition where an OR may stand
abbrev pub cond_text : TreeCond → CondText
cond_text cond = as_cond (cond_made cond)

-- the parts of a list, where there is one
abbrev pub several : {A B : Type 0} → B → (A → B) → List A → Several B
several none text [] = record { first = none; more = [] }
several none text (part ∷ parts) = record { first = text part; more = map text parts }

-- the parts of a list, none where it is empty
abbrev pub several_if : {A B : Type 0} → (A → B) → List A → Option (Several B)
several_if text [] = None
several_if text (part ∷ parts) = Some (record { first = text part; more = map text parts })

-- a name without its place
abbrev pub name_of : Spot → List ℕ
name_of spot = spot.name

-- a column of a table
abbrev pub column_text : TreeColumn → ColumnText
column_text column = record { name = column.name.name; is_text = column.text }

-- a table; one without columns has no text
unfoldable pub table_text : TreeTable → TableText
table_text table = record {
  name = table.name.name;
  columns = several (record { name = []; is_text = false }) column_text table.columns;
  key_names = several_if name_of table.key;
}

-- the bounds of a column
abbrev pub bound_text : TreeBound → BoundText
bound_text bound = record { name = bound.name.name; lo = expr_text bound.lo; hi = expr_text bound.hi }

-- a hypothetical table
unfoldable pub hypo_text : TreeHypo → HypoText
hypo_text hypo = record {
  name = hypo.name.name;
  table = hypo.table.name;
  bounds = several_if bound_text hypo.set;
  filter = option_map cond_text hypo.filter;
  is_dropped = is_some hypo.dropped;
}

-- an item of this value and name
abbrev pub value_text_as : TreeValue → List ℕ → ItemText
value_text_as (values.Plain expr) name = plain_item (expr_text expr) name
value_text_as (values.Sum expr) name = sum_item (expr_text expr) name
value_text_as values.Count name = count_item name
value_text_as (values.Min expr) name = min_item (expr_text expr) name
value_text_as (values.Max expr) name = max_item (expr_text expr) name

-- an item, with its name behind AS
unfoldable pub item_text : TreeItem → ItemText
item_text item = value_text_as item.value item.name.name

-- a source, with its alias behind AS
abbrev pub source_text : TreeSource → SourceText
source_text source = record { relation = source.relation.name; alias = Some source.alias.name }

-- a select; one without items or sources has no text
unfoldable pub select_text : TreeSelect → SelectText
select_text select = record {
  is_distinct = select.distinct;
  items = several (count_item []) item_text select.items;
  sources = several (record { relation = []; alias = None }) source_text select.sources;
  filter = option_map cond_text select.filter;
  group = several_if ref_text select.group;
}

-- stands for the first select of a view that has none
abbrev pub no_select : SelectText
no_select = record {
  is_distinct = false;
  items = record { first = count_item []; more = [] };
  sources = record { first = record { relation = []; alias = None }; more = [] };
  filter = None;
  group = None;
}

-- a view; one without selects has no text
unfoldable pub view_text : TreeView → ViewText
view_text view = record {
  name = view.name.name;
  arms = several no_select select_text view.arms;
}

-- a requirement
unfoldable pub require_text : TreeRequire → RequireText
require_text (needs.All name cond) = all_have name.name (cond_text cond)
require_text (needs.Some name cond) = some_have name.name (cond_text cond)
require_text (needs.None name) = none_is name.name

-- a declaration
unfoldable pub decl_text : Decl → DeclText
decl_text (Table table) = table_decl (table_text table)
decl_text (Hypo hypo) = hypo_decl (hypo_text hypo)
decl_text (View view) = view_decl (view_text view)
decl_text (Require require) = require_decl (require_text require)

-- the goal
unfoldable pub goal_text : TreeGoal → GoalText
goal_text goals.Find = find_goal
goal_text (goals.Sum maximize part relation) = sum_goal maximize (expr_text part) relation.name

-- the text of a tree: signs that group only where a sum, a product, an AND or an OR would else be read otherwise, and AS
-- after every item and every source
unfoldable pub tree_text : Tree → QueryText
tree_text tree = record { decls = map decl_text tree.decls; goal = goal_text tree.goal }

-- its bytes
abbrev pub printed : Tree → List ℕ
printed tree = written (query_words (tree_text tree))
