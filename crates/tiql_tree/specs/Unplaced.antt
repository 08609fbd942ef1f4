-- trees without their places
use Rattle.std.specs.Prelude.{◌≡◌, ℕ, List, map}
use Rattle.std.specs.Option.{option_map}
use Rattle.base_kit.specs.declared.place.Place.{Place}
use Rattle.tiql_tree.specs.declared.expression.TreeRef.{TreeRef}
use Rattle.tiql_tree.specs.declared.expression.TreeExpr.{TreeExpr, TreeExpr-F, fold-TreeExpr}
use Rattle.tiql_tree.specs.declared.expression.TreeSigned.{TreeSigned, TreeSigned-F}
use Rattle.tiql_tree.specs.declared.expression.TreeForm.{TreeForm}
use Rattle.tiql_tree.specs.declared.expression.TreeForm.TheOpen.{TreeForm-F}
use Rattle.tiql_tree.specs.declared.expression.TreeForm.TheVariants.{Number, Text, Ref}
use Rattle.tiql_tree.specs.declared.expression.TreeForm.TheViews.{Sum, Product, Neg, Abs}
use Rattle.tiql_tree.specs.declared.condition.TreeCond.{TreeCond}
use Rattle.tiql_tree.specs.declared.condition.TreeCond.TheOpen.{TreeCond-F}
use Rattle.tiql_tree.specs.declared.condition.TreeCond.TheFolds.{fold-TreeCond}
use Rattle.tiql_tree.specs.declared.condition.TreeCond.TheVariants.{Compare}
use Rattle.tiql_tree.specs.declared.condition.TreeCond.TheViews.{Not, And, Or}
use Rattle.tiql_tree.specs.declared.tree.Spot.{Spot}
use Rattle.tiql_tree.specs.declared.tree.Tree.{Tree}
use Rattle.tiql_tree.specs.declared.tree.Decl.{Decl}
use Rattle.tiql_tree.specs.declared.tree.Decl.TheVariants.{Table, Hypo, View, Require}
use Rattle.tiql_tree.specs.declared.tree.TreeColumn.{TreeColumn}
use Rattle.tiql_tree.specs.declared.tree.TreeTable.{TreeTable}
use Rattle.tiql_tree.specs.declared.tree.TreeBound.{TreeBound}
use Rattle.tiql_tree.specs.declared.tree.TreeHypo.{TreeHypo}
use Rattle.tiql_tree.specs.declared.tree.TreeView.{TreeView}
use Rattle.tiql_tree.specs.declared.tree.TreeSelect.{TreeSelect}
use Rattle.tiql_tree.specs.declared.tree.TreeSource.{TreeSource}
use Rattle.tiql_tree.specs.declared.tree.TreeItem.{TreeItem}
use Rattle.tiql_tree.specs.declared.tree.TreeValue.{TreeValue}
use Rattle.tiql_tree.specs.declared.tree.TreeValue.TheVariants as values
use Rattle.tiql_tree.specs.declared.tree.TreeRequire.{TreeRequire}
use Rattle.tiql_tree.specs.declared.tree.TreeRequire.TheVariants as needs
use Rattle.tiql_tree.specs.declared.tree.TreeGoal.{TreeGoal}
use Rattle.tiql_tree.specs.declared.tree.TreeGoal.TheVariants as goals
use Rattle.tiql_tree.specs.Trees.{expr_at, signed}
use Rattle.tiql_tree.specs.Spelled.{Spelled}

-- stands for every place
abbrev pub no_place : Place
no_place = record { line = 0; column = 0 }

-- a name
abbrev pub spot_only : Spot → Spot
spot_only spot = record { name = spot.name; place = no_place }

-- a column
abbrev pub ref_only : TreeRef → TreeRef
ref_only ref = record { place = no_place; relation = ref.relation; column = ref.column }

-- a form whose parts have no places
abbrev pub form_step : TreeForm-F TreeForm TreeExpr TreeSigned → TreeForm
form_step (TreeForm-F.Number n) = Number n
form_step (TreeForm-F.Text t) = Text t
form_step (TreeForm-F.Ref r) = Ref (ref_only r)
form_step (TreeForm-F.Sum parts) = Sum parts
form_step (TreeForm-F.Product parts) = Product parts
form_step (TreeForm-F.Neg part) = Neg part
form_step (TreeForm-F.Abs part) = Abs part

-- an expression whose form has no places
abbrev pub expr_step : TreeExpr-F TreeForm TreeExpr TreeSigned → TreeExpr
expr_step expr = expr_at no_place expr.form

-- a part of a sum whose expression has no places
abbrev pub signed_step : TreeSigned-F TreeForm TreeExpr TreeSigned → TreeSigned
signed_step part = signed part.minus part.part

-- an expression
unfoldable pub expr_only : TreeExpr → TreeExpr
expr_only = fold-TreeExpr TreeForm TreeExpr TreeSigned form_step expr_step signed_step

-- a condition whose parts have no places
abbrev pub cond_step : TreeCond-F TreeCond → TreeCond
cond_step (TreeCond-F.Compare cmp one other) = Compare cmp (expr_only one) (expr_only other)
cond_step (TreeCond-F.Not part) = Not part
cond_step (TreeCond-F.And parts) = And parts
cond_step (TreeCond-F.Or parts) = Or parts

-- a condition
unfoldable pub cond_only : TreeCond → TreeCond
cond_only = fold-TreeCond TreeCond cond_step

-- a column of a table
abbrev pub column_only : TreeColumn → TreeColumn
column_only column = record { name = spot_only column.name; text = column.text }

-- a table
abbrev pub table_only : TreeTable → TreeTable
table_only table = record { name = spot_only table.name; columns = map column_only table.columns; key = map spot_only table.key }

-- the bounds of a column
abbrev pub bound_only : TreeBound → TreeBound
bound_only bound = record { name = spot_only bound.name; lo = expr_only bound.lo; hi = expr_only bound.hi }

-- a hypothetical table; only whether DROP is written stays
abbrev pub hypo_only : TreeHypo → TreeHypo
hypo_only hypo = record {
  name = spot_only hypo.name;
  table = spot_only hypo.table;
  set = map bound_only hypo.set;
  filter = option_map cond_only hypo.filter;
  dropped = option_map (λ place. no_place) hypo.dropped;
}

-- what an item is made of
abbrev pub value_only : TreeValue → TreeValue
value_only (values.Plain expr) = values.Plain (expr_only expr)
value_only (values.Sum expr) = values.Sum (expr_only expr)
value_only values.Count = values.Count
value_only (values.Min expr) = values.Min (expr_only expr)
value_only (values.Max expr) = values.Max (expr_only expr)

-- an item
abbrev pub item_only : TreeItem → TreeItem
item_only item = record { place = no_place; value = value_only item.value; name = spot_only item.name }

-- a source
abbrev pub source_only : TreeSource → TreeSource
source_only source = record { relation = spot_only source.relation; alias = spot_only source.alias }

-- a select
abbrev pub select_only : TreeSelect → TreeSelect
select_only select = record {
  place = no_place;
  distinct = select.distinct;
  items = map item_only select.items;
  sources = map source_only select.sources;
  filter = option_map cond_only select.filter;
  group = map ref_only select.group;
}

-- a view
abbrev pub view_only : TreeView → TreeView
view_only view = record { name = spot_only view.name; arms = map select_only view.arms }

-- a requirement
abbrev pub require_only : TreeRequire → TreeRequire
require_only (needs.All name cond) = needs.All (spot_only name) (cond_only cond)
require_only (needs.Some name cond) = needs.Some (spot_only name) (cond_only cond)
require_only (needs.None name) = needs.None (spot_only name)

-- a declaration
abbrev pub decl_only : Decl → Decl
decl_only (Table table) = Table (table_only table)
decl_only (Hypo hypo) = Hypo (hypo_only hypo)
decl_only (View view) = View (view_only view)
decl_only (Require require) = Require (require_only require)

-- the goal
abbrev pub goal_only : TreeGoal → TreeGoal
goal_only goals.Find = goals.Find
goal_only (goals.Sum maximize part relation) = goals.Sum maximize (expr_only part) (spot_only relation)

-- the tree without its places
unfoldable pub tree_only : Tree → Tree
tree_only tree = record { decls = map decl_only tree.decls; goal = goal_only tree.goal }

-- the bytes spell this tree, places aside
pub record Spells (bytes : List ℕ) (tree : Tree) : Type 0 where
  pub other : Tree
  pub spelled : Spelled bytes other
  pub same : tree_only other ≡ tree_only tree

-- some text spells the tree, places aside
abbrev pub HasText : Tree → Type 0
HasText tree = (bytes : List ℕ) × Spells bytes tree
