-- trees of which every number is one that a text may have
use Rattle.std.specs.Prelude.{◌^◌, nat_le, unsigned_abs, Bool, true, ◌&&◌, IsTrue, List, Option, Some, None}
use Rattle.std.specs.List.{list_all}
use Rattle.tiql_tree.specs.declared.expression.TreeExpr.{TreeExpr, TreeExpr-F, fold-TreeExpr}
use Rattle.tiql_tree.specs.declared.expression.TreeSigned.{TreeSigned, TreeSigned-F, fold-TreeSigned}
use Rattle.tiql_tree.specs.declared.expression.TreeForm.{TreeForm}
use Rattle.tiql_tree.specs.declared.expression.TreeForm.TheOpen.{TreeForm-F}
use Rattle.tiql_tree.specs.declared.expression.TreeForm.TheFolds.{fold-TreeForm}
use Rattle.tiql_tree.specs.declared.condition.TreeCond.{TreeCond}
use Rattle.tiql_tree.specs.declared.condition.TreeCond.TheOpen.{TreeCond-F}
use Rattle.tiql_tree.specs.declared.condition.TreeCond.TheFolds.{fold-TreeCond}
use Rattle.tiql_tree.specs.declared.tree.Tree.{Tree}
use Rattle.tiql_tree.specs.declared.tree.Decl.{Decl}
use Rattle.tiql_tree.specs.declared.tree.Decl.TheVariants as decls
use Rattle.tiql_tree.specs.declared.tree.TreeBound.{TreeBound}
use Rattle.tiql_tree.specs.declared.tree.TreeSelect.{TreeSelect}
use Rattle.tiql_tree.specs.declared.tree.TreeValue.{TreeValue}
use Rattle.tiql_tree.specs.declared.tree.TreeValue.TheVariants as values
use Rattle.tiql_tree.specs.declared.tree.TreeRequire.{TreeRequire}
use Rattle.tiql_tree.specs.declared.tree.TreeRequire.TheVariants as needs
use Rattle.tiql_tree.specs.declared.tree.TreeGoal.{TreeGoal}
use Rattle.tiql_tree.specs.declared.tree.TreeGoal.TheVariants as goals

-- all of these
abbrev pub all_true : List Bool → Bool
all_true tests = list_all (λ test. test) tests

-- a form whose parts were judged
abbrev pub small_step : TreeForm-F Bool Bool Bool → Bool
small_step (TreeForm-F.Number n) = nat_le (unsigned_abs n) (10 ^ 15)
small_step (TreeForm-F.Text t) = true
small_step (TreeForm-F.Ref ref) = true
small_step (TreeForm-F.Sum parts) = all_true parts
small_step (TreeForm-F.Product parts) = all_true parts
small_step (TreeForm-F.Neg part) = part
small_step (TreeForm-F.Abs part) = part

-- an expression whose form was judged
abbrev pub small_expr_step : TreeExpr-F Bool Bool Bool → Bool
small_expr_step expr = expr.form

-- a part of a sum whose expression was judged
abbrev pub small_signed_step : TreeSigned-F Bool Bool Bool → Bool
small_signed_step part = part.part

-- the numbers of an expression are small
unfoldable pub small_expr : TreeExpr → Bool
small_expr = fold-TreeExpr Bool Bool Bool small_step small_expr_step small_signed_step

-- the numbers of a part of a sum are small
unfoldable pub small_signed : TreeSigned → Bool
small_signed = fold-TreeSigned Bool Bool Bool small_step small_expr_step small_signed_step

-- the numbers of a form are small
unfoldable pub small_form : TreeForm → Bool
small_form = fold-TreeForm Bool Bool Bool small_step small_expr_step small_signed_step

-- a condition whose parts were judged
abbrev pub small_cond_step : TreeCond-F Bool → Bool
small_cond_step (TreeCond-F.Compare cmp one other) = small_expr one && small_expr other
small_cond_step (TreeCond-F.Not part) = part
small_cond_step (TreeCond-F.And parts) = all_true parts
small_cond_step (TreeCond-F.Or parts) = all_true parts

-- the numbers of a condition are small
unfoldable pub small_cond : TreeCond → Bool
small_cond = fold-TreeCond Bool small_cond_step

-- the numbers behind WHERE are small
abbrev pub small_filter : Option TreeCond → Bool
small_filter None = true
small_filter (Some cond) = small_cond cond

-- the numbers of an item's value are small
abbrev pub small_value : TreeValue → Bool
small_value (values.Plain expr) = small_expr expr
small_value (values.Sum expr) = small_expr expr
small_value values.Count = true
small_value (values.Min expr) = small_expr expr
small_value (values.Max expr) = small_expr expr

-- the numbers of a select are small
abbrev pub small_select : TreeSelect → Bool
small_select select = small_filter select.filter && list_all (λ item. small_value item.value) select.items

-- the numbers of two bounds are small
abbrev pub small_bound : TreeBound → Bool
small_bound bound = small_expr bound.lo && small_expr bound.hi

-- the numbers of a requirement are small
abbrev pub small_require : TreeRequire → Bool
small_require (needs.All spot test) = small_cond test
small_require (needs.Some spot test) = small_cond test
small_require (needs.None spot) = true

-- the numbers of a declaration are small
abbrev pub small_decl : Decl → Bool
small_decl (decls.Table table) = true
small_decl (decls.Hypo hypo) = list_all small_bound hypo.set && small_filter hypo.filter
small_decl (decls.View view) = list_all small_select view.arms
small_decl (decls.Require require) = small_require require

-- the numbers of the goal are small
abbrev pub small_goal : TreeGoal → Bool
small_goal goals.Find = true
small_goal (goals.Sum maximize part relation) = small_expr part

-- every number in the tree is at most 10^15 in size
unfoldable pub HasSmallNumbers : Tree → Type 0
HasSmallNumbers tree = IsTrue (list_all small_decl tree.decls && small_goal tree.goal)
