-- which trees are sound and of which query, and which rule another tree breaks first
use Rattle.std.specs.Prelude.{◌≡◌, [], ◌∷◌, Some, Result, Ok, Err}
use Rattle.tiql_query.specs.declared.aim.Require.{Require}
use Rattle.tiql_query.specs.declared.aim.Require.TheVariants as needs
use Rattle.tiql_query.specs.declared.aim.Aim.{Aim}
use Rattle.tiql_query.specs.declared.aim.Aim.TheVariants as aims
use Rattle.tiql_query.specs.declared.condition.Cond.{Cond}
use Rattle.tiql_query.specs.declared.expression.Expr.{Expr}
use Rattle.tiql_query.specs.declared.relation.Source.{Source}
use Rattle.tiql_query.specs.declared.query.Query.{Query}
use Rattle.tiql_tree.specs.declared.condition.TreeCond.{TreeCond}
use Rattle.tiql_tree.specs.declared.expression.TreeExpr.{TreeExpr}
use Rattle.tiql_tree.specs.declared.tree.Spot.{Spot}
use Rattle.tiql_tree.specs.declared.tree.Tree.{Tree}
use Rattle.tiql_tree.specs.declared.tree.Decl.{Decl}
use Rattle.tiql_tree.specs.declared.tree.Decl.TheVariants as decls
use Rattle.tiql_tree.specs.declared.tree.TreeRequire.{TreeRequire}
use Rattle.tiql_tree.specs.declared.tree.TreeRequire.TheVariants as tree_needs
use Rattle.tiql_tree.specs.declared.tree.TreeGoal.{TreeGoal}
use Rattle.tiql_tree.specs.declared.tree.TreeGoal.TheVariants as goals
use Rattle.tiql_check.specs.declared.fault.SoundFault.{SoundFault}
use Rattle.tiql_check.specs.declared.known.Known.{Known}
use Rattle.tiql_check.specs.Turns.{◌>>=◌, in_turn}
use Rattle.tiql_check.specs.Scopes.{Scope}
use Rattle.tiql_check.specs.Expressions.{number_in}
use Rattle.tiql_check.specs.Conditions.{cond_in}
use Rattle.tiql_check.specs.Known.{nothing, declared, columns_in, with_table, with_hypo, with_view, with_require}
use Rattle.tiql_check.specs.Tables.{checked_table}
use Rattle.tiql_check.specs.Hypos.{checked_hypo}
use Rattle.tiql_check.specs.Views.{checked_view}

-- the relation's columns, also behind its name
abbrev pub relation_scope : Known → Spot → Source → Scope
relation_scope known spot source = record { alias = Some spot.name; columns = columns_in known source } ∷ []

-- a condition over a declared relation
abbrev pub have : Known → Spot → TreeCond → Result (Source × Cond) SoundFault
have known spot test = do
  source ← declared known spot
  cond ← cond_in (relation_scope known spot source) test
  Ok (source, cond)

-- a requirement on a declared relation
unfoldable pub checked_require : Known → TreeRequire → Result Require SoundFault
checked_require known (tree_needs.All spot test) = do
  it ← have known spot test
  Ok (needs.All it.0 it.1)
checked_require known (tree_needs.Some spot test) = do
  it ← have known spot test
  Ok (needs.Some it.0 it.1)
checked_require known (tree_needs.None spot) = do
  source ← declared known spot
  Ok (needs.None source)

-- what is known behind one more declaration
unfoldable pub with_decl : Known → Decl → Result Known SoundFault
with_decl known (decls.Table tree) = do
  table ← checked_table known tree
  Ok (with_table known table)
with_decl known (decls.Hypo tree) = do
  hypo ← checked_hypo known tree
  Ok (with_hypo known hypo)
with_decl known (decls.View tree) = do
  view ← checked_view known tree
  Ok (with_view known view)
with_decl known (decls.Require tree) = do
  require ← checked_require known tree
  Ok (with_require known require)

-- a whole number over a declared relation
abbrev pub summed : Known → TreeExpr → Spot → Result (Source × Expr) SoundFault
summed known part spot = do
  source ← declared known spot
  one ← number_in (relation_scope known spot source) part
  Ok (source, one.expr)

-- the goal over what is declared
unfoldable pub checked_goal : Known → TreeGoal → Result Aim SoundFault
checked_goal known goals.Find = Ok aims.Find
checked_goal known (goals.Sum maximize part relation) = do
  it ← summed known part relation
  Ok (aims.Sum maximize it.0 it.1)

-- the declarations in their order, and then the goal, up to the first broken rule
unfoldable pub checked : Tree → Result Query SoundFault
checked tree = do
  known ← in_turn with_decl nothing tree.decls
  aim ← checked_goal known tree.goal
  Ok (record known.query { aim = aim })

-- no rule is broken, and the query is the tree with its names replaced by numbers and its columns marked
unfoldable pub Sound : Tree → Query → Type 0
Sound tree query = checked tree ≡ Ok query

-- this rule is the first that is broken, and this is its place
unfoldable pub FirstBroken : Tree → SoundFault → Type 0
FirstBroken tree fault = checked tree ≡ Err fault
