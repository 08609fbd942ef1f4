-- the bytes of what is printed of a tree
use Rattle.std.specs.Prelude.{ℕ, Bool, if◌then◌else◌, List, [], ◌∷◌, ◌++◌, codes}
use Rattle.std.specs.declared.option.Option.{Option}
use Rattle.std.specs.declared.option.Option.TheVariants.{None, Some}
use Rattle.std.specs.List.{flat_map}
use Rattle.base_kit.specs.declared.place.Place.{Place}
use Rattle.tiql_tree.specs.declared.expression.TreeRef.{TreeRef}
use Rattle.tiql_tree.specs.declared.expression.TreeExpr.{TreeExpr}
use Rattle.tiql_tree.specs.declared.condition.TreeCond.{TreeCond}
use Rattle.tiql_tree.specs.declared.tree.Spot.{Spot}
use Rattle.tiql_tree.specs.declared.tree.Tree.{Tree}
use Rattle.tiql_tree.specs.declared.tree.Decl.{Decl}
use Rattle.tiql_tree.specs.declared.tree.Decl.TheVariants.{Table, Hypo, View, Require}
use Rattle.tiql_tree.specs.declared.tree.TreeColumn.{TreeColumn}
use Rattle.tiql_tree.specs.declared.tree.TreeTable.{TreeTable}
use Rattle.tiql_tree.specs.declared.tree.TreeBound.{TreeBound}
use Rattle.tiql_tree.specs.declared.tree.TreeHypo.{TreeHypo}
use Rattle.tiql_tree.specs.declared.tree.TreeView.{TreeView}
use Rattle.tiql_tree.specs.declared.tree.TreeSelect.{TreeSelect}
use Rattle.tiql_tree.specs.declared.tree.TreeSource.{TreeSource}
use Rattle.tiql_tree.specs.declared.tree.TreeItem.{TreeItem}
use Rattle.tiql_tree.specs.declared.tree.TreeValue.{TreeValue}
use Rattle.tiql_tree.specs.declared.tree.TreeValue.TheVariants as values
use Rattle.tiql_tree.specs.declared.tree.TreeRequire.{TreeRequire}
use Rattle.tiql_tree.specs.declared.tree.TreeRequire.TheVariants as needs
use Rattle.tiql_tree.specs.declared.tree.TreeGoal.{TreeGoal}
use Rattle.tiql_tree.specs.declared.tree.TreeGoal.TheVariants as goals
use Rattle.tiql_tree.specs.declared.write_expression.Room.TheVariants as room
use Rattle.tiql_tree.specs.declared.write_condition.CondRoom.TheVariants as cond_room
use Rattle.tiql_tree.specs.Grammar.{ref_words}
use Rattle.tiql_tree.specs.Printed.{written, ref_text, expr_made, cond_made}
use Rattle.tiql_tree.specs.Rooms.{expr_bytes}
use Rattle.tiql_tree.specs.CondRooms.{cond_bytes}

-- the first part, and each other one behind these bytes
abbrev pub listed : {A : Type 0} → List ℕ → (A → List ℕ) → List A → List ℕ
listed between bytes [] = []
listed between bytes (part ∷ parts) = bytes part ++ flat_map (λ other. between ++ bytes other) parts

-- what stands between two parts of a list
abbrev pub comma_space : List ℕ
comma_space = codes ", "

-- a name and a space
abbrev pub name_bytes : List ℕ → List ℕ
name_bytes name = name ++ codes " "

-- a name that has a place
abbrev pub spot_bytes : Spot → List ℕ
spot_bytes spot = name_bytes spot.name

-- an expression that nothing encloses
abbrev pub whole_expr : TreeExpr → List ℕ
whole_expr expr = expr_bytes room.Sum (expr_made expr)

-- a condition that nothing encloses
abbrev pub whole_cond : TreeCond → List ℕ
whole_cond cond = cond_bytes cond_room.Or (cond_made cond)

-- a column, behind its relation where that is written
unfoldable pub ref_bytes : TreeRef → List ℕ
ref_bytes ref = written (ref_words (ref_text ref))

-- a column of a table and its type
unfoldable pub column_bytes : TreeColumn → List ℕ
column_bytes column = name_bytes column.name.name ++ (if column.text then codes "TEXT " else codes "INT ")

-- KEY and its names, where there are any
abbrev pub key_bytes : List Spot → List ℕ
key_bytes [] = []
key_bytes (name ∷ names) = codes "KEY ( " ++ listed comma_space spot_bytes (name ∷ names) ++ codes ") "

-- a table, one line
unfoldable pub table_bytes : TreeTable → List ℕ
table_bytes table =
    codes "TABLE " ++ name_bytes table.name.name ++ codes "( " ++ listed comma_space column_bytes table.columns ++ codes ") "
    ++ key_bytes table.key ++ codes ";\n"

-- the bounds of a column
unfoldable pub bound_bytes : TreeBound → List ℕ
bound_bytes bound = name_bytes bound.name.name ++ codes "IN " ++ whole_expr bound.lo ++ codes ".. " ++ whole_expr bound.hi

-- SET and its bounds, where there are any
abbrev pub set_bytes : List TreeBound → List ℕ
set_bytes [] = []
set_bytes (bound ∷ bounds) = codes "SET " ++ listed comma_space bound_bytes (bound ∷ bounds)

-- WHERE and its condition, where there is one
abbrev pub filter_bytes : Option TreeCond → List ℕ
filter_bytes None = []
filter_bytes (Some cond) = codes "WHERE " ++ whole_cond cond

-- DROP, where it is written
abbrev pub drop_bytes : Option Place → List ℕ
drop_bytes None = []
drop_bytes (Some place) = codes "DROP "

-- a hypothetical table, one line
unfoldable pub hypo_bytes : TreeHypo → List ℕ
hypo_bytes hypo =
    codes "HYPO " ++ name_bytes hypo.name.name ++ codes "FROM " ++ name_bytes hypo.table.name ++ set_bytes hypo.set
    ++ filter_bytes hypo.filter ++ drop_bytes hypo.dropped ++ codes ";\n"

-- what an item is made of
unfoldable pub value_bytes : TreeValue → List ℕ
value_bytes (values.Plain expr) = whole_expr expr
value_bytes (values.Sum expr) = codes "SUM ( " ++ whole_expr expr ++ codes ") "
value_bytes values.Count = codes "COUNT ( * ) "
value_bytes (values.Min expr) = codes "MIN ( " ++ whole_expr expr ++ codes ") "
value_bytes (values.Max expr) = codes "MAX ( " ++ whole_expr expr ++ codes ") "

-- an item, with AS and its name
unfoldable pub item_bytes : TreeItem → List ℕ
item_bytes item = value_bytes item.value ++ codes "AS " ++ name_bytes item.name.name

-- a source, with AS and its alias
unfoldable pub source_bytes : TreeSource → List ℕ
source_bytes source = name_bytes source.relation.name ++ codes "AS " ++ name_bytes source.alias.name

-- GROUP BY and its columns, where there are any
abbrev pub group_bytes : List TreeRef → List ℕ
group_bytes [] = []
group_bytes (ref ∷ refs) = codes "GROUP BY " ++ listed comma_space ref_bytes (ref ∷ refs)

-- DISTINCT, where it is written
abbrev pub distinct_bytes : Bool → List ℕ
distinct_bytes distinct = if distinct then codes "DISTINCT " else []

-- a select
unfoldable pub select_bytes : TreeSelect → List ℕ
select_bytes select =
    codes "SELECT " ++ distinct_bytes select.distinct ++ listed comma_space item_bytes select.items
    ++ codes "FROM " ++ listed comma_space source_bytes select.sources ++ filter_bytes select.filter ++ group_bytes select.group

-- what stands between two selects of a view
abbrev pub union_all : List ℕ
union_all = codes "UNION ALL "

-- a view, one line
unfoldable pub view_bytes : TreeView → List ℕ
view_bytes view = codes "VIEW " ++ name_bytes view.name.name ++ codes "AS " ++ listed union_all select_bytes view.arms ++ codes ";\n"

-- the rest of a requirement with a condition
abbrev pub have_bytes : Spot → TreeCond → List ℕ
have_bytes name cond = name_bytes name.name ++ codes "HAVE " ++ whole_cond cond ++ codes ";\n"

-- a requirement, one line
unfoldable pub require_bytes : TreeRequire → List ℕ
require_bytes (needs.All name cond) = codes "REQUIRE ALL " ++ have_bytes name cond
require_bytes (needs.Some name cond) = codes "REQUIRE SOME " ++ have_bytes name cond
require_bytes (needs.None name) = codes "REQUIRE NONE " ++ name_bytes name.name ++ codes ";\n"

-- a declaration, one line
unfoldable pub decl_bytes : Decl → List ℕ
decl_bytes (Table table) = table_bytes table
decl_bytes (Hypo hypo) = hypo_bytes hypo
decl_bytes (View view) = view_bytes view
decl_bytes (Require require) = require_bytes require

-- which sum is best, and the parenthesis that opens it
abbrev pub aim_bytes : Bool → List ℕ
aim_bytes maximize = if maximize then codes "MAXIMIZE SUM ( " else codes "MINIMIZE SUM ( "

-- the goal, one line
unfoldable pub goal_bytes : TreeGoal → List ℕ
goal_bytes goals.Find = codes "FIND ;\n"
goal_bytes (goals.Sum maximize part relation) =
    aim_bytes maximize ++ whole_expr part ++ codes ") FROM " ++ name_bytes relation.name ++ codes ";\n"

-- all declarations and the goal
unfoldable pub tree_bytes : Tree → List ℕ
tree_bytes tree = flat_map decl_bytes tree.decls ++ goal_bytes tree.goal
