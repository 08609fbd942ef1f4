-- how declarations, the goal and whole queries are read
use Rattle.std.specs.Prelude.{ℕ, Bool, true, false, ◌||◌, if◌then◌else◌, List, [], ◌∷◌, length, codes, Result, Ok, Err}
use Rattle.std.specs.declared.option.Option.{Option}
use Rattle.std.specs.declared.option.Option.TheVariants.{None, Some}
use Rattle.base_kit.specs.declared.place.Place.{Place}
use Rattle.tiql_tree.specs.declared.tree.Spot.{Spot}
use Rattle.tiql_tree.specs.declared.tree.Tree.{Tree}
use Rattle.tiql_tree.specs.declared.tree.Decl.{Decl}
use Rattle.tiql_tree.specs.declared.tree.Decl.TheVariants.{Table, Hypo, View, Require}
use Rattle.tiql_tree.specs.declared.tree.TreeColumn.{TreeColumn}
use Rattle.tiql_tree.specs.declared.tree.TreeTable.{TreeTable}
use Rattle.tiql_tree.specs.declared.tree.TreeBound.{TreeBound}
use Rattle.tiql_tree.specs.declared.tree.TreeHypo.{TreeHypo}
use Rattle.tiql_tree.specs.declared.tree.TreeView.{TreeView}
use Rattle.tiql_tree.specs.declared.tree.TreeSelect.{TreeSelect}
use Rattle.tiql_tree.specs.declared.tree.TreeRequire.{TreeRequire}
use Rattle.tiql_tree.specs.declared.tree.TreeRequire.TheVariants as needs
use Rattle.tiql_tree.specs.declared.tree.TreeGoal.{TreeGoal}
use Rattle.tiql_tree.specs.declared.tree.TreeGoal.TheVariants as goals
use Rattle.tiql_tree.specs.declared.condition.TreeCond.{TreeCond}
use Rattle.tiql_tree.specs.Words.{Word}
use Rattle.tiql_read.specs.declared.word.Seen.{Seen}
use Rattle.tiql_read.specs.Steps.{Words, Reading, word_of, ◌>>=◌, begins, need, take_as, is_key, is_sign, spot_at, mark_at, many_at, list_at}
use Rattle.tiql_read.specs.Expressions.{expression_at}
use Rattle.tiql_read.specs.Conditions.{condition_at}
use Rattle.tiql_read.specs.Selects.{grouped_at, filter_at, select_at}

-- whether the word is TEXT, and not INT
unfoldable pub type_of : Seen → Option Bool
type_of seen = if is_key (codes "TEXT") (word_of seen) then Some true else (if is_key (codes "INT") (word_of seen) then Some false else None)

-- a column of a table
unfoldable pub column_at : Words → Reading TreeColumn
column_at words = spot_at words >>= λ name. take_as type_of name.1 >>= λ text. Ok (record { name = name.0; text = text.0 }, text.1)

-- the names of a KEY, where KEY stands
unfoldable pub key_at : Words → Reading (List Spot)
key_at words =
    if begins (is_key (codes "KEY")) words
    then (need (is_key (codes "KEY")) words >>= λ open_sign. need (is_sign (codes "(")) open_sign >>= λ inner. list_at spot_at inner >>= λ names.
    need (is_sign (codes ")")) names.1 >>= λ rest. Ok (names.0, rest))
    else Ok ([], words)

-- a table
unfoldable pub table_at : Words → Reading TreeTable
table_at words =
    need (is_key (codes "TABLE")) words >>= λ behind_table.
    spot_at behind_table >>= λ name.
    need (is_sign (codes "(")) name.1 >>= λ inner.
    list_at column_at inner >>= λ columns.
    need (is_sign (codes ")")) columns.1 >>= λ outer.
    key_at outer >>= λ key.
    need (is_sign (codes ";")) key.1 >>= λ rest.
    Ok (record { name = name.0; columns = columns.0; key = key.0 }, rest)

-- the bounds of a column
unfoldable pub bound_at : Words → Reading TreeBound
bound_at words =
    spot_at words >>= λ name.
    need (is_key (codes "IN")) name.1 >>= λ behind_in.
    expression_at 64 behind_in >>= λ lo.
    need (is_sign (codes "..")) lo.1 >>= λ behind_points.
    expression_at 64 behind_points >>= λ hi.
    Ok (record { name = name.0; lo = lo.0; hi = hi.0 }, hi.1)

-- the bounds behind SET, where SET stands
unfoldable pub bounds_at : Words → Reading (List TreeBound)
bounds_at words =
    if begins (is_key (codes "SET")) words then (need (is_key (codes "SET")) words >>= λ rest. list_at bound_at rest) else Ok ([], words)

-- the place of DROP, where DROP stands
unfoldable pub drop_at : Words → Reading (Option Place)
drop_at words =
    if begins (is_key (codes "DROP")) words
    then (mark_at (is_key (codes "DROP")) words >>= λ place. Ok (Some place.0, place.1))
    else Ok (None, words)

-- a hypothetical table
unfoldable pub hypo_at : Words → Reading TreeHypo
hypo_at words =
    need (is_key (codes "HYPO")) words >>= λ behind_hypo.
    spot_at behind_hypo >>= λ name.
    need (is_key (codes "FROM")) name.1 >>= λ behind_from.
    spot_at behind_from >>= λ table.
    bounds_at table.1 >>= λ bounds.
    filter_at bounds.1 >>= λ filter.
    drop_at filter.1 >>= λ dropped.
    need (is_sign (codes ";")) dropped.1 >>= λ rest.
    Ok (record { name = name.0; table = table.0; set = bounds.0; filter = filter.0; dropped = dropped.0 }, rest)

-- a select behind UNION ALL
unfoldable pub arm_at : Words → Reading TreeSelect
arm_at words = need (is_key (codes "UNION")) words >>= λ all. need (is_key (codes "ALL")) all >>= λ rest. select_at rest

-- a view
unfoldable pub view_at : Words → Reading TreeView
view_at words =
    need (is_key (codes "VIEW")) words >>= λ behind_view.
    spot_at behind_view >>= λ name.
    need (is_key (codes "AS")) name.1 >>= λ behind_as.
    select_at behind_as >>= λ first.
    many_at (is_key (codes "UNION")) arm_at first.1 >>= λ more.
    need (is_sign (codes ";")) more.1 >>= λ rest.
    Ok (record { name = name.0; arms = first.0 ∷ more.0 }, rest)

-- whether the word is ALL, and not SOME
unfoldable pub for_all : Seen → Option Bool
for_all seen = if is_key (codes "ALL") (word_of seen) then Some true else (if is_key (codes "SOME") (word_of seen) then Some false else None)

-- ALL or SOME of a relation's rows meet the condition
abbrev pub require_of : Bool → Spot → TreeCond → TreeRequire
require_of true name cond = needs.All name cond
require_of false name cond = needs.Some name cond

-- what must hold of all rows or of some row
unfoldable pub have_at : Words → Reading TreeRequire
have_at words =
    take_as for_all words >>= λ all.
    spot_at all.1 >>= λ name.
    need (is_key (codes "HAVE")) name.1 >>= λ behind_have.
    condition_at 64 behind_have >>= λ cond.
    need (is_sign (codes ";")) cond.1 >>= λ rest.
    Ok (require_of all.0 name.0 cond.0, rest)

-- that there is no row
unfoldable pub none_at : Words → Reading TreeRequire
none_at words =
    need (is_key (codes "NONE")) words >>= λ behind_none.
    spot_at behind_none >>= λ name.
    need (is_sign (codes ";")) name.1 >>= λ rest.
    Ok (needs.None name.0, rest)

-- a requirement
unfoldable pub require_at : Words → Reading TreeRequire
require_at words =
    need (is_key (codes "REQUIRE")) words >>= λ rest. if begins (is_key (codes "NONE")) rest then none_at rest else have_at rest

-- a declaration
unfoldable pub decl_at : Words → Reading Decl
decl_at words =
    if begins (is_key (codes "TABLE")) words then (table_at words >>= λ table. Ok (Table table.0, table.1)) else (
    if begins (is_key (codes "HYPO")) words then (hypo_at words >>= λ hypo. Ok (Hypo hypo.0, hypo.1)) else (
    if begins (is_key (codes "VIEW")) words then (view_at words >>= λ view. Ok (View view.0, view.1)) else
    require_at words >>= λ require. Ok (Require require.0, require.1)))

-- the word begins a declaration
unfoldable pub declares : Word → Bool
declares word =
    is_key (codes "TABLE") word || (is_key (codes "HYPO") word || (is_key (codes "VIEW") word || is_key (codes "REQUIRE") word))

-- whether the word is MAXIMIZE, and not MINIMIZE
unfoldable pub aim_of : Seen → Option Bool
aim_of seen = if is_key (codes "MAXIMIZE") (word_of seen) then Some true else (if is_key (codes "MINIMIZE") (word_of seen) then Some false else None)

-- any world will do
unfoldable pub find_at : Words → Reading TreeGoal
find_at words =
    need (is_key (codes "FIND")) words >>= λ behind_find. need (is_sign (codes ";")) behind_find >>= λ rest. Ok (goals.Find, rest)

-- the greatest or least sum
unfoldable pub sum_goal_at : Words → Reading TreeGoal
sum_goal_at words =
    take_as aim_of words >>= λ maximize.
    need (is_key (codes "SUM")) maximize.1 >>= λ behind_sum.
    grouped_at behind_sum >>= λ part.
    need (is_key (codes "FROM")) part.1 >>= λ behind_from.
    spot_at behind_from >>= λ relation.
    need (is_sign (codes ";")) relation.1 >>= λ rest.
    Ok (goals.Sum maximize.0 part.0 relation.0, rest)

-- the goal
unfoldable pub goal_at : Words → Reading TreeGoal
goal_at words = if begins (is_key (codes "FIND")) words then find_at words else sum_goal_at words

-- what was read, if no word is left
abbrev pub ended : {A : Type 0} → A → Words → Result A ℕ
ended a [] = Ok a
ended a (seen ∷ words) = Err (length (seen ∷ words))

-- a query
unfoldable pub query_at : Words → Result Tree ℕ
query_at words =
    many_at declares decl_at words >>= λ decls. goal_at decls.1 >>= λ goal. ended (record { decls = decls.0; goal = goal.0 }) goal.1
