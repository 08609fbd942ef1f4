-- selects
use Rattle.std.specs.Prelude.{ℕ, ◌==◌, Bool, true, false, not, ◌&&◌, ◌||◌, if◌then◌else◌, List, [], ◌∷◌, ◌++◌, Option, Some, None, Result, Ok, Err}
use Rattle.std.specs.List.{list_any}
use Rattle.tiql_query.specs.declared.expression.At.{At}
use Rattle.tiql_query.specs.declared.expression.Expr.{Expr}
use Rattle.tiql_query.specs.declared.expression.Expr.TheOpen.{Expr-F}
use Rattle.tiql_query.specs.declared.expression.Expr.TheFolds.{fold-Expr}
use Rattle.tiql_query.specs.declared.condition.Cond.{Cond}
use Rattle.tiql_query.specs.declared.view.Item.{Item}
use Rattle.tiql_query.specs.declared.view.Item.TheVariants as items
use Rattle.tiql_tree.specs.declared.expression.TreeRef.{TreeRef}
use Rattle.tiql_tree.specs.declared.tree.TreeItem.{TreeItem}
use Rattle.tiql_tree.specs.declared.tree.TreeSelect.{TreeSelect}
use Rattle.tiql_tree.specs.declared.tree.TreeSource.{TreeSource}
use Rattle.tiql_tree.specs.declared.tree.TreeValue.{TreeValue}
use Rattle.tiql_tree.specs.declared.tree.TreeValue.TheVariants as values
use Rattle.tiql_check.specs.declared.fault.SoundFault.{SoundFault}
use Rattle.tiql_check.specs.declared.fault.SoundFault.TheVariants as fault
use Rattle.tiql_check.specs.declared.known.Known.{Known}
use Rattle.tiql_check.specs.declared.item.TypedItem.{TypedItem}
use Rattle.tiql_check.specs.declared.item.ItemColumn.{ItemColumn}
use Rattle.tiql_check.specs.declared.item.Items.{Items}
use Rattle.tiql_check.specs.declared.item.Rules.{Rules}
use Rattle.tiql_check.specs.declared.select.Arm.{Arm}
use Rattle.tiql_check.specs.declared.select.Lent.{Lent}
use Rattle.tiql_query.specs.declared.relation.Source.{Source}
use Rattle.tiql_check.specs.Turns.{◌>>=◌, in_turn}
use Rattle.tiql_check.specs.Scopes.{Scope, scope_of, number, same, meant}
use Rattle.tiql_check.specs.Expressions.{typed_in, number_in}
use Rattle.tiql_check.specs.Conditions.{filter_in}
use Rattle.tiql_check.specs.Known.{declared, columns_in}

-- the relations behind FROM, and what they bring into scope
pub record Taken : Type 0 where
  pub sources : List Source
  pub scope : Scope

-- the alias is this name
abbrev pub is_alias : List ℕ → Option (List ℕ) → Bool
is_alias name None = false
is_alias name (Some alias) = same alias name

-- the relations so far, as contracts see them
abbrev pub taken : Lent → Taken
taken it = record { sources = it.sources; scope = scope_of it.scope.items }

-- before the first relation
abbrev pub none_taken : Taken
none_taken = record { sources = []; scope = [] }

-- an earlier source has this alias
abbrev pub has_alias : List ℕ → Scope → Bool
has_alias name scope = list_any (λ it. is_alias name it.alias) scope

-- no two aliases of a select are one name
abbrev pub with_source : Known → Taken → TreeSource → Result Taken SoundFault
with_source known before tree = do
  source ← declared known tree.relation
  if has_alias tree.alias.name before.scope then Err (fault.SameName tree.alias.place)
      else Ok (record {
        sources = before.sources ++ source ∷ [];
        scope = before.scope ++ record { alias = Some tree.alias.name; columns = columns_in known source } ∷ [];
      })

-- columns of GROUP BY are fixed
abbrev pub with_group : Scope → List At → TreeRef → Result (List At) SoundFault
with_group scope before ref = do
  it ← meant scope ref
  if it.kind.unknown then Err (fault.NotFixed ref.place) else Ok (before ++ it.at ∷ [])

-- the value is an aggregate
abbrev pub is_aggregate : TreeValue → Bool
is_aggregate (values.Plain expr) = false
is_aggregate (values.Sum expr) = true
is_aggregate values.Count = true
is_aggregate (values.Min expr) = true
is_aggregate (values.Max expr) = true

-- there is a part
abbrev pub is_written : {A : Type 0} → List A → Bool
is_written [] = false
is_written (x ∷ xs) = true

-- an item is an aggregate
abbrev pub has_aggregate : List TreeItem → Bool
has_aggregate trees = list_any (λ item. is_aggregate item.value) trees

-- GROUP BY is written, or an item is an aggregate
unfoldable pub is_grouped : TreeSelect → Bool
is_grouped select = is_written select.group || has_aggregate select.items

-- an aggregate is an unknown whole number
abbrev pub aggregate : Item → TypedItem
aggregate item = record { item = item; kind = number true }

-- what an item is made of. An aggregate is of a whole number, and is unknown
unfoldable pub value_in : Scope → TreeValue → Result TypedItem SoundFault
value_in scope (values.Plain expr) = do
  one ← typed_in scope expr
  Ok (record { item = items.Plain one.expr; kind = one.kind })
value_in scope (values.Sum expr) = do
  one ← number_in scope expr
  Ok (aggregate (items.Sum one.expr))
value_in scope values.Count = Ok (aggregate items.Count)
value_in scope (values.Min expr) = do
  one ← number_in scope expr
  Ok (aggregate (items.Min one.expr))
value_in scope (values.Max expr) = do
  one ← number_in scope expr
  Ok (aggregate (items.Max one.expr))

-- the column that an expression is by itself
abbrev pub lone_step : Expr-F (Option At) (Option At) → Option At
lone_step (Expr-F.Int n) = None
lone_step (Expr-F.Text t) = None
lone_step (Expr-F.Column at) = Some at
lone_step (Expr-F.Sum parts) = None
lone_step (Expr-F.Product parts) = None
lone_step (Expr-F.Neg part) = None
lone_step (Expr-F.Abs part) = None

-- the column that the expression is, if it is one
unfoldable pub lone_column : Expr → Option At
lone_column = fold-Expr (Option At) (Option At) lone_step (λ part. part.part)

-- two columns are one
abbrev pub same_column : At → At → Bool
same_column one other = one.source == other.source && one.column == other.column

-- the column is one of these
abbrev pub is_among : At → List At → Bool
is_among at group = list_any (λ other. same_column other at) group

-- there is a column, and it is one of GROUP BY
abbrev pub is_in_group : List At → Option At → Bool
is_in_group group None = false
is_in_group group (Some at) = is_among at group

-- an item of a grouped select: an aggregate, or a column of GROUP BY
unfoldable pub fits_group : List At → Item → Bool
fits_group group (items.Plain expr) = is_in_group group (lone_column expr)
fits_group group (items.Sum expr) = true
fits_group group items.Count = true
fits_group group (items.Min expr) = true
fits_group group (items.Max expr) = true

-- an earlier item has this name
abbrev pub has_name : List ℕ → List ItemColumn → Bool
has_name name columns = list_any (λ column. same column.name name) columns

-- the rules of an item: the items of a first select have names of their own, those of a DISTINCT one are fixed, and those
-- of a grouped one fit the group
abbrev pub item_ruled : Rules → List At → List ItemColumn → TreeItem → TypedItem → Result TypedItem SoundFault
item_ruled rules group before item made =
    if rules.named && has_name item.name.name before then Err (fault.SameName item.name.place)
    else if rules.distinct && made.kind.unknown then Err (fault.NotFixed item.place)
    else if rules.grouped && not (fits_group group made.item) then Err (fault.NotGrouped item.place)
    else Ok made

-- before the first item
abbrev pub no_items : Items
no_items = record { items = []; columns = [] }

-- one more item, which keeps its rules
unfoldable pub with_item : Rules → Scope → List At → Items → TreeItem → Result Items SoundFault
with_item rules scope group before item = do
  made ← value_in scope item.value
  ruled ← item_ruled rules group before.columns item made
  Ok (record {
    items = before.items ++ ruled.item ∷ [];
    columns = before.columns ++ record { name = item.name.name; place = item.place; kind = ruled.kind } ∷ [];
  })

-- the columns of GROUP BY, where the select is grouped
abbrev pub group_if : Bool → List At → Option (List At)
group_if grouped group = if grouped then Some group else None

-- the items over these sources
unfoldable pub items_in : Bool → Taken → TreeSelect → Option Cond → Result Arm SoundFault
items_in first taken select filter = do
  group ← in_turn (with_group taken.scope) [] select.group
  all ← in_turn (with_item (record { named = first; distinct = select.distinct; grouped = is_grouped select }) taken.scope group) no_items select.items
  if is_grouped select && select.distinct then Err (fault.NotGrouped select.place)
      else Ok (record {
        select = record { distinct = select.distinct; sources = taken.sources; filter = filter; group = group_if (is_grouped select) group; items = all.items };
        columns = all.columns;
      })

-- a select; the first one of a view names its columns
unfoldable pub checked_select : Known → Bool → TreeSelect → Result Arm SoundFault
checked_select known first select = do
  taken ← in_turn (with_source known) none_taken select.sources
  filter ← filter_in taken.scope select.filter
  items_in first taken select filter
