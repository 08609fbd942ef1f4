-- how the selects of a view are read
use Rattle.std.specs.Prelude.{◌==◌, ◌||◌, Bool, true, false, if◌then◌else◌, List, [], length, codes, Ok, Err}
use Rattle.std.specs.declared.option.Option.{Option}
use Rattle.std.specs.declared.option.Option.TheVariants.{None, Some}
use Rattle.base_kit.specs.declared.place.Place.{Place}
use Rattle.tiql_tree.specs.declared.tree.Spot.{Spot}
use Rattle.tiql_tree.specs.declared.tree.TreeSelect.{TreeSelect}
use Rattle.tiql_tree.specs.declared.tree.TreeSource.{TreeSource}
use Rattle.tiql_tree.specs.declared.tree.TreeItem.{TreeItem}
use Rattle.tiql_tree.specs.declared.tree.TreeValue.{TreeValue}
use Rattle.tiql_tree.specs.declared.tree.TreeValue.TheVariants as values
use Rattle.tiql_tree.specs.declared.expression.TreeRef.{TreeRef}
use Rattle.tiql_tree.specs.declared.expression.TreeExpr.{TreeExpr}
use Rattle.tiql_tree.specs.declared.condition.TreeCond.{TreeCond}
use Rattle.tiql_tree.specs.Words.{Word}
use Rattle.tiql_read.specs.declared.word.Seen.{Seen}
use Rattle.tiql_read.specs.declared.word.Aggregate.{Aggregate}
use Rattle.tiql_read.specs.declared.word.Aggregate.TheVariants.{Sum, Min, Max}
use Rattle.tiql_read.specs.Steps.{Words, Reading, word_of, ◌>>=◌, begins, need, take_as, is_key, is_sign, spot_at, mark_at, list_at}
use Rattle.tiql_read.specs.Expressions.{place_of, ref_at, ref_name_at, expression_at}
use Rattle.tiql_read.specs.Conditions.{condition_at}

-- a name behind AS
unfoldable pub alias_at : Words → Reading Spot
alias_at words = need (is_key (codes "AS")) words >>= λ rest. spot_at rest

-- an expression in parentheses, which count among what opens
unfoldable pub grouped_at : Words → Reading TreeExpr
grouped_at words =
    need (is_sign (codes "(")) words >>= λ inner. expression_at 63 inner >>= λ part. need (is_sign (codes ")")) part.1 >>= λ rest. Ok (part.0, rest)

-- the aggregate of an expression that the word is, with its place
unfoldable pub aggregate_of : Seen → Option (Aggregate × Place)
aggregate_of seen =
    if is_key (codes "SUM") (word_of seen) then Some (Sum, seen.place) else (
    if is_key (codes "MIN") (word_of seen) then Some (Min, seen.place) else (
    if is_key (codes "MAX") (word_of seen) then Some (Max, seen.place) else None))

-- the word is an aggregate of an expression
unfoldable pub is_aggregate : Word → Bool
is_aggregate word = is_key (codes "SUM") word || (is_key (codes "MIN") word || is_key (codes "MAX") word)

-- the aggregate of an expression
abbrev pub value_by : Aggregate → TreeExpr → TreeValue
value_by Sum part = values.Sum part
value_by Min part = values.Min part
value_by Max part = values.Max part

-- an item of these parts
abbrev pub item_of : Place → TreeValue → Spot → TreeItem
item_of place value name = record { place = place; value = value; name = name }

-- SUM, MIN or MAX of an expression
unfoldable pub aggregate_at : Words → Reading TreeItem
aggregate_at words =
    take_as aggregate_of words >>= λ found. grouped_at found.1 >>= λ part. alias_at part.1 >>= λ name.
    Ok (item_of found.0.1 (value_by found.0.0 part.0) name.0, name.1)

-- COUNT(*)
unfoldable pub count_at : Words → Reading TreeItem
count_at words =
    mark_at (is_key (codes "COUNT")) words >>= λ place.
    need (is_sign (codes "(")) place.1 >>= λ inner. need (is_sign (codes "*")) inner >>= λ star. need (is_sign (codes ")")) star >>= λ rest.
    alias_at rest >>= λ name. Ok (item_of place.0 values.Count name.0, name.1)

-- the name, if these are the words behind it
abbrev pub ends_at : Words → Reading Spot → Reading Spot
ends_at rest (Ok name) = if length name.1 == length rest then Ok name else Err (length rest)
ends_at rest (Err left) = Err (length rest)

-- the last name of the column that all of the words up to these behind are
unfoldable pub lone_name : Words → Words → Reading Spot
lone_name words rest = ends_at rest (ref_name_at words)

-- the name behind AS, or that of a column which stands alone
unfoldable pub name_at : Words → Words → Reading Spot
name_at words rest = if begins (is_key (codes "AS")) rest then alias_at rest else lone_name words rest

-- a column, or an expression with a name
unfoldable pub plain_at : Words → Reading TreeItem
plain_at words =
    expression_at 64 words >>= λ part. name_at words part.1 >>= λ name.
    Ok (item_of (place_of part.0) (values.Plain part.0) name.0, name.1)

-- an item of a select
unfoldable pub item_at : Words → Reading TreeItem
item_at words =
    if begins is_aggregate words then aggregate_at words else (
    if begins (is_key (codes "COUNT")) words then count_at words else plain_at words)

-- a name behind AS, where AS stands
unfoldable pub alias_if : Words → Reading (Option Spot)
alias_if words = if begins (is_key (codes "AS")) words then (alias_at words >>= λ name. Ok (Some name.0, name.1)) else Ok (None, words)

-- a source, whose alias is the relation's own name where none is given
abbrev pub source_of : Spot → Option Spot → TreeSource
source_of relation None = record { relation = relation; alias = relation }
source_of relation (Some alias) = record { relation = relation; alias = alias }

-- a source of a select
unfoldable pub source_at : Words → Reading TreeSource
source_at words = spot_at words >>= λ relation. alias_if relation.1 >>= λ alias. Ok (source_of relation.0 alias.0, alias.1)

-- a condition behind WHERE, where WHERE stands
unfoldable pub filter_at : Words → Reading (Option TreeCond)
filter_at words =
    if begins (is_key (codes "WHERE")) words
    then (need (is_key (codes "WHERE")) words >>= λ rest. condition_at 64 rest >>= λ cond. Ok (Some cond.0, cond.1))
    else Ok (None, words)

-- the columns behind GROUP BY, where it stands
unfoldable pub group_at : Words → Reading (List TreeRef)
group_at words =
    if begins (is_key (codes "GROUP")) words
    then (need (is_key (codes "GROUP")) words >>= λ by. need (is_key (codes "BY")) by >>= λ rest. list_at ref_at rest)
    else Ok ([], words)

-- whether DISTINCT stands
unfoldable pub distinct_at : Words → Reading Bool
distinct_at words =
    if begins (is_key (codes "DISTINCT")) words
    then (need (is_key (codes "DISTINCT")) words >>= λ rest. Ok (true, rest))
    else Ok (false, words)

-- a select
unfoldable pub select_at : Words → Reading TreeSelect
select_at words =
    mark_at (is_key (codes "SELECT")) words >>= λ place.
    distinct_at place.1 >>= λ distinct.
    list_at item_at distinct.1 >>= λ items.
    need (is_key (codes "FROM")) items.1 >>= λ from.
    list_at source_at from >>= λ sources.
    filter_at sources.1 >>= λ filter.
    group_at filter.1 >>= λ group.
    Ok (record { place = place.0; distinct = distinct.0; items = items.0; sources = sources.0; filter = filter.0; group = group.0 }, group.1)
