-- the columns that names mean
use Rattle.std.specs.Prelude.{ℕ, ◌+◌, Bool, true, false, if◌then◌else◌, List, [], ◌∷◌, ◌++◌, map, nat_eq, Option, Some, None, option_map, Result, Ok, Err}
use Rattle.std.specs.Cmp.Lexicographic.{pointwise}
use Rattle.base_kit.specs.declared.place.Place.{Place}
use Rattle.tiql_query.specs.declared.relation.Column.{Column}
use Rattle.tiql_tree.specs.declared.expression.TreeRef.{TreeRef}
use Rattle.tiql_check.specs.declared.fault.SoundFault.{SoundFault}
use Rattle.tiql_check.specs.declared.fault.SoundFault.TheVariants as fault
use Rattle.tiql_check.specs.declared.scope.Kind.{Kind}
use Rattle.tiql_check.specs.declared.scope.Found.{Found}
use Rattle.tiql_check.specs.declared.scope.Meant.{Meant}
use Rattle.tiql_check.specs.declared.scope.InScope.{InScope}

-- two names are the same
abbrev pub same : List ℕ → List ℕ → Bool
same one other = pointwise nat_eq one other

-- a relation in scope: the name that may stand before its columns, if any may, and its columns
pub record Seen : Type 0 where
  pub alias : Option (List ℕ)
  pub columns : List Column

-- the sources whose columns may be named
abbrev pub Scope : Type 0
Scope = List Seen

-- a source, as contracts see it
abbrev pub seen : InScope → Seen
seen it = record { alias = option_map (λ name. name.now) it.alias; columns = it.columns.now }

-- the sources, as contracts see them
unfoldable pub scope_of : List InScope → Scope
scope_of scope = map seen scope

-- a whole number, unknown or fixed
abbrev pub number : Bool → Kind
number unknown = record { text = false; unknown = unknown }

-- the type and mark of a column
abbrev pub kind_of : Column → Kind
kind_of column = record { text = column.text; unknown = column.unknown }

-- the column of this name, where the first of the columns has the number n
unfoldable pub column_named : List ℕ → ℕ → List Column → Option Found
column_named name n [] = None
column_named name n (column ∷ columns) =
    if same column.name name then Some (record { number = n; kind = kind_of column }) else column_named name (n + 1) columns

-- whether columns of a relation with this alias may stand behind this name and a point, or by themselves
abbrev pub may_qualify : Option (List ℕ) → Option (List ℕ) → Bool
may_qualify None alias = true
may_qualify (Some name) None = false
may_qualify (Some name) (Some alias) = same alias name

-- the column of this source that is meant
abbrev pub fitting : TreeRef → Seen → Option Found
fitting ref it = if may_qualify ref.relation it.alias then column_named ref.column 0 it.columns else None

-- the column, where this source has it
abbrev pub of_source : ℕ → Option Found → List Meant
of_source n None = []
of_source n (Some it) = record { at = record { source = n; column = it.number }; kind = it.kind } ∷ []

-- every column that may be meant, where the first of the sources has the number n
unfoldable pub candidates : TreeRef → ℕ → Scope → List Meant
candidates ref n [] = []
candidates ref n (it ∷ scope) = of_source n (fitting ref it) ++ candidates ref (n + 1) scope

-- the only one of them
abbrev pub only_one : Place → List Meant → Result Meant SoundFault
only_one place [] = Err (fault.UnknownName place)
only_one place (it ∷ []) = Ok it
only_one place (it ∷ other ∷ more) = Err (fault.SameName place)

-- the column that is meant: that of one source, and of no other
unfoldable pub meant : Scope → TreeRef → Result Meant SoundFault
meant scope ref = only_one ref.place (candidates ref 0 scope)
