-- the declarations that were checked
use Rattle.std.specs.Prelude.{ℕ, Bool, if◌then◌else◌, List, [], ◌∷◌, ◌++◌, length, Option, Some, None, unwrap_or, Result, Ok, Err}
use Rattle.std.specs.List.{list_any}
use Rattle.tiql_query.specs.declared.relation.Source.{Source}
use Rattle.tiql_query.specs.declared.relation.Source.TheVariants.{Table, Hypo, View}
use Rattle.tiql_query.specs.declared.relation.Column.{Column}
use Rattle.tiql_query.specs.declared.relation.QTable.{QTable}
use Rattle.tiql_query.specs.declared.relation.QHypo.{QHypo}
use Rattle.tiql_query.specs.declared.view.QView.{QView}
use Rattle.tiql_query.specs.declared.aim.Aim.TheVariants.{Find}
use Rattle.tiql_query.specs.declared.aim.Require.{Require}
use Rattle.tiql_query.specs.WellFormed.{columns_of}
use Rattle.tiql_tree.specs.declared.tree.Spot.{Spot}
use Rattle.tiql_check.specs.declared.fault.SoundFault.{SoundFault}
use Rattle.tiql_check.specs.declared.fault.SoundFault.TheVariants as fault
use Rattle.tiql_check.specs.declared.known.Relation.{Relation}
use Rattle.tiql_check.specs.declared.known.Known.{Known}
use Rattle.tiql_check.specs.Scopes.{same}

-- before the first declaration
abbrev pub nothing : Known
nothing = record { relations = []; query = record { tables = []; hypos = []; views = []; requires_ = []; aim = Find } }

-- the relation of this name
unfoldable pub relation_named : List ℕ → List Relation → Option Source
relation_named name [] = None
relation_named name (relation ∷ relations) = if same relation.name name then Some relation.source else relation_named name relations

-- a relation is declared before it is used
abbrev pub declared_at : Spot → Option Source → Result Source SoundFault
declared_at spot None = Err (fault.UnknownName spot.place)
declared_at spot (Some source) = Ok source

-- the relation of this name, which has to be declared
abbrev pub declared : Known → Spot → Result Source SoundFault
declared known spot = declared_at spot (relation_named spot.name known.relations)

-- no two relations have one name
abbrev pub is_taken : Known → Spot → Bool
is_taken known spot = list_any (λ relation. same relation.name spot.name) known.relations

-- the columns of a declared relation
unfoldable pub columns_in : Known → Source → List Column
columns_in known source = unwrap_or (columns_of known.query source) []

-- the relations with one more
abbrev pub with_relation : Known → List ℕ → Source → List Relation
with_relation known name source = known.relations ++ record { name = name; source = source } ∷ []

-- what is known with one more table
abbrev pub with_table : Known → QTable → Known
with_table known table = record {
  relations = with_relation known table.name (Table (length known.query.tables));
  query = record known.query { tables = known.query.tables ++ table ∷ [] };
}

-- what is known with one more hypothetical table
abbrev pub with_hypo : Known → QHypo → Known
with_hypo known hypo = record {
  relations = with_relation known hypo.name (Hypo (length known.query.hypos));
  query = record known.query { hypos = known.query.hypos ++ hypo ∷ [] };
}

-- what is known with one more view
abbrev pub with_view : Known → QView → Known
with_view known view = record {
  relations = with_relation known view.name (View (length known.query.views));
  query = record known.query { views = known.query.views ++ view ∷ [] };
}

-- what is known with one more requirement
abbrev pub with_require : Known → Require → Known
with_require known require = record { relations = known.relations; query = record known.query { requires_ = known.query.requires_ ++ require ∷ [] } }
