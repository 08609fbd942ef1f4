-- the world that the sections of an answer are
use Rattle.std.specs.Prelude.{◌≡◌, ◌<◌, ℕ, List, [], ◌∷◌, length, take, slice_get, slice_index, slice_index_or, Option, Some, None, MatchOption}
use Rattle.base_kit.specs.declared.value.Value.{Value}
use Rattle.tiql_query.specs.declared.query.Query.{Query}
use Rattle.tiql_query.specs.declared.relation.QHypo.{QHypo}
use Rattle.tiql_query.specs.declared.relation.QTable.{QTable}
use Rattle.tiql_query.specs.Keys.{key_at, key_of}
use Rattle.tables_csv.specs.WholeTables.{IsTableOf}
use Rattle.world_def.specs.declared.world.World.{World}
use Rattle.world_def.specs.declared.world.WorldTable.{WorldTable}
use Rattle.world_def.specs.Columns.{Rows, Tables, rows_of}
use Rattle.answer_text.specs.declared.answer.WorldText.{WorldText}
use Rattle.answer_text.specs.declared.world.WorldFault.{WorldFault}
use Rattle.answer_text.specs.declared.world.WorldFault.TheVariants as fault

-- what is found is so, and where nothing is found nothing is so
abbrev pub Finds : {A : Type 0} → (A → Type 0) → Option A → Type 0
Finds {A} IsSo found = MatchOption found ((it : A) → IsSo it → ⊥) IsSo

-- the row in this place of a section is a row of the table that has this number: with a key, one of the same key, and
-- without, the one in the same place
pub record IsPick (key : List ℕ) (base : Rows) (place : ℕ) (row : List Value) (pick : ℕ) : Type 0 where
  pub within : pick < length base
  pub keyed : 0 < length key → key_at key base pick ≡ key_of key row
  pub placed : length key ≡ 0 → pick ≡ place

-- each row of a section is the row of the table that has the number beside it
pub record ArePicks (key : List ℕ) (base rows : Rows) (picks : List ℕ) : Type 0 where
  pub count : length picks ≡ length rows
  pub each : (place : ℕ) → place < length rows → IsPick key base place (slice_index_or rows place []) (slice_index picks place)

-- the section has this name, its bytes are a table of as many rows as it says, and each of them is a row of the table
pub record IsSection (name : List ℕ) (table : QTable) (base : Rows) (section : WorldText) (found : WorldTable) : Type 0 where
  pub named : section.name ≡ name
  pub rows : IsTableOf section.bytes table found.rows
  pub count : section.rows ≡ length found.rows
  pub picks : ArePicks table.key base found.rows found.picks

-- the section is right for a hypothetical table of the query, and this is what the table holds
pub record IsSectionOf (query : Query) (tables : Tables) (hypo : QHypo) (section : WorldText) (found : WorldTable) : Type 0 where
  pub table : QTable
  pub there : slice_get query.tables hypo.table ≡ Some table
  pub right : IsSection hypo.name table (rows_of tables hypo.table) section found

-- there is one right section for each hypothetical table, in their order, and no other, and these are what the tables hold
abbrev pub AreSections : Query → Tables → List QHypo → List WorldText → List WorldTable → Type 0
AreSections query tables [] [] [] = Unit {0}
AreSections query tables (hypo ∷ hypos) (section ∷ sections) (found ∷ more) =
    IsSectionOf query tables hypo section found × AreSections query tables hypos sections more
AreSections query tables hypos sections found = ⊥

-- the sections are those of this world
abbrev pub IsWorldOf : Query → Tables → List WorldText → World → Type 0
IsWorldOf query tables sections world = AreSections query tables query.hypos sections world.tables

-- a section that is missing, is not right for its hypothetical table, or is one too many
abbrev pub IsWrong : Query → Tables → Option QHypo → Option WorldText → Type 0
IsWrong query tables (Some hypo) (Some section) = (found : WorldTable) → IsSectionOf query tables hypo section found → ⊥
IsWrong query tables (Some hypo) None = Unit {0}
IsWrong query tables None (Some section) = Unit {0}
IsWrong query tables None None = ⊥

-- the sections before this number, from 0, are right, and the one with it is wrong
pub record IsFirstWrong (query : Query) (tables : Tables) (sections : List WorldText) (number : ℕ) : Type 0 where
  pub before : List WorldTable
  pub right : AreSections query tables (take number query.hypos) (take number sections) before
  pub wrong : IsWrong query tables (slice_get query.hypos number) (slice_get sections number)

-- the sections are no world, and this tells the first that is wrong
abbrev pub IsWorldFault : Query → Tables → List WorldText → WorldFault → Type 0
IsWorldFault query tables sections (fault.NoTable number) = IsFirstWrong query tables sections number
IsWorldFault query tables sections fault.Memory = ⊥
