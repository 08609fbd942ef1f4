-- which bytes are a table, and how other bytes are refused
use Rattle.std.specs.Prelude.{◌≡◌, ◌<◌, ◌≤◌, ◌+◌, ◌⊎◌, ℕ, Bool, true, false, List, [], ◌∷◌, ◌++◌, length, map, drop, nat_eq, if◌then◌else◌}
use Rattle.std.specs.List.{AllZip, starts_with}
use Rattle.csv.specs.Reading.{AreRecords, Reached, default_config}
use Rattle.csv.specs.declared.parser.State.{State}
use Rattle.csv.specs.declared.parser.State.TheVariants as state
use Rattle.base_kit.specs.declared.value.Value.{Value}
use Rattle.tiql_query.specs.declared.relation.Column.{Column}
use Rattle.tiql_query.specs.declared.relation.QTable.{QTable}
use Rattle.tables_csv.specs.declared.fault.TableFault.{TableFault}
use Rattle.tables_csv.specs.declared.fault.TableFault.TheVariants as fault
use Rattle.tiql_query.specs.Keys.{HasKeyOf, HaveDistinctKeys}
use Rattle.tables_csv.specs.Values.{AreValues, IsRowFault}

-- the bytes EF BB BF of a byte order mark stand at the front
abbrev pub is_marked : List ℕ → Bool
is_marked bytes = starts_with nat_eq bytes (0xEF ∷ 0xBB ∷ 0xBF ∷ [])

-- the bytes behind a byte order mark, where they begin with one
unfoldable pub without_mark : List ℕ → List ℕ
without_mark bytes = if is_marked bytes then drop 3 bytes else bytes

-- by `csv`'s definition these are the first records of the text
abbrev pub BeginsWith : List ℕ → List (List (List ℕ)) → Type 0
BeginsWith text records = (after : State) × (rest : List ℕ) × Reached default_config state.StartRecord text records after rest

-- the names of the columns
abbrev pub names_of : List Column → List (List ℕ)
names_of columns = map (λ column. column.name) columns

-- each record gives the row beside it, the rows are at most 200,000, and their keys differ
pub record AreRows (table : QTable) (records : List (List (List ℕ))) (rows : List (List Value)) : Type 0 where
  pub each : AllZip (AreValues table.columns) records rows
  pub few : length rows ≤ 200000
  pub keys : HaveDistinctKeys table.key rows

-- behind at most one byte order mark, the records of the bytes are the names of the columns and then the rows
pub record IsTableOf (bytes : List ℕ) (table : QTable) (rows : List (List Value)) : Type 0 where
  pub unmarked : is_marked (without_mark bytes) ≡ false
  pub records : List (List (List ℕ))
  pub all : AreRecords default_config state.StartRecord (without_mark bytes) (names_of table.columns ∷ records)
  pub given : AreRows table records rows

-- a record after these rows is refused so
abbrev pub IsRecordFault : QTable → List (List Value) → List (List ℕ) → TableFault → Type 0
IsRecordFault table rows fields fault.TooManyRows = length rows ≡ 200000
IsRecordFault table rows fields (fault.SameKey row earlier) =
    (length rows < 200000) × (row ≡ length rows + 1) × (values : List Value) × AreValues table.columns fields values × HasKeyOf table.key rows values earlier
IsRecordFault table rows fields other = (length rows < 200000) × IsRowFault table.columns fields (length rows + 1) other

-- the first record behind the header that gives no row is refused so
pub record FaultsInRecord (text : List ℕ) (table : QTable) (told : TableFault) : Type 0 where
  pub unmarked : is_marked text ≡ false
  pub records : List (List (List ℕ))
  pub rows : List (List Value)
  pub before : AreRows table records rows
  pub fields : List (List ℕ)
  pub begins : BeginsWith text (names_of table.columns ∷ records ++ fields ∷ [])
  pub fault : IsRecordFault table rows fields told

-- the bytes are no table, and this is the first fault in them
abbrev pub IsFirstFault : List ℕ → QTable → TableFault → Type 0
IsFirstFault bytes table fault.Header =
    (is_marked (without_mark bytes) ≡ true) ⊎ (BeginsWith (without_mark bytes) (names_of table.columns ∷ []) → ⊥)
IsFirstFault bytes table other = FaultsInRecord (without_mark bytes) table other
