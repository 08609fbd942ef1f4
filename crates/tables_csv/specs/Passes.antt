-- the records that a reader of `csv` has gone past, and what is read behind the header
use Rattle.std.specs.Prelude.{◌≡◌, ◌++◌, ℕ, Bool, true, false, List, [], ◌∷◌, Some}
use Rattle.std.specs.Borrow.{Bor}
use Rattle.csv.specs.Reading.{Reached, default_config, reader_state, source_of}
use Rattle.csv.specs.declared.parser.State.{State}
use Rattle.csv.specs.declared.reader.Reader.{Reader}
use Rattle.base_kit.specs.declared.value.Value.{Value}
use Rattle.tiql_query.specs.declared.relation.QTable.{QTable}
use Rattle.tables_csv.specs.declared.fault.TableFault.{TableFault}
use Rattle.tables_csv.specs.Records.{HasLeft, IsOpen, slice_bytes}
use Rattle.tables_csv.specs.WholeTables.{AreRows, IsRecordFault}

-- between the two states of a reader these are the records
pub record Passed (start now : Reader (Bor (List ℕ))) (records : List (List (List ℕ))) : Type 0 where
  pub from : List ℕ
  pub to : List ℕ
  pub source : source_of slice_bytes start ≡ Some from
  pub left : source_of slice_bytes now ≡ Some to
  pub reached : Reached default_config (reader_state start) from records (reader_state now) to

-- a read went past a record with these fields, and more can be read; or there was none
abbrev pub Passes : Reader (Bor (List ℕ)) → Reader (Bor (List ℕ)) → Bool → List (List ℕ) → Type 0
Passes old new true fields = IsOpen new × Passed old new (fields ∷ [])
Passes old new false fields = HasLeft old []

-- what the reader has left does not begin with this record
abbrev pub LacksFirst : Reader (Bor (List ℕ)) → List (List ℕ) → Type 0
LacksFirst reader fields = (from : List ℕ) → source_of slice_bytes reader ≡ Some from → (after : State) → (rest : List ℕ)
    → Reached default_config (reader_state reader) from (fields ∷ []) after rest → ⊥

-- the first record was this one, and the reader went past it; or what it had left does not begin with this one
abbrev pub TakesHeader : Reader (Bor (List ℕ)) → Reader (Bor (List ℕ)) → Bool → List (List ℕ) → Type 0
TakesHeader old new true names = IsOpen new × Passed old new (names ∷ [])
TakesHeader old new false names = LacksFirst old names

-- the records that the reader has left give these rows
pub record GivesRows (table : QTable) (reader : Reader (Bor (List ℕ))) (rows : List (List Value)) : Type 0 where
  pub records : List (List (List ℕ))
  pub left : HasLeft reader records
  pub given : AreRows table records rows

-- the first of the records that the reader has left that gives no row is refused so
pub record GivesFault (table : QTable) (reader : Reader (Bor (List ℕ))) (told : TableFault) : Type 0 where
  pub records : List (List (List ℕ))
  pub rows : List (List Value)
  pub before : AreRows table records rows
  pub fields : List (List ℕ)
  pub now : Reader (Bor (List ℕ))
  pub passed : Passed reader now (records ++ fields ∷ [])
  pub fault : IsRecordFault table rows fields told
