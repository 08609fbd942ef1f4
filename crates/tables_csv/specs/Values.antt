-- what the fields of a row say, and what may be wrong with them
use Rattle.std.specs.Prelude.{◌≡◌, ◌≢◌, ◌<◌, ◌≤◌, ◌+◌, ℕ, ℤ, true, false, List, [], ◌∷◌, length, take, slice_get, Some, IsUtf8}
use Rattle.base_kit.specs.declared.value.Value.{Value}
use Rattle.base_kit.specs.declared.value.Value.TheVariants.{Int, Text}
use Rattle.tiql_query.specs.declared.relation.Column.{Column}
use Rattle.tables_csv.specs.declared.fault.TableFault.{TableFault}
use Rattle.tables_csv.specs.declared.fault.TableFault.TheVariants as fault
use Rattle.tables_csv.specs.Numbers.{Spells}

-- in a column of numbers the value is the number that the field spells; in a column of texts it is the field, which is
-- UTF-8 of at most 1,000 bytes
abbrev pub IsValue : Column → List ℕ → Value → Type 0
IsValue column field (Int number) = (column.text ≡ false) × Spells field number
IsValue column field (Text text) = (column.text ≡ true) × (text ≡ field) × IsUtf8 field × (length field ≤ 1000)

-- there is a field for each column, and the values are theirs
abbrev pub AreValues : List Column → List (List ℕ) → List Value → Type 0
AreValues [] [] [] = Unit {0}
AreValues (column ∷ columns) (field ∷ fields) (value ∷ values) = IsValue column field value × AreValues columns fields values
AreValues columns fields values = ⊥

-- the field at this row and column, both counted from 1, is refused so
abbrev pub IsFieldFault : Column → List ℕ → ℕ → ℕ → TableFault → Type 0
IsFieldFault column field row number (fault.NotUtf8 r c) = (column.text ≡ true) × (¬ IsUtf8 field) × (r ≡ row) × (c ≡ number)
IsFieldFault column field row number (fault.TooLongText r c) =
    (column.text ≡ true) × IsUtf8 field × (1000 < length field) × (r ≡ row) × (c ≡ number)
IsFieldFault column field row number (fault.BadNumber r c) =
    (column.text ≡ false) × ((it : ℤ) → Spells field it → ⊥) × (r ≡ row) × (c ≡ number)
IsFieldFault column field row number other = ⊥

-- there is a field for each column, and the first one with no value is refused so
pub record FaultsInField (columns : List Column) (fields : List (List ℕ)) (row : ℕ) (told : TableFault) : Type 0 where
  pub width : length fields ≡ length columns
  pub at : ℕ
  pub front : List Value
  pub values : AreValues (take at columns) (take at fields) front
  pub column : Column
  pub column_is : slice_get columns at ≡ Some column
  pub field : List ℕ
  pub field_is : slice_get fields at ≡ Some field
  pub fault : IsFieldFault column field row (at + 1) told

-- the fields are no values of a row, and are refused so
abbrev pub IsRowFault : List Column → List (List ℕ) → ℕ → TableFault → Type 0
IsRowFault columns fields row (fault.Ragged r) = (length fields ≢ length columns) × (r ≡ row)
IsRowFault columns fields row other = FaultsInField columns fields row other
