-- the values of a record's fields, one after another
use Rattle.std.proofs.Common.{◌≡◌, ◌+◌, ◌<◌, ◌++◌, ℕ, zero, suc, List, [], ◌∷◌, Option, Some, None, refl, sym, arith, length, get_or, take}
use Rattle.std.proofs.lemmas.List.{take_all}
use Rattle.std.proofs.lemmas.Option.{slice_get_read}
use Rattle.csv.specs.Records.{field_at}
use Rattle.base_kit.specs.declared.value.Value.{Value}
use Rattle.tiql_query.specs.declared.relation.Column.{Column}
use Rattle.tables_csv.specs.declared.fault.TableFault.{TableFault}
use Rattle.tables_csv.specs.declared.fault.TableFault.TheVariants as fault
use Rattle.tables_csv.proofs.Fields.{field_gone, field_there}
use Rattle.tables_csv.specs.Values.{AreValues, FaultsInField, IsFieldFault, IsRowFault, IsValue}

-- the place of a field is that of a column
pub column_there : (columns : List Column) (fields : List (List ℕ)) (i size at : ℕ) (field : List ℕ) → ◌≡◌ {A = Option (List ℕ)} (Some field) (field_at fields i)
    → length fields ≡ length columns → size ≡ i → at ≡ size → at < length columns
column_there columns fields i size at field field_is width size_is at_is = let there = (field_there fields i field (sym field_is)).0 in omega arith

-- one more value
values_push : (columns : List Column) (fields : List (List ℕ)) (values : List Value) (i : ℕ) (column : Column) (field : List ℕ) (value : Value) → i < length columns
    → i < length fields → column ≡ get_or columns i column → field ≡ get_or fields i field → AreValues (take i columns) (take i fields) values
    → IsValue column field value → AreValues (take (suc i) columns) (take (suc i) fields) (values ++ value ∷ [])
values_push [] fields values i column field value there also is field_is front here = absurd (omega arith)
values_push (c ∷ columns) [] values i column field value there also is field_is front here = absurd (omega arith)
values_push (c ∷ columns) (f ∷ fields) [] zero column field value there also is field_is front here =
    (rw (is, field_is) at here, tt)
values_push (c ∷ columns) (f ∷ fields) (v ∷ values) zero column field value there also is field_is front here = absurd front
values_push (c ∷ columns) (f ∷ fields) [] (suc i) column field value there also is field_is front here = absurd front
values_push (c ∷ columns) (f ∷ fields) (v ∷ values) (suc i) column field value there also is field_is front here =
    (front.0, values_push columns fields values i column field value (omega arith) (omega arith) is field_is front.1 here)

pub values_more : (columns : List Column) (fields : List (List ℕ)) (values more : List Value) (i j at : ℕ) (column : Column) (field : List ℕ) (value : Value)
    → ◌≡◌ {A = Option (List ℕ)} (Some field) (field_at fields i) → j ≡ i + 1 → at ≡ i → at < length columns → column ≡ get_or columns at column
    → AreValues (take i columns) (take i fields) values → IsValue column field value → more ≡ values ++ value ∷ [] → AreValues (take j columns) (take j fields) more
values_more columns fields values more i j at column field value field_is next at_is there column_is front here pushed =
    let at_field = field_there fields i field (sym field_is) in
    let after : j ≡ suc i = omega arith in
    rw (after, pushed) (values_push columns fields values i column field value (omega arith) at_field.0 (rw at_is at column_is) at_field.1 front here)

-- all values
pub values_all : (columns : List Column) (fields : List (List ℕ)) (values : List Value) (i : ℕ) → ◌≡◌ {A = Option (List ℕ)} None (field_at fields i)
    → length fields ≡ length columns → AreValues (take i columns) (take i fields) values → AreValues columns fields values
values_all columns fields values i gone width front =
    let end = field_gone fields i (sym gone) in
    rw (take_all i fields end, take_all i columns (omega arith)) at front

-- a field that is refused is no ragged row
field_fault : (columns : List Column) (fields : List (List ℕ)) (row : ℕ) (told : TableFault) → FaultsInField columns fields row told → IsRowFault columns fields row told
field_fault columns fields row fault.Header faults = faults
field_fault columns fields row fault.TooManyRows faults = faults
field_fault columns fields row (fault.Ragged r) faults = absurd faults.fault
field_fault columns fields row (fault.NotUtf8 r c) faults = faults
field_fault columns fields row (fault.TooLongText r c) faults = faults
field_fault columns fields row (fault.BadNumber r c) faults = faults
field_fault columns fields row (fault.SameKey r e) faults = faults
field_fault columns fields row fault.Memory faults = faults

-- a field that gives no value
pub values_stuck : (columns : List Column) (fields : List (List ℕ)) (values : List Value) (i at row number : ℕ) (column : Column) (field : List ℕ) (told : TableFault)
    → ◌≡◌ {A = Option (List ℕ)} (Some field) (field_at fields i) → at ≡ i → number ≡ i + 1 → length fields ≡ length columns → column ≡ get_or columns at column
    → AreValues (take i columns) (take i fields) values → IsFieldFault column field row number told → IsRowFault columns fields row told
values_stuck columns fields values i at row number column field told field_is at_is number_is width column_is front wrong =
    let at_field = field_there fields i field (sym field_is) in
    field_fault columns fields row told (record {
      width = width;
      at = i;
      front = values;
      values = front;
      column = column;
      column_is = slice_get_read columns (length columns) i column refl (omega arith) (rw at_is at column_is);
      field = field;
      field_is = slice_get_read fields (length fields) i field refl at_field.0 at_field.1;
      fault = rw number_is at wrong;
    })
