-- the rows of a table, one after another, and the first record that gives none
use Rattle.std.proofs.Common.{◌≡◌, ◌+◌, ◌<◌, ◌++◌, ℕ, List, [], ◌∷◌, Bor, arith, length, length-append}
use Rattle.std.specs.List.{AllZip}
use Rattle.csv.specs.declared.reader.Reader.{Reader}
use Rattle.base_kit.specs.declared.value.Value.{Value}
use Rattle.tiql_query.specs.declared.relation.QTable.{QTable}
use Rattle.tables_csv.specs.declared.fault.TableFault.{TableFault}
use Rattle.tables_csv.specs.declared.fault.TableFault.TheVariants as fault
use Rattle.tables_csv.proofs.KeyLemmas.{distinct_more}
use Rattle.tables_csv.proofs.Passing.{passed_all, passed_more, passed_none}
use Rattle.tiql_query.specs.Keys.{HasKeyOf, HasNewKey}
use Rattle.tables_csv.specs.Passes.{GivesFault, GivesRows, Passed}
use Rattle.tables_csv.specs.Records.{HasLeft, IsOpen}
use Rattle.tables_csv.specs.Values.{AreValues, IsRowFault}
use Rattle.tables_csv.specs.WholeTables.{AreRows, IsRecordFault}

-- the records that a reader has gone past give these rows
pub record RowsPassed (table : QTable) (start now : Reader (Bor (List ℕ))) (rows : List (List Value)) : Type 0 where
  pub records : List (List (List ℕ))
  pub passed : Passed start now records
  pub given : AreRows table records rows

zip_push : {A B : Type 0} (R : A → B → Type 0) (xs : List A) (ys : List B) (x : A) (y : B) → AllZip R xs ys → R x y → AllZip R (xs ++ x ∷ []) (ys ++ y ∷ [])
zip_push R [] [] x y front here = (here, tt)
zip_push R [] (b ∷ ys) x y front here = absurd front
zip_push R (a ∷ xs) [] x y front here = absurd front
zip_push R (a ∷ xs) (b ∷ ys) x y front here = (front.0, zip_push R xs ys x y front.1 here)

-- no row yet
pub rows_none : (table : QTable) (reader : Reader (Bor (List ℕ))) → IsOpen reader → RowsPassed table reader reader []
rows_none table reader is = record {
  records = [];
  passed = passed_none reader is;
  given = record { each = tt; few = omega arith; keys = λ some i j less below. absurd (omega arith) };
}

-- one more row
pub rows_more : (table : QTable) (start old new : Reader (Bor (List ℕ))) (rows more : List (List Value)) (fields : List (List ℕ)) (row : List Value)
    → RowsPassed table start old rows → Passed old new (fields ∷ []) → length rows < 200000 → AreValues table.columns fields row → HasNewKey table.key rows row
    → more ≡ rows ++ row ∷ [] → RowsPassed table start new more
rows_more table start old new rows more fields row front passed few values key whole = rw whole (record {
  records = front.records ++ fields ∷ [];
  passed = passed_more start old new front.records fields front.passed passed;
  given = record {
    each = zip_push (AreValues table.columns) front.records rows fields row front.given.each values;
    few = let size = length-append rows (row ∷ []) in omega arith;
    keys = distinct_more table.key rows row front.given.keys key;
  };
})

-- no record is left
pub rows_all : (table : QTable) (start old : Reader (Bor (List ℕ))) (rows : List (List Value)) → RowsPassed table start old rows → HasLeft old [] → GivesRows table start rows
rows_all table start old rows front left = record { records = front.records; left = passed_all start old front.records front.passed left; given = front.given }

module _ (table : QTable) (start old new : Reader (Bor (List ℕ))) (rows : List (List Value)) (fields : List (List ℕ)) (front : RowsPassed table start old rows)
    (passed : Passed old new (fields ∷ [])) where
  -- a record that is refused
  rows_stuck : (told : TableFault) → IsRecordFault table rows fields told → GivesFault table start told
  rows_stuck told wrong = record {
    records = front.records;
    rows = rows;
    before = front.given;
    fields = fields;
    now = new;
    passed = passed_more start old new front.records fields front.passed passed;
    fault = wrong;
  }

  -- a record after the last row that there may be
  pub rows_full : length rows ≡ 200000 → GivesFault table start fault.TooManyRows
  rows_full full = rows_stuck fault.TooManyRows full

  record_fault : (number : ℕ) (told : TableFault) → length rows < 200000 → number ≡ length rows + 1 → IsRowFault table.columns fields number told → IsRecordFault table rows fields told
  record_fault number fault.Header few is wrong = (few, rw is at wrong)
  record_fault number fault.TooManyRows few is wrong = absurd wrong.fault
  record_fault number (fault.Ragged r) few is wrong = (few, rw is at wrong)
  record_fault number (fault.NotUtf8 r c) few is wrong = (few, rw is at wrong)
  record_fault number (fault.TooLongText r c) few is wrong = (few, rw is at wrong)
  record_fault number (fault.BadNumber r c) few is wrong = (few, rw is at wrong)
  record_fault number (fault.SameKey r e) few is wrong = absurd wrong.fault
  record_fault number fault.Memory few is wrong = (few, rw is at wrong)

  -- a record that gives no row
  pub row_refused : (number : ℕ) (told : TableFault) → length rows < 200000 → number ≡ length rows + 1 → IsRowFault table.columns fields number told → GivesFault table start told
  row_refused number told few is wrong = rows_stuck told (record_fault number told few is wrong)

  -- a row with the key of an earlier one
  pub key_refused : (number earlier : ℕ) (row : List Value) → length rows < 200000 → number ≡ length rows + 1 → AreValues table.columns fields row
      → HasKeyOf table.key rows row earlier → GivesFault table start (fault.SameKey number earlier)
  key_refused number earlier row few is values key = rows_stuck (fault.SameKey number earlier) (few, is, row, values, key)
