-- what is written of a table, and that it is read again
use Rattle.std.proofs.Common.{◌≡◌, ◌≢◌, ◌+◌, ◌<◌, ◌≤◌, ◌++◌, ℕ, Bool, false, cond, List, [], ◌∷◌, ap, append_assoc, refl, sym, arith, drop, get_or, length, map, take, IsTrue}
use Rattle.std.proofs.lemmas.Bool.{ne_eqb}
use Rattle.std.proofs.lemmas.List.{append-nil, length-map, map-append, take_all, take_more}
use Rattle.std.proofs.lemmas.List.Concat.{flat_map-append}
use Rattle.std.proofs.lemmas.List.Elements.{recursion_from_All}
use Rattle.std.specs.List.{All, AllByRecursion, AllZip, flat_map, join_with_byte}
use Rattle.csv.specs.Writing.{default_writer, row_text}
use Rattle.base_kit.specs.Names.{is_name}
use Rattle.base_kit.specs.declared.value.Value.{Value}
use Rattle.base_kit.specs.declared.value.Value.TheVariants.{Int, Text}
use Rattle.tiql_query.specs.declared.relation.Column.{Column}
use Rattle.tiql_query.specs.declared.relation.QTable.{QTable}
use Rattle.tables_csv.proofs.Lines.{AreFull, ArePlain, line, plain_line, rows_read}
use Rattle.tables_csv.proofs.Plain.{name_front, name_plain, number_spelled}
use Rattle.tables_csv.specs.Values.{AreValues, IsValue}
use Rattle.tables_csv.specs.WholeTables.{IsTableOf, is_marked, names_of, without_mark}
use Rattle.tiql_query.specs.Rows.{AreRowsOf, IsOfColumn}
use Rattle.tables_csv.specs.WholeTexts.{records_text, value_text}

-- one more row
pub row_added : (names : List (List ℕ)) (rows : List (List Value)) (i : ℕ) (fields : List (List ℕ)) (slice row : List Value) → fields ≡ map value_text slice
    → slice ≡ row → i < length rows → row ≡ get_or rows i row
    → (row_text default_writer names ++ flat_map (row_text default_writer) (map (map value_text) (take i rows))) ++ row_text default_writer fields
    ≡ row_text default_writer names ++ flat_map (row_text default_writer) (map (map value_text) (take (i + 1) rows))
row_added names rows i fields slice row is same there at =
    let front = map (map value_text) (take i rows) in
    let split : flat_map (row_text default_writer) (map (map value_text) (take (i + 1) rows))
    ≡ flat_map (row_text default_writer) front ++ row_text default_writer (map value_text row) =
    rw (take_more rows i row there, ← at, map-append, flat_map-append (row_text default_writer) front (map value_text row ∷ []))
    (ap (λ (l : List ℕ). flat_map (row_text default_writer) front ++ l) (append-nil (row_text default_writer (map value_text row)))) in
    rw (split, is, same) (append_assoc (row_text default_writer names) (flat_map (row_text default_writer) front) (row_text default_writer (map value_text row)))

-- all rows
pub all_written : (columns : List Column) (rows : List (List Value)) (i : ℕ) → length rows ≤ i
    → row_text default_writer (names_of columns) ++ flat_map (row_text default_writer) (map (map value_text) (take i rows)) ≡ records_text columns rows
unfolding records_text
all_written columns rows i end = rw (take_all i rows end) refl

-- what is written of a value is read as it
value_read : (column : Column) (value : Value) → IsOfColumn column value → IsValue column (value_text value) value
value_read column (Int number) is = (is.0, number_spelled number is.1)
value_read column (Text text) is = (is.0, refl, is.1, is.2)

row_read : (columns : List Column) (row : List Value) → AllZip IsOfColumn columns row → AreValues columns (map value_text row) row
row_read [] [] each = tt
row_read [] (value ∷ row) each = absurd each
row_read (column ∷ columns) [] each = absurd each
row_read (column ∷ columns) (value ∷ row) each = (value_read column value each.0, row_read columns row each.1)

rows_given : (columns : List Column) (rows : List (List Value)) → AllByRecursion (λ row. AllZip IsOfColumn columns row) rows → AllZip (AreValues columns) (map (map value_text) rows) rows
rows_given columns [] each = tt
rows_given columns (row ∷ rows) each = (row_read columns row each.0, rows_given columns rows each.1)

row_some : (columns : List Column) (row : List Value) → AllZip IsOfColumn columns row → 0 < length columns → 0 < length (map value_text row)
row_some [] row each some = absurd (omega arith)
row_some (column ∷ columns) [] each some = absurd each
row_some (column ∷ columns) (value ∷ row) each some = omega arith

rows_some : (columns : List Column) (rows : List (List Value)) → 0 < length columns → AllByRecursion (λ row. AllZip IsOfColumn columns row) rows → AreFull (map (map value_text) rows)
rows_some columns [] some each = tt
rows_some columns (row ∷ rows) some each = (row_some columns row each.0 some, rows_some columns rows some each.1)

-- ---- the byte order mark

names_plain : (names : List (List ℕ)) → AllByRecursion (λ name. IsTrue (is_name name)) names → ArePlain names
names_plain [] are = tt
names_plain (name ∷ names) are = (name_plain name are.0, names_plain names are.1)

-- a line of names begins with no byte order mark
unmarked_line : (names : List (List ℕ)) (tail : List ℕ) → AllByRecursion (λ name. IsTrue (is_name name)) names → is_marked (line names ++ tail) ≡ false
unmarked_line [] tail named = refl
unmarked_line (name ∷ names) tail named = by_name name names (name_front name named.0) (name_plain name named.0).some
  where
    by_byte : (b : ℕ) (bytes : List ℕ) → b ≢ 239 → is_marked (b ∷ bytes) ≡ false
    by_byte b bytes other = rw (ne_eqb 239 b (λ e. other (sym e))) refl

    by_name : (name : List ℕ) (names : List (List ℕ)) → get_or name 0 0 ≢ 239 → 0 < length name → is_marked (line (name ∷ names) ++ tail) ≡ false
    by_name [] names front some = absurd (omega arith)
    by_name (b ∷ bytes) [] front some = by_byte b ((bytes ++ 10 ∷ []) ++ tail) front
    by_name (b ∷ bytes) (next ∷ names) front some = by_byte b (((bytes ++ 44 ∷ join_with_byte 44 (next ∷ names)) ++ 10 ∷ []) ++ tail) front

-- nor does the text
unmarked : (columns : List Column) (rows : List (List Value)) → 0 < length columns → All (λ name. IsTrue (is_name name)) (names_of columns) → is_marked (records_text columns rows) ≡ false
unfolding records_text
unmarked columns rows some named =
    let size = length-map columns (λ (c : Column). c.name) in
    let each = recursion_from_All (λ (name : List ℕ). IsTrue (is_name name)) (names_of columns) named in
    rw (plain_line (names_of columns) (omega arith) (names_plain (names_of columns) each)) (unmarked_line (names_of columns) _ each)

unmarked_same : (bytes : List ℕ) → is_marked bytes ≡ false → without_mark bytes ≡ bytes
unfolding without_mark
unmarked_same bytes is = ap (λ (b : Bool). cond b (drop 3 bytes) bytes) is

-- the written text is a table of the rows
pub text_read : (table : QTable) (rows : List (List Value)) → 0 < length table.columns → All (λ name. IsTrue (is_name name)) (names_of table.columns) → AreRowsOf table rows
    → IsTableOf (records_text table.columns rows) table rows
unfolding records_text
text_read table rows some named are =
    let each = recursion_from_All (λ (row : List Value). AllZip IsOfColumn table.columns row) rows are.each in
    let size = length-map table.columns (λ (c : Column). c.name) in
    let whole = unmarked table.columns rows some named in
    let same = unmarked_same (records_text table.columns rows) whole in
    record {
      unmarked = rw same whole;
      records = map (map value_text) rows;
      all = rw same (rows_read (names_of table.columns ∷ map (map value_text) rows) (omega arith, rows_some table.columns rows some each));
      given = record { each = rows_given table.columns rows each; few = are.few; keys = are.keys };
    }

pub bytes_read : (bytes : List ℕ) (columns : List Column) (rows : List (List Value)) → bytes ≡ records_text columns rows → All (λ name. IsTrue (is_name name)) (names_of columns)
    → (table : QTable) → table.columns ≡ columns → 0 < length columns → AreRowsOf table rows → IsTableOf bytes table rows
bytes_read bytes columns rows is named table same some are =
    rw (is, ← same) (text_read table rows (rw same some) (rw same named) are)
