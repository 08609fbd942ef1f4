-- the columns of a hypothetical table are named and typed as those of its table
use Rattle.std.proofs.Common.{◌≡◌, ◌+◌, ◌==◌, ℕ, suc, Bool, List, [], ◌∷◌, length, refl, ap}
use Rattle.std.specs.List.{AllZip, list_any}
use Rattle.std.proofs.lemmas.List.Elements.{All-weaker}
use Rattle.base_kit.specs.declared.value.Value.{Value}
use Rattle.base_kit.specs.declared.value.Value.TheVariants.{Int, Text}
use Rattle.tiql_query.specs.declared.relation.Column.{Column}
use Rattle.tiql_query.specs.declared.relation.QBound.{QBound}
use Rattle.tiql_query.specs.declared.relation.QTable.{QTable}
use Rattle.tiql_query.specs.WellFormed.{with_set}
use Rattle.tables_csv.specs.Values.{AreValues, IsValue}
use Rattle.tables_csv.specs.WholeTables.{IsTableOf, names_of}
use Rattle.tiql_query.specs.Rows.{AreRowsOf, IsOfColumn}

pub set_long : (set : List QBound) (n : ℕ) (columns : List Column) → length (with_set set n columns) ≡ length columns
unfolding with_set
set_long set n [] = refl
set_long set n (column ∷ columns) = ap suc (set_long set (n + 1) columns)

set_names : (set : List QBound) (n : ℕ) (columns : List Column) → names_of (with_set set n columns) ≡ names_of columns
unfolding with_set
set_names set n [] = refl
set_names set n (column ∷ columns) = ap (λ (names : List (List ℕ)). column.name ∷ names) (set_names set (n + 1) columns)

-- a mark takes no part in what a column may hold
marked_of : (unknown : Bool) (column : Column) (value : Value) → IsOfColumn column value → IsOfColumn (record column { unknown = unknown }) value
marked_of unknown column (Int n) of = of
marked_of unknown column (Text t) of = of

plain_value : (unknown : Bool) (column : Column) (field : List ℕ) (value : Value) → IsValue (record column { unknown = unknown }) field value → IsValue column field value
plain_value unknown column field (Int n) is = is
plain_value unknown column field (Text t) is = is

set_row : (set : List QBound) (n : ℕ) (columns : List Column) (row : List Value) → AllZip IsOfColumn columns row → AllZip IsOfColumn (with_set set n columns) row
unfolding with_set
set_row set n [] [] all = tt
set_row set n [] (value ∷ row) all = absurd all
set_row set n (column ∷ columns) [] all = absurd all
set_row set n (column ∷ columns) (value ∷ row) all = (marked_of (list_any (λ bound. bound.column == n) set) column value all.0, set_row set (n + 1) columns row all.1)

plain_values : (set : List QBound) (n : ℕ) (columns : List Column) (fields : List (List ℕ)) (row : List Value) → AreValues (with_set set n columns) fields row → AreValues columns fields row
unfolding with_set
plain_values set n [] [] [] all = tt
plain_values set n [] [] (value ∷ row) all = absurd all
plain_values set n [] (field ∷ fields) row all = absurd all
plain_values set n (column ∷ columns) [] row all = absurd all
plain_values set n (column ∷ columns) (field ∷ fields) [] all = absurd all
plain_values set n (column ∷ columns) (field ∷ fields) (value ∷ row) all = (plain_value (list_any (λ bound. bound.column == n) set) column field value all.0, plain_values set (n + 1) columns fields row all.1)

plain_rows : (set : List QBound) (n : ℕ) (columns : List Column) (records : List (List (List ℕ))) (rows : List (List Value)) → AllZip (AreValues (with_set set n columns)) records rows → AllZip (AreValues columns) records rows
plain_rows set n columns [] [] all = tt
plain_rows set n columns [] (row ∷ rows) all = absurd all
plain_rows set n columns (fields ∷ records) [] all = absurd all
plain_rows set n columns (fields ∷ records) (row ∷ rows) all = (plain_values set n columns fields row all.0, plain_rows set n columns records rows all.1)

-- the table with the columns of a hypothetical table over it
abbrev pub set_table : List QBound → QTable → QTable
set_table set table = record { name = table.name; columns = with_set set 0 table.columns; key = table.key }

-- it may have the rows of the table
pub set_rows : (set : List QBound) (table : QTable) (rows : List (List Value)) → AreRowsOf table rows → AreRowsOf (set_table set table) rows
set_rows set table rows are = record {
  each = All-weaker (λ (row : List Value). AllZip IsOfColumn table.columns row) (λ (row : List Value). AllZip IsOfColumn (with_set set 0 table.columns) row) (λ row all. set_row set 0 table.columns row all) rows are.each;
  few = are.few;
  keys = are.keys;
}

-- and what is a table of it is one of the table
pub plain_table : (set : List QBound) (bytes : List ℕ) (table : QTable) (rows : List (List Value)) → IsTableOf bytes (set_table set table) rows → IsTableOf bytes table rows
plain_table set bytes table rows is = record {
  unmarked = is.unmarked;
  records = is.records;
  all = rw (set_names set 0 table.columns) at is.all;
  given = record { each = plain_rows set 0 table.columns is.records rows is.given.each; few = is.given.few; keys = is.given.keys };
}
