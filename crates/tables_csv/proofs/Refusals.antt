-- a record that gives a row has no fault, and one that gives none has one
use Rattle.std.proofs.Common.{◌≡◌, ◌≢◌, ◌∙◌, ◌+◌, ◌<◌, ◌++◌, ◌-◌, ◌⊎◌, ℕ, zero, suc, true, false, List, [], ◌∷◌, Option, Some, ap, refl, sym, subst, inl, inr, arith, true≢false, length, length-append, take}
use Rattle.std.proofs.Math.Seq.{get_or-append_seam}
use Rattle.std.proofs.lemmas.Bool.{cases_lt}
use Rattle.std.proofs.lemmas.List.{get_or_append_left}
use Rattle.std.specs.List.{AllZip}
use Rattle.std.specs.Prelude.{IsUtf8, slice_get}
use Rattle.base_kit.specs.declared.value.Value.{Value}
use Rattle.base_kit.specs.declared.value.Value.TheVariants.{Int, Text}
use Rattle.tiql_query.specs.declared.relation.Column.{Column}
use Rattle.tiql_query.specs.declared.relation.QTable.{QTable}
use Rattle.tables_csv.specs.declared.fault.TableFault.{TableFault}
use Rattle.tables_csv.specs.declared.fault.TableFault.TheVariants as fault
use Rattle.tiql_query.specs.Keys.{HasKeyOf, HaveDistinctKeys, key_at, key_of}
use Rattle.tables_csv.specs.Values.{AreValues, FaultsInField, IsFieldFault, IsRowFault, IsValue}
use Rattle.tables_csv.specs.WholeTables.{AreRows, IsRecordFault}

-- ---- fields

-- a field gives one value
value_one : (column : Column) (field : List ℕ) (one other : Value) → IsValue column field one → IsValue column field other → one ≡ other
value_one column field (Int m) (Int n) is also = ap Int (is.1.value ∙ sym also.1.value)
value_one column field (Int m) (Text t) is also = absurd (true≢false (sym also.0 ∙ is.0))
value_one column field (Text s) (Int n) is also = absurd (true≢false (sym is.0 ∙ also.0))
value_one column field (Text s) (Text t) is also = ap Text (is.1 ∙ sym also.1)

-- a field that gives a value has no fault
value_no_fault : (column : Column) (field : List ℕ) (value : Value) (row number : ℕ) (told : TableFault) → IsValue column field value → IsFieldFault column field row number told → ⊥
value_no_fault column field value row number fault.Header is wrong = wrong
value_no_fault column field value row number fault.TooManyRows is wrong = wrong
value_no_fault column field value row number (fault.Ragged r) is wrong = wrong
value_no_fault column field (Int n) row number (fault.NotUtf8 r c) is wrong = true≢false (sym wrong.0 ∙ is.0)
value_no_fault column field (Text t) row number (fault.NotUtf8 r c) is wrong = wrong.1 is.2
value_no_fault column field (Int n) row number (fault.TooLongText r c) is wrong = true≢false (sym wrong.0 ∙ is.0)
value_no_fault column field (Text t) row number (fault.TooLongText r c) is wrong = let long = wrong.2 in let short = is.3 in absurd (omega arith)
value_no_fault column field (Int n) row number (fault.BadNumber r c) is wrong = wrong.1 n is.1
value_no_fault column field (Text t) row number (fault.BadNumber r c) is wrong = true≢false (sym is.0 ∙ wrong.0)
value_no_fault column field value row number (fault.SameKey r e) is wrong = wrong
value_no_fault column field value row number fault.Memory is wrong = wrong

-- what a fault of a field says of it
FieldKind : Column → List ℕ → ℕ → ℕ → TableFault → Type 0
FieldKind column field row number told = ((told ≡ fault.NotUtf8 row number) × (column.text ≡ true) × (IsUtf8 field → ⊥))
    ⊎ (((told ≡ fault.TooLongText row number) × (column.text ≡ true) × IsUtf8 field) ⊎ ((told ≡ fault.BadNumber row number) × (column.text ≡ false)))

field_kind : (column : Column) (field : List ℕ) (row number : ℕ) (told : TableFault) → IsFieldFault column field row number told → FieldKind column field row number told
unfolding FieldKind
field_kind column field row number fault.Header wrong = absurd wrong
field_kind column field row number fault.TooManyRows wrong = absurd wrong
field_kind column field row number (fault.Ragged r) wrong = absurd wrong
field_kind column field row number (fault.NotUtf8 r c) wrong = inl (rw (wrong.2, wrong.3) refl, wrong.0, wrong.1)
field_kind column field row number (fault.TooLongText r c) wrong = inr (inl (rw (wrong.3, wrong.4) refl, wrong.0, wrong.1))
field_kind column field row number (fault.BadNumber r c) wrong = inr (inr (rw (wrong.2, wrong.3) refl, wrong.0))
field_kind column field row number (fault.SameKey r e) wrong = absurd wrong
field_kind column field row number fault.Memory wrong = absurd wrong

field_fault_one : (column : Column) (field : List ℕ) (row number : ℕ) (one other : TableFault) → FieldKind column field row number one → FieldKind column field row number other → one ≡ other
unfolding FieldKind
field_fault_one column field row number one other (inl a) (inl b) = a.0 ∙ sym b.0
field_fault_one column field row number one other (inl a) (inr (inl b)) = absurd (a.2 b.2)
field_fault_one column field row number one other (inl a) (inr (inr b)) = absurd (true≢false (sym a.1 ∙ b.1))
field_fault_one column field row number one other (inr (inl a)) (inl b) = absurd (b.2 a.2)
field_fault_one column field row number one other (inr (inl a)) (inr (inl b)) = a.0 ∙ sym b.0
field_fault_one column field row number one other (inr (inl a)) (inr (inr b)) = absurd (true≢false (sym a.1 ∙ b.1))
field_fault_one column field row number one other (inr (inr a)) (inl b) = absurd (true≢false (sym b.1 ∙ a.1))
field_fault_one column field row number one other (inr (inr a)) (inr (inl b)) = absurd (true≢false (sym b.1 ∙ a.1))
field_fault_one column field row number one other (inr (inr a)) (inr (inr b)) = a.0 ∙ sym b.0

-- ---- rows

pub values_one : (columns : List Column) (fields : List (List ℕ)) (one other : List Value) → AreValues columns fields one → AreValues columns fields other → one ≡ other
values_one [] [] [] [] is also = refl
values_one [] [] [] (w ∷ ws) is also = absurd also
values_one [] [] (v ∷ vs) other is also = absurd is
values_one [] (f ∷ fs) one other is also = absurd is
values_one (c ∷ cs) [] one other is also = absurd is
values_one (c ∷ cs) (f ∷ fs) [] other is also = absurd is
values_one (c ∷ cs) (f ∷ fs) (v ∷ vs) [] is also = absurd also
values_one (c ∷ cs) (f ∷ fs) (v ∷ vs) (w ∷ ws) is also =
    let head = value_one c f v w is.0 also.0 in let tail = values_one cs fs vs ws is.1 also.1 in cc

values_width : (columns : List Column) (fields : List (List ℕ)) (values : List Value) → AreValues columns fields values → length fields ≡ length columns
values_width [] [] values is = refl
values_width [] (f ∷ fs) values is = absurd is
values_width (c ∷ cs) [] values is = absurd is
values_width (c ∷ cs) (f ∷ fs) [] is = absurd is
values_width (c ∷ cs) (f ∷ fs) (v ∷ vs) is = ap suc (values_width cs fs vs is.1)

-- a row has a value for each column
pub values_count : (columns : List Column) (fields : List (List ℕ)) (values : List Value) → AreValues columns fields values → length values ≡ length columns
values_count [] [] [] is = refl
values_count [] [] (v ∷ vs) is = absurd is
values_count [] (f ∷ fs) values is = absurd is
values_count (c ∷ cs) [] values is = absurd is
values_count (c ∷ cs) (f ∷ fs) [] is = absurd is
values_count (c ∷ cs) (f ∷ fs) (v ∷ vs) is = ap suc (values_count cs fs vs is.1)

-- a field of a row gives a value
value_there : (columns : List Column) (fields : List (List ℕ)) (values : List Value) (i : ℕ) (column : Column) (field : List ℕ) → AreValues columns fields values
    → slice_get columns i ≡ Some column → slice_get fields i ≡ Some field → (value : Value) × IsValue column field value
value_there [] fields values i column field are column_is field_is = cc
value_there (c ∷ cs) [] values i column field are column_is field_is = absurd are
value_there (c ∷ cs) (f ∷ fs) [] i column field are column_is field_is = absurd are
value_there (c ∷ cs) (f ∷ fs) (v ∷ vs) zero column field are column_is field_is =
    let one : c ≡ column = cc in let two : f ≡ field = cc in (v, rw (one, two) at are.0)
value_there (c ∷ cs) (f ∷ fs) (v ∷ vs) (suc i) column field are column_is field_is = value_there cs fs vs i column field are.1 column_is field_is

-- so does a field before the first that gives none
value_before : (columns : List Column) (fields : List (List ℕ)) (values : List Value) (i j : ℕ) (column : Column) (field : List ℕ) → i < j
    → AreValues (take j columns) (take j fields) values → slice_get columns i ≡ Some column → slice_get fields i ≡ Some field → (value : Value) × IsValue column field value
value_before columns fields values i zero column field less are column_is field_is = absurd (omega arith)
value_before [] fields values i (suc j) column field less are column_is field_is = cc
value_before (c ∷ cs) [] values i (suc j) column field less are column_is field_is = absurd are
value_before (c ∷ cs) (f ∷ fs) [] i (suc j) column field less are column_is field_is = absurd are
value_before (c ∷ cs) (f ∷ fs) (v ∷ vs) zero (suc j) column field less are column_is field_is =
    let one : c ≡ column = cc in let two : f ≡ field = cc in (v, rw (one, two) at are.0)
value_before (c ∷ cs) (f ∷ fs) (v ∷ vs) (suc i) (suc j) column field less are column_is field_is =
    value_before cs fs vs i j column field (omega arith) are.1 column_is field_is

field_no_row : (columns : List Column) (fields : List (List ℕ)) (values : List Value) (row : ℕ) (told : TableFault) → AreValues columns fields values
    → FaultsInField columns fields row told → ⊥
field_no_row columns fields values row told are faults =
    let there = value_there columns fields values faults.at faults.column faults.field are faults.column_is faults.field_is in
    value_no_fault faults.column faults.field there.0 row (faults.at + 1) told there.1 faults.fault

-- a record that gives a row has no fault
row_no_fault : (columns : List Column) (fields : List (List ℕ)) (values : List Value) (row : ℕ) (told : TableFault) → AreValues columns fields values
    → IsRowFault columns fields row told → ⊥
row_no_fault columns fields values row fault.Header are wrong = field_no_row columns fields values row fault.Header are wrong
row_no_fault columns fields values row fault.TooManyRows are wrong = field_no_row columns fields values row fault.TooManyRows are wrong
row_no_fault columns fields values row (fault.Ragged r) are wrong = wrong.0 (values_width columns fields values are)
row_no_fault columns fields values row (fault.NotUtf8 r c) are wrong = field_no_row columns fields values row (fault.NotUtf8 r c) are wrong
row_no_fault columns fields values row (fault.TooLongText r c) are wrong = field_no_row columns fields values row (fault.TooLongText r c) are wrong
row_no_fault columns fields values row (fault.BadNumber r c) are wrong = field_no_row columns fields values row (fault.BadNumber r c) are wrong
row_no_fault columns fields values row (fault.SameKey r e) are wrong = field_no_row columns fields values row (fault.SameKey r e) are wrong
row_no_fault columns fields values row fault.Memory are wrong = field_no_row columns fields values row fault.Memory are wrong

-- what a fault of a row says of it
RowKind : List Column → List (List ℕ) → ℕ → TableFault → Type 0
RowKind columns fields row told = ((told ≡ fault.Ragged row) × (length fields ≢ length columns)) ⊎ FaultsInField columns fields row told

row_kind : (columns : List Column) (fields : List (List ℕ)) (row : ℕ) (told : TableFault) → IsRowFault columns fields row told → RowKind columns fields row told
unfolding RowKind
row_kind columns fields row fault.Header wrong = inr wrong
row_kind columns fields row fault.TooManyRows wrong = inr wrong
row_kind columns fields row (fault.Ragged r) wrong = inl (ap fault.Ragged wrong.1, wrong.0)
row_kind columns fields row (fault.NotUtf8 r c) wrong = inr wrong
row_kind columns fields row (fault.TooLongText r c) wrong = inr wrong
row_kind columns fields row (fault.BadNumber r c) wrong = inr wrong
row_kind columns fields row (fault.SameKey r e) wrong = inr wrong
row_kind columns fields row fault.Memory wrong = inr wrong

-- a field that is refused stands behind no other
first_field : (columns : List Column) (fields : List (List ℕ)) (row : ℕ) (one other : TableFault) (a : FaultsInField columns fields row one) (b : FaultsInField columns fields row other)
    → a.at < b.at → ⊥
first_field columns fields row one other a b less =
    let there = value_before columns fields b.front a.at b.at a.column a.field less b.values a.column_is a.field_is in
    value_no_fault a.column a.field there.0 row (a.at + 1) one there.1 a.fault

fields_fault_one : (columns : List Column) (fields : List (List ℕ)) (row : ℕ) (one other : TableFault) → FaultsInField columns fields row one → FaultsInField columns fields row other
    → one ≡ other
fields_fault_one columns fields row one other a b = elim (cases_lt a.at b.at) as (λ _. one ≡ other) [
  | inl less ↦ absurd (first_field columns fields row one other a b less)
  | inr most ↦ elim (cases_lt b.at a.at) as (λ _. one ≡ other) [
    | inl less ↦ absurd (first_field columns fields row other one b a less)
    | inr also ↦
        let same : b.at ≡ a.at = omega arith in
        let column_is = rw same at b.column_is in
        let field_is = rw same at b.field_is in
        let column : b.column ≡ a.column = same_Some b.column a.column (sym column_is ∙ a.column_is) in
        let field : b.field ≡ a.field = same_Some b.field a.field (sym field_is ∙ a.field_is) in
        let wrong = rw (column, field, same) at b.fault in
        field_fault_one a.column a.field row (a.at + 1) one other (field_kind a.column a.field row (a.at + 1) one a.fault) (field_kind a.column a.field row (a.at + 1) other wrong)
  ]
]
  where
    same_Some : {A : Type 0} (x y : A) → ◌≡◌ {A = Option A} (Some x) (Some y) → x ≡ y
    same_Some x y e = cc

row_fault_one : (columns : List Column) (fields : List (List ℕ)) (row : ℕ) (one other : TableFault) → RowKind columns fields row one → RowKind columns fields row other → one ≡ other
unfolding RowKind
row_fault_one columns fields row one other (inl a) (inl b) = a.0 ∙ sym b.0
row_fault_one columns fields row one other (inl a) (inr b) = absurd (a.1 b.width)
row_fault_one columns fields row one other (inr a) (inl b) = absurd (b.1 a.width)
row_fault_one columns fields row one other (inr a) (inr b) = fields_fault_one columns fields row one other a b

-- ---- records

pub given_one : (columns : List Column) (records : List (List (List ℕ))) (one other : List (List Value)) → AllZip (AreValues columns) records one
    → AllZip (AreValues columns) records other → one ≡ other
given_one columns [] [] [] is also = refl
given_one columns [] [] (y ∷ ys) is also = absurd also
given_one columns [] (x ∷ xs) other is also = absurd is
given_one columns (r ∷ rs) [] other is also = absurd is
given_one columns (r ∷ rs) (x ∷ xs) [] is also = absurd also
given_one columns (r ∷ rs) (x ∷ xs) (y ∷ ys) is also =
    let head = values_one columns r x y is.0 also.0 in let tail = given_one columns rs xs ys is.1 also.1 in cc

-- the row of a record among others
record Split (columns : List Column) (before : List (List (List ℕ))) (fields : List (List ℕ)) (all : List (List Value)) : Type 0 where
  pub front : List (List Value)
  pub row : List Value
  pub rest : List (List Value)
  pub whole : all ≡ front ++ row ∷ rest
  pub given : AllZip (AreValues columns) before front
  pub values : AreValues columns fields row

split : (columns : List Column) (before more : List (List (List ℕ))) (fields : List (List ℕ)) (all : List (List Value)) → AllZip (AreValues columns) (before ++ fields ∷ more) all
    → Split columns before fields all
split columns [] more fields [] each = absurd each
split columns [] more fields (row ∷ rows) each = record { front = []; row = row; rest = rows; whole = refl; given = tt; values = each.0 }
split columns (b ∷ before) more fields [] each = absurd each
split columns (b ∷ before) more fields (row ∷ rows) each =
    let s = split columns before more fields rows each.1 in
    record { front = row ∷ s.front; row = s.row; rest = s.rest; whole = ap (λ (l : List (List Value)). row ∷ l) s.whole; given = (each.0, s.given); values = s.values }

-- the key of a row of a table is that of no earlier one
key_once : (key : List ℕ) (rows rest : List (List Value)) (row : List Value) (earlier : ℕ) → HaveDistinctKeys key (rows ++ row ∷ rest) → HasKeyOf key rows row earlier → ⊥
key_once key rows rest row earlier distinct has =
    let first = has.first in let within = has.within in
    let size : length (rows ++ row ∷ rest) ≡ length rows + suc (length rest) = length-append rows (row ∷ rest) in
    let old : key_at key (rows ++ row ∷ rest) (earlier - 1) ≡ key_at key rows (earlier - 1) = ap (key_of key) (get_or_append_left rows (row ∷ rest) [] (earlier - 1) (omega arith)) in
    let new : key_at key (rows ++ row ∷ rest) (length rows) ≡ key_of key row = ap (key_of key) (get_or-append_seam rows row rest []) in
    distinct has.some (earlier - 1) (length rows) (omega arith) (omega arith) (old ∙ has.same ∙ sym new)

-- a record of a table has no fault
pub no_fault_inside : (table : QTable) (before more : List (List (List ℕ))) (fields : List (List ℕ)) (all rows : List (List Value)) (told : TableFault)
    → AreRows table (before ++ fields ∷ more) all → AreRows table before rows → IsRecordFault table rows fields told → ⊥
no_fault_inside table before more fields all rows told given front = by_fault told
  where
    whole : all ≡ rows ++ (split table.columns before more fields all given.each).row ∷ (split table.columns before more fields all given.each).rest
    whole =
        let t = split table.columns before more fields all given.each in
        t.whole ∙ ap (λ (l : List (List Value)). l ++ t.row ∷ t.rest) (given_one table.columns before t.front rows t.given front.each)

    few : length rows < 200000
    few =
        let t = split table.columns before more fields all given.each in
        let size = ap length whole ∙ length-append rows (t.row ∷ t.rest) in
        omega (arith, given.few)

    by_row : (told : TableFault) → IsRowFault table.columns fields (length rows + 1) told → ⊥
    by_row told wrong =
        let t = split table.columns before more fields all given.each in row_no_fault table.columns fields t.row (length rows + 1) told t.values wrong

    by_key : (values : List Value) (earlier : ℕ) → AreValues table.columns fields values → HasKeyOf table.key rows values earlier → ⊥
    by_key values earlier are has =
        let t = split table.columns before more fields all given.each in
        let same = values_one table.columns fields values t.row are t.values in
        key_once table.key rows t.rest t.row earlier (subst (HaveDistinctKeys table.key) whole given.keys) (subst (λ (r : List Value). HasKeyOf table.key rows r earlier) same has)

    by_fault : (told : TableFault) → IsRecordFault table rows fields told → ⊥
    by_fault fault.Header wrong = by_row fault.Header wrong.1
    by_fault fault.TooManyRows wrong = absurd (omega (arith, few))
    by_fault (fault.Ragged r) wrong = by_row (fault.Ragged r) wrong.1
    by_fault (fault.NotUtf8 r c) wrong = by_row (fault.NotUtf8 r c) wrong.1
    by_fault (fault.TooLongText r c) wrong = by_row (fault.TooLongText r c) wrong.1
    by_fault (fault.BadNumber r c) wrong = by_row (fault.BadNumber r c) wrong.1
    by_fault (fault.SameKey r e) wrong = by_key wrong.2 e wrong.3 wrong.4
    by_fault fault.Memory wrong = by_row fault.Memory wrong.1

-- the row of which a key is, is one
earlier_one : (key : List ℕ) (rows : List (List Value)) (row : List Value) (one other : ℕ) → HaveDistinctKeys key rows → HasKeyOf key rows row one → HasKeyOf key rows row other → one ≡ other
earlier_one key rows row one other distinct a b =
    let first = a.first in let within = a.within in let also = b.first in let inside = b.within in
    elim (cases_lt one other) as (λ _. one ≡ other) [
      | inl less ↦ absurd (distinct a.some (one - 1) (other - 1) (omega arith) (omega arith) (a.same ∙ sym b.same))
      | inr most ↦ elim (cases_lt other one) as (λ _. one ≡ other) [
        | inl less ↦ absurd (distinct a.some (other - 1) (one - 1) (omega arith) (omega arith) (b.same ∙ sym a.same))
        | inr equal ↦ omega arith
      ]
    ]

-- what a fault of a record says of it
record KeyFault (table : QTable) (rows : List (List Value)) (fields : List (List ℕ)) (told : TableFault) : Type 0 where
  pub earlier : ℕ
  pub told_is : told ≡ fault.SameKey (length rows + 1) earlier
  pub few : length rows < 200000
  pub row : List Value
  pub values : AreValues table.columns fields row
  pub key : HasKeyOf table.key rows row earlier

RecordKind : QTable → List (List Value) → List (List ℕ) → TableFault → Type 0
RecordKind table rows fields told = ((told ≡ fault.TooManyRows) × (length rows ≡ 200000))
    ⊎ (((length rows < 200000) × IsRowFault table.columns fields (length rows + 1) told) ⊎ KeyFault table rows fields told)

record_kind : (table : QTable) (rows : List (List Value)) (fields : List (List ℕ)) (told : TableFault) → IsRecordFault table rows fields told → RecordKind table rows fields told
unfolding RecordKind
record_kind table rows fields fault.Header wrong = inr (inl wrong)
record_kind table rows fields fault.TooManyRows wrong = inl (refl, wrong)
record_kind table rows fields (fault.Ragged r) wrong = inr (inl wrong)
record_kind table rows fields (fault.NotUtf8 r c) wrong = inr (inl wrong)
record_kind table rows fields (fault.TooLongText r c) wrong = inr (inl wrong)
record_kind table rows fields (fault.BadNumber r c) wrong = inr (inl wrong)
record_kind table rows fields (fault.SameKey r e) wrong =
    inr (inr (record { earlier = e; told_is = ap (λ n. fault.SameKey n e) wrong.1; few = wrong.0; row = wrong.2; values = wrong.3; key = wrong.4 }))
record_kind table rows fields fault.Memory wrong = inr (inl wrong)

kinds_one : (table : QTable) (rows : List (List Value)) (fields : List (List ℕ)) (one other : TableFault) → HaveDistinctKeys table.key rows → RecordKind table rows fields one
    → RecordKind table rows fields other → one ≡ other
unfolding RecordKind
kinds_one table rows fields one other distinct (inl a) (inl b) = a.0 ∙ sym b.0
kinds_one table rows fields one other distinct (inl a) (inr (inl b)) = absurd (omega (arith, a.1, b.0))
kinds_one table rows fields one other distinct (inl a) (inr (inr b)) = absurd (omega (arith, a.1, b.few))
kinds_one table rows fields one other distinct (inr (inl a)) (inl b) = absurd (omega (arith, b.1, a.0))
kinds_one table rows fields one other distinct (inr (inl a)) (inr (inl b)) =
    let n = length rows + 1 in row_fault_one table.columns fields n one other (row_kind table.columns fields n one a.1) (row_kind table.columns fields n other b.1)
kinds_one table rows fields one other distinct (inr (inl a)) (inr (inr b)) = absurd (row_no_fault table.columns fields b.row (length rows + 1) one b.values a.1)
kinds_one table rows fields one other distinct (inr (inr a)) (inl b) = absurd (omega (arith, b.1, a.few))
kinds_one table rows fields one other distinct (inr (inr a)) (inr (inl b)) = absurd (row_no_fault table.columns fields a.row (length rows + 1) other a.values b.1)
kinds_one table rows fields one other distinct (inr (inr a)) (inr (inr b)) =
    let same = values_one table.columns fields b.row a.row b.values a.values in
    let key = subst (λ (r : List Value). HasKeyOf table.key rows r b.earlier) same b.key in
    let earlier = earlier_one table.key rows a.row a.earlier b.earlier distinct a.key key in
    a.told_is ∙ ap (λ e. fault.SameKey (length rows + 1) e) earlier ∙ sym b.told_is

-- a record has one fault
pub record_fault_one : (table : QTable) (rows : List (List Value)) (fields : List (List ℕ)) (one other : TableFault) → HaveDistinctKeys table.key rows
    → IsRecordFault table rows fields one → IsRecordFault table rows fields other → one ≡ other
record_fault_one table rows fields one other distinct a b =
    kinds_one table rows fields one other distinct (record_kind table rows fields one a) (record_kind table rows fields other b)
