-- bytes are one table or have one first fault, and never both
use Rattle.std.proofs.Common.{◌≡◌, ◌∙◌, ◌++◌, ◌⊎◌, ℕ, true, List, [], ◌∷◌, ap, append_assoc, refl, sym, subst, inl, inr, arith, true≢false, length, length-append}
use Rattle.std.proofs.lemmas.List.Elements.{All-cons, All-nil}
use Rattle.std.specs.List.{All, AllZip}
use Rattle.csv.specs.Machine.{Read}
use Rattle.csv.specs.Reading.{AreRecords, Reached, default_config}
use Rattle.csv.specs.declared.parser.Config.{Config}
use Rattle.csv.specs.declared.parser.State.{State}
use Rattle.csv.specs.declared.parser.State.TheVariants as state
use Rattle.base_kit.specs.declared.value.Value.{Value}
use Rattle.base_kit.specs.declared.value.Value.TheVariants.{Int, Text}
use Rattle.tiql_query.specs.declared.relation.Column.{Column}
use Rattle.tiql_query.specs.declared.relation.QTable.{QTable}
use Rattle.tables_csv.specs.declared.fault.TableFault.{TableFault}
use Rattle.tables_csv.specs.declared.fault.TableFault.TheVariants as fault
use Rattle.tables_csv.proofs.Readings.{records_more, records_one}
use Rattle.tables_csv.proofs.Refusals.{given_one, no_fault_inside, record_fault_one, values_count}
use Rattle.tables_csv.specs.Values.{AreValues, IsValue}
use Rattle.tables_csv.specs.WholeTables.{BeginsWith, FaultsInRecord, IsFirstFault, IsRecordFault, IsTableOf, is_marked, names_of, without_mark}
use Rattle.tiql_query.specs.Rows.{AreRowsOf, IsOfColumn}

same_tail : {A : Type 0} (x y : A) (xs ys : List A) → x ∷ xs ≡ y ∷ ys → xs ≡ ys
same_tail x y xs ys e = cc

-- ---- first records

-- all records begin with the first ones
begins_all : (cfg : Config) (s end : State) (xs rest : List ℕ) (front all : List (List (List ℕ))) → Reached cfg s xs front end rest → AreRecords cfg s xs all
    → (more : List (List (List ℕ))) × (all ≡ front ++ more)
unfolding Reached
begins_all cfg s end xs rest [] all reached are = (all, refl)
begins_all cfg s end xs rest (f ∷ front) all reached are =
    let p = reached.0 in
    let m = records_more cfg s xs p all reached.1 are in
    let deeper = begins_all cfg p.1 end p.2 rest front m.0 reached.3 m.2 in
    (deeper.0, m.1 ∙ ap (λ (l : List (List (List ℕ))). p.0 ∷ l) deeper.1 ∙ ap (λ (r : List (List ℕ)). r ∷ front ++ deeper.0) (sym reached.2))

-- of two lists of first records one begins with the other
OneBegins : List (List (List ℕ)) → List (List (List ℕ)) → Type 0
OneBegins one other = ((more : List (List (List ℕ))) × (one ≡ other ++ more)) ⊎ ((more : List (List (List ℕ))) × (other ≡ one ++ more))

begins_cons : (f g : List (List ℕ)) (one other : List (List (List ℕ))) → f ≡ g → OneBegins one other → OneBegins (f ∷ one) (g ∷ other)
unfolding OneBegins
begins_cons f g one other same (inl (more, is)) = inl (more, ap (λ (l : List (List (List ℕ))). f ∷ l) is ∙ ap (λ (r : List (List ℕ)). r ∷ other ++ more) same)
begins_cons f g one other same (inr (more, is)) = inr (more, ap (λ (l : List (List (List ℕ))). g ∷ l) is ∙ ap (λ (r : List (List ℕ)). r ∷ one ++ more) (sym same))

begins_both : (cfg : Config) (s end other_end : State) (xs rest other_rest : List ℕ) (one other : List (List (List ℕ))) → Reached cfg s xs one end rest
    → Reached cfg s xs other other_end other_rest → OneBegins one other
unfolding Reached OneBegins
begins_both cfg s end other_end xs rest other_rest [] other a b = inr (other, refl)
begins_both cfg s end other_end xs rest other_rest (f ∷ one) [] a b = inl (f ∷ one, refl)
begins_both cfg s end other_end xs rest other_rest (f ∷ one) (g ∷ other) a b =
    let p = a.0 in let q = b.0 in let first = a.1 in let second = b.1 in
    let same : q ≡ p = cc in
    let deeper = begins_both cfg p.1 end other_end p.2 rest other_rest one other a.3 (subst (λ (r : Read). Reached cfg r.1 r.2 other other_end other_rest) same b.3) in
    begins_cons f g one other (a.2 ∙ ap (λ (r : Read). r.0) (sym same) ∙ sym b.2) deeper

-- ---- lists with a last item

shorter : {A : Type 0} (xs ys : List A) (x y r : A) (rest : List A) → xs ++ x ∷ [] ≡ ys ++ y ∷ r ∷ rest → (more : List A) × (xs ≡ ys ++ y ∷ more)
shorter [] [] x y r rest e = cc
shorter [] (b ∷ ys) x y r rest e =
    let size = ap length e in let more = length-append ys (y ∷ r ∷ rest) in absurd (omega arith)
shorter (a ∷ xs) [] x y r rest e = let head : a ≡ y = cc in (xs, ap (λ h. h ∷ xs) head)
shorter (a ∷ xs) (b ∷ ys) x y r rest e =
    let head : a ≡ b = cc in
    let deeper = shorter xs ys x y r rest (same_tail a b (xs ++ x ∷ []) (ys ++ y ∷ r ∷ rest) e) in
    (deeper.0, ap (λ l. a ∷ l) deeper.1 ∙ ap (λ h. h ∷ ys ++ y ∷ deeper.0) head)

same_last : {A : Type 0} (xs ys : List A) (x y : A) → xs ++ x ∷ [] ≡ ys ++ y ∷ [] → (xs ≡ ys) × (x ≡ y)
same_last [] [] x y e = (refl, cc)
same_last [] (b ∷ ys) x y e = let size = ap length e in let more = length-append ys (y ∷ []) in absurd (omega arith)
same_last (a ∷ xs) [] x y e = let size = ap length e in let more = length-append xs (x ∷ []) in absurd (omega arith)
same_last (a ∷ xs) (b ∷ ys) x y e =
    let head : a ≡ b = cc in
    let deeper = same_last xs ys x y (same_tail a b (xs ++ x ∷ []) (ys ++ y ∷ []) e) in
    (ap (λ l. a ∷ l) deeper.0 ∙ ap (λ h. h ∷ ys) head, deeper.1)

-- ---- tables

-- bytes are a table of one list of rows
pub table_one : (bytes : List ℕ) (table : QTable) (one other : List (List Value)) → IsTableOf bytes table one → IsTableOf bytes table other → one ≡ other
table_one bytes table one other a b =
    let names = names_of table.columns in
    let same = same_tail names names a.records b.records (records_one default_config state.StartRecord (without_mark bytes) _ _ a.all b.all) in
    given_one table.columns b.records one other (rw same at a.given.each) b.given.each

widths : (columns : List Column) (records : List (List (List ℕ))) (rows : List (List Value)) → AllZip (AreValues columns) records rows
    → All (λ row. length row ≡ length columns) rows
widths columns [] [] each = All-nil (λ (row : List Value). length row ≡ length columns)
widths columns [] (row ∷ rows) each = absurd each
widths columns (fields ∷ records) [] each = absurd each
widths columns (fields ∷ records) (row ∷ rows) each =
    All-cons (λ (r : List Value). length r ≡ length columns) row rows (values_count columns fields row each.0) (widths columns records rows each.1)

-- each row of a table has a value for each column
pub table-widths : (bytes : List ℕ) (table : QTable) (rows : List (List Value)) → IsTableOf bytes table rows → All (λ row. length row ≡ length table.columns) rows
table-widths bytes table rows is = widths table.columns is.records rows is.given.each

-- a table may have its rows
value_of_column : (column : Column) (field : List ℕ) (value : Value) → IsValue column field value → IsOfColumn column value
value_of_column column field (Int number) is = (is.0, is.1.size)
value_of_column column field (Text text) is = (is.0, rw is.1 is.2, rw is.1 is.3)

row_of_columns : (columns : List Column) (fields : List (List ℕ)) (row : List Value) → AreValues columns fields row → AllZip IsOfColumn columns row
row_of_columns [] [] [] are = tt
row_of_columns [] [] (value ∷ row) are = absurd are
row_of_columns [] (field ∷ fields) row are = absurd are
row_of_columns (column ∷ columns) [] row are = absurd are
row_of_columns (column ∷ columns) (field ∷ fields) [] are = absurd are
row_of_columns (column ∷ columns) (field ∷ fields) (value ∷ row) are = (value_of_column column field value are.0, row_of_columns columns fields row are.1)

rows_of_columns : (columns : List Column) (records : List (List (List ℕ))) (rows : List (List Value)) → AllZip (AreValues columns) records rows
    → All (λ row. AllZip IsOfColumn columns row) rows
rows_of_columns columns [] [] each = All-nil (λ (row : List Value). AllZip IsOfColumn columns row)
rows_of_columns columns [] (row ∷ rows) each = absurd each
rows_of_columns columns (fields ∷ records) [] each = absurd each
rows_of_columns columns (fields ∷ records) (row ∷ rows) each =
    All-cons (λ (r : List Value). AllZip IsOfColumn columns r) row rows (row_of_columns columns fields row each.0) (rows_of_columns columns records rows each.1)

pub table-rows : (bytes : List ℕ) (table : QTable) (rows : List (List Value)) → IsTableOf bytes table rows → AreRowsOf table rows
table-rows bytes table rows is = record { each = rows_of_columns table.columns is.records rows is.given.each; few = is.given.few; keys = is.given.keys }

header_no_fault : (bytes : List ℕ) (table : QTable) (rows : List (List Value)) → IsTableOf bytes table rows → BeginsWith (without_mark bytes) (names_of table.columns ∷ [])
unfolding Reached
header_no_fault bytes table rows is = let all = is.all in let p = all.2.0 in (p.1, p.2, (p, all.2.1, all.2.2, (refl, refl)))

record_no_fault : (bytes : List ℕ) (table : QTable) (rows : List (List Value)) (told : TableFault) → IsTableOf bytes table rows → FaultsInRecord (without_mark bytes) table told → ⊥
record_no_fault bytes table rows told is faults =
    let names = names_of table.columns in
    let begins = faults.begins in
    let m = begins_all default_config state.StartRecord begins.0 (without_mark bytes) begins.1 (names ∷ faults.records ++ faults.fields ∷ []) (names ∷ is.records) begins.2 is.all in
    let tail = same_tail names names is.records ((faults.records ++ faults.fields ∷ []) ++ m.0) m.1 in
    let whole = tail ∙ append_assoc faults.records (faults.fields ∷ []) m.0 in
    no_fault_inside table faults.records m.0 faults.fields rows faults.rows told (rw whole at is.given) faults.before faults.fault

-- a table has no fault
pub table_no_fault : (bytes : List ℕ) (table : QTable) (rows : List (List Value)) (told : TableFault) → IsTableOf bytes table rows → IsFirstFault bytes table told → ⊥
table_no_fault bytes table rows fault.Header is (inl marked) = true≢false (sym marked ∙ is.unmarked)
table_no_fault bytes table rows fault.Header is (inr lacks) = lacks (header_no_fault bytes table rows is)
table_no_fault bytes table rows fault.TooManyRows is wrong = record_no_fault bytes table rows fault.TooManyRows is wrong
table_no_fault bytes table rows (fault.Ragged r) is wrong = record_no_fault bytes table rows (fault.Ragged r) is wrong
table_no_fault bytes table rows (fault.NotUtf8 r c) is wrong = record_no_fault bytes table rows (fault.NotUtf8 r c) is wrong
table_no_fault bytes table rows (fault.TooLongText r c) is wrong = record_no_fault bytes table rows (fault.TooLongText r c) is wrong
table_no_fault bytes table rows (fault.BadNumber r c) is wrong = record_no_fault bytes table rows (fault.BadNumber r c) is wrong
table_no_fault bytes table rows (fault.SameKey r e) is wrong = record_no_fault bytes table rows (fault.SameKey r e) is wrong
table_no_fault bytes table rows fault.Memory is wrong = record_no_fault bytes table rows fault.Memory is wrong

-- ---- faults

-- what a first fault says of the bytes
FaultKind : List ℕ → QTable → TableFault → Type 0
FaultKind bytes table told = ((told ≡ fault.Header) × ((is_marked (without_mark bytes) ≡ true) ⊎ (BeginsWith (without_mark bytes) (names_of table.columns ∷ []) → ⊥)))
    ⊎ FaultsInRecord (without_mark bytes) table told

fault_kind : (bytes : List ℕ) (table : QTable) (told : TableFault) → IsFirstFault bytes table told → FaultKind bytes table told
unfolding FaultKind
fault_kind bytes table fault.Header wrong = inl (refl, wrong)
fault_kind bytes table fault.TooManyRows wrong = inr wrong
fault_kind bytes table (fault.Ragged r) wrong = inr wrong
fault_kind bytes table (fault.NotUtf8 r c) wrong = inr wrong
fault_kind bytes table (fault.TooLongText r c) wrong = inr wrong
fault_kind bytes table (fault.BadNumber r c) wrong = inr wrong
fault_kind bytes table (fault.SameKey r e) wrong = inr wrong
fault_kind bytes table fault.Memory wrong = inr wrong

header_or_record : (text : List ℕ) (table : QTable) (told : TableFault) → (is_marked text ≡ true) ⊎ (BeginsWith text (names_of table.columns ∷ []) → ⊥) → FaultsInRecord text table told → ⊥
unfolding Reached
header_or_record text table told (inl marked) faults = true≢false (sym marked ∙ faults.unmarked)
header_or_record text table told (inr lacks) faults =
    let begins = faults.begins in let p = begins.2.0 in lacks (p.1, p.2, (p, begins.2.1, begins.2.2, (refl, refl)))

-- two refused records of which one stands behind the other
behind : (text : List ℕ) (table : QTable) (one other : TableFault) (a : FaultsInRecord text table one) (b : FaultsInRecord text table other) (more : List (List (List ℕ)))
    → a.records ++ a.fields ∷ [] ≡ b.records ++ b.fields ∷ more → one ≡ other
behind text table one other a b [] e =
    let same = same_last a.records b.records a.fields b.fields e in
    let rows = given_one table.columns b.records a.rows b.rows (rw same.0 at a.before.each) b.before.each in
    let wrong = subst (λ (rs : List (List Value)). IsRecordFault table rs b.fields one) rows (subst (λ (f : List (List ℕ)). IsRecordFault table a.rows f one) same.1 a.fault) in
    record_fault_one table b.rows b.fields one other b.before.keys wrong b.fault
behind text table one other a b (r ∷ more) e =
    let front = shorter a.records b.records a.fields b.fields r more e in
    absurd (no_fault_inside table b.records front.0 b.fields a.rows b.rows other (rw front.1 at a.before) b.before b.fault)

records_fault_one : (text : List ℕ) (table : QTable) (one other : TableFault) → FaultsInRecord text table one → FaultsInRecord text table other → one ≡ other
unfolding OneBegins
records_fault_one text table one other a b =
    let names = names_of table.columns in
    let x = a.begins in let y = b.begins in
    let front = a.records ++ a.fields ∷ [] in let back = b.records ++ b.fields ∷ [] in
    elim (begins_both default_config state.StartRecord x.0 y.0 text x.1 y.1 (names ∷ front) (names ∷ back) x.2 y.2) as (λ _. one ≡ other) [
      | inl longer ↦
          behind text table one other a b longer.0 (same_tail names names front (back ++ longer.0) longer.1 ∙ append_assoc b.records (b.fields ∷ []) longer.0)
      | inr longer ↦
          sym (behind text table other one b a longer.0 (same_tail names names back (front ++ longer.0) longer.1 ∙ append_assoc a.records (a.fields ∷ []) longer.0))
    ]

faults_one : (bytes : List ℕ) (table : QTable) (one other : TableFault) → FaultKind bytes table one → FaultKind bytes table other → one ≡ other
unfolding FaultKind
faults_one bytes table one other (inl a) (inl b) = a.0 ∙ sym b.0
faults_one bytes table one other (inl a) (inr b) = absurd (header_or_record (without_mark bytes) table other a.1 b)
faults_one bytes table one other (inr a) (inl b) = absurd (header_or_record (without_mark bytes) table one b.1 a)
faults_one bytes table one other (inr a) (inr b) = records_fault_one (without_mark bytes) table one other a b

-- bytes have one first fault
pub fault_one : (bytes : List ℕ) (table : QTable) (one other : TableFault) → IsFirstFault bytes table one → IsFirstFault bytes table other → one ≡ other
fault_one bytes table one other a b = faults_one bytes table one other (fault_kind bytes table one a) (fault_kind bytes table other b)
