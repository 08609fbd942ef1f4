-- lines of a table: what `csv` writes of fields without marks, and reads of it
use Rattle.std.proofs.Common.{◌≡◌, ◌∙◌, ◌+◌, ◌<◌, ◌++◌, ℕ, suc, false, List, [], ◌∷◌, Some, ap, refl, arith, length, get_or, take}
use Rattle.std.proofs.lemmas.Bool.{ne_eqb}
use Rattle.std.proofs.lemmas.List.{append-nil, take_more}
use Rattle.std.specs.List.{flat_map, join_with_byte, list_any}
use Rattle.csv.proofs.RoundTrip.{read-write}
use Rattle.csv.specs.Machine.{next_record}
use Rattle.csv.specs.Reading.{AreRecords, default_config}
use Rattle.csv.specs.Writing.{default_writer, field_text, fields_text, is_blank, needs_byte, row_text}
use Rattle.csv.specs.declared.parser.State.TheVariants as state
use Rattle.tables_csv.proofs.Readings.{records_cons, records_end}

-- the fields with a comma between each two, and LF
abbrev pub line : List (List ℕ) → List ℕ
line fields = join_with_byte 44 fields ++ 10 ∷ []

-- the field is not empty, and has no comma, quote or line mark
pub record IsPlain (field : List ℕ) : Type 0 where
  pub some : 0 < length field
  pub unmarked : list_any (needs_byte default_writer) field ≡ false

-- each of the fields is so
abbrev pub ArePlain : List (List ℕ) → Type 0
ArePlain [] = Unit {0}
ArePlain (field ∷ fields) = IsPlain field × ArePlain fields

plain_text : (field : List ℕ) → IsPlain field → field_text default_writer field ≡ field
plain_text field plain = rw plain.unmarked refl

-- what is written of the fields of a record
plain_body : (first : List ℕ) (rest : List (List ℕ)) → ArePlain (first ∷ rest)
    → field_text default_writer first ++ fields_text default_writer rest ≡ join_with_byte 44 (first ∷ rest)
unfolding fields_text
plain_body first [] plain = rw (plain_text first plain.0) (append-nil first)
plain_body first (next ∷ rest) plain =
    rw (plain_text first plain.0) (ap (λ (l : List ℕ). first ++ 44 ∷ l) (plain_body next rest plain.1))

full : (first : List ℕ) (rest : List (List ℕ)) → IsPlain first → is_blank default_writer (first ∷ rest) ≡ false
unfolding is_blank
full [] [] plain = absurd (omega (arith, plain.some))
full (byte ∷ bytes) [] plain = rw (plain_text (byte ∷ bytes) plain) (ne_eqb (suc (length bytes)) 0 (λ e. cc e))
full first (next ∷ rest) plain = refl

-- a record of plain fields is a line
pub plain_line : (fields : List (List ℕ)) → 0 < length fields → ArePlain fields → row_text default_writer fields ≡ line fields
plain_line [] some plain = absurd (omega arith)
plain_line (first ∷ rest) some plain =
    rw (full first rest plain.0) (ap (λ (l : List ℕ). l ++ 10 ∷ []) (plain_body first rest plain))

-- a record is the first one of a text that begins with what is written of it
row_read : (first : List ℕ) (rest : List (List ℕ)) (tail : List ℕ)
    → next_record default_config state.StartRecord [] [] (row_text default_writer (first ∷ rest) ++ tail) ≡ Some (first ∷ rest, state.StartRecord, tail)
row_read first rest tail = read-write (first ∷ rest) tail

-- records, each of which has a field
abbrev pub AreFull : List (List (List ℕ)) → Type 0
AreFull [] = Unit {0}
AreFull (fields ∷ records) = (0 < length fields) × AreFull records

-- what is written of records is read as them
pub rows_read : (records : List (List (List ℕ))) → AreFull records → AreRecords default_config state.StartRecord (flat_map (row_text default_writer) records) records
unfolding next_record
rows_read [] some = records_end default_config state.StartRecord [] refl
rows_read ([] ∷ records) some = absurd (omega (arith, some.0))
rows_read ((first ∷ rest) ∷ records) some =
    records_cons default_config state.StartRecord (row_text default_writer (first ∷ rest) ++ flat_map (row_text default_writer) records)
    (first ∷ rest, state.StartRecord, flat_map (row_text default_writer) records) records (row_read first rest (flat_map (row_text default_writer) records))
    (rows_read records some.1)

-- one more field of a record
pub field_pushed : (before after : List (List ℕ)) (partial bytes : List ℕ) (fields : List (List ℕ)) (i : ℕ) (field : List ℕ) → after ≡ before ++ ((partial ++ bytes) ∷ [])
    → before ≡ take i fields → partial ≡ [] → bytes ≡ field → i < length fields → field ≡ get_or fields i field → after ≡ take (i + 1) fields
field_pushed before after partial bytes fields i field pushed front none same there is =
    pushed ∙ rw (front, none, same, take_more fields i field there, ← is) refl
