-- the records that a reader goes past
use Rattle.std.proofs.Common.{◌≡◌, ◌∙◌, ◌++◌, ℕ, Bool, true, false, List, [], ◌∷◌, Some, Bor, ap, refl, subst, sym, inl}
use Rattle.std.proofs.lemmas.Option.{same_Some}
use Rattle.csv.proofs.ReadFacts.{reached-more, rows-end, rows-more}
use Rattle.csv.specs.Machine.{Read, next_record}
use Rattle.csv.specs.Reading.{Reached, ReadRecord, default_config, reader_state, took_first}
use Rattle.csv.specs.declared.parser.State.{State}
use Rattle.csv.specs.declared.reader.Reader.{Reader}
use Rattle.tables_csv.proofs.Readings.{records_end, records_ended}
use Rattle.tables_csv.specs.Passes.{LacksFirst, Passed, Passes, TakesHeader}
use Rattle.tables_csv.specs.Records.{HasLeft, IsOpen, slice_bytes}

-- what a read does to an open reader
pub passes : (old new : Reader (Bor (List ℕ))) (found : Bool) (fields : List (List ℕ)) → IsOpen old → ReadRecord slice_bytes old new found fields
    → took_first new ≡ true → Passes old new found fields
unfolding Reached
passes old new true fields reader read took =
    let m = rows-more slice_bytes old new fields default_config (reader_state old) reader.bytes reader.bytes [] reader.config reader.source (refl, refl) read in (
      record { bytes = m.0; source = m.1; config = read.2 ∙ reader.config; trim = read.3 ∙ reader.trim; ready = inl took },
      record { from = reader.bytes; to = m.0; source = reader.source; left = m.1; reached = m.2 },
    )
passes old new false fields reader read took = record {
  bytes = reader.bytes;
  source = reader.source;
  all = records_end default_config (reader_state old) reader.bytes (rows-end slice_bytes old new fields default_config reader.bytes reader.config reader.source read);
}

-- no record yet
pub passed_none : (reader : Reader (Bor (List ℕ))) → IsOpen reader → Passed reader reader []
unfolding Reached
passed_none reader is = record { from = is.bytes; to = is.bytes; source = is.source; left = is.source; reached = (refl, refl) }

-- one more record
pub passed_more : (start old new : Reader (Bor (List ℕ))) (records : List (List (List ℕ))) (fields : List (List ℕ)) → Passed start old records → Passed old new (fields ∷ [])
    → Passed start new (records ++ fields ∷ [])
unfolding Reached
passed_more start old new records fields front last =
    let same : last.from ≡ front.to = same_Some last.from front.to (sym last.source ∙ front.left) in
    let p = last.reached.0 in
    let here : next_record default_config (reader_state old) [] [] front.to ≡ Some p = ap (next_record default_config (reader_state old) [] []) (sym same) ∙ last.reached.1 in
    let whole = reached-more default_config (reader_state start) (reader_state old) front.from front.to records p front.reached here in
    record {
      from = front.from;
      to = last.to;
      source = front.source;
      left = last.left;
      reached = rw (last.reached.2, ← last.reached.3.0, ← last.reached.3.1) whole;
    }

-- no record is left
pub passed_all : (start old : Reader (Bor (List ℕ))) (records : List (List (List ℕ))) → Passed start old records → HasLeft old [] → HasLeft start records
passed_all start old records front left =
    let same : left.bytes ≡ front.to = same_Some left.bytes front.to (sym left.source ∙ front.left) in
    record {
      bytes = front.from;
      source = front.source;
      all = (reader_state old, front.to, front.reached, ap (next_record default_config (reader_state old) [] []) (sym same) ∙ records_ended default_config (reader_state old) left.bytes left.all);
    }

-- the first record is one
other_record : (state after next : State) (from to rest : List ℕ) (fields names : List (List ℕ)) → Reached default_config state from (fields ∷ []) after to
    → Reached default_config state from (names ∷ []) next rest → fields ≡ names
unfolding Reached
other_record state after next from to rest fields names is also =
    let p = is.0 in let q = also.0 in let first = is.1 in let second = also.1 in
    let same : p ≡ q = cc in
    is.2 ∙ ap (λ (r : Read). r.0) same ∙ sym also.2

pub lacks_other : (old new : Reader (Bor (List ℕ))) (fields names : List (List ℕ)) → Passed old new (fields ∷ []) → (fields ≡ names → ⊥) → LacksFirst old names
lacks_other old new fields names passed other from source after rest reached =
    let same : passed.from ≡ from = same_Some passed.from from (sym passed.source ∙ source) in
    other (other_record (reader_state old) (reader_state new) after from passed.to rest fields names
    (subst (λ (l : List ℕ). Reached default_config (reader_state old) l (fields ∷ []) (reader_state new) passed.to) same passed.reached) reached)

pub lacks_all : (old : Reader (Bor (List ℕ))) (names : List (List ℕ)) → HasLeft old [] → LacksFirst old names
unfolding Reached
lacks_all old names left from source after rest reached =
    let same : left.bytes ≡ from = same_Some left.bytes from (sym left.source ∙ source) in
    let none = ap (next_record default_config (reader_state old) [] []) (sym same) ∙ records_ended default_config (reader_state old) left.bytes left.all in
    let some = reached.1 in
    cc

-- a first record, by a test that tells whether it is the names
pub header_told : (old new : Reader (Bor (List ℕ))) (fields names : List (List ℕ)) (test : Bool) → IsOpen new → Passed old new (fields ∷ [])
    → (test ≡ true → fields ≡ names) → (fields ≡ names → test ≡ true) → TakesHeader old new test names
header_told old new fields names true open_ passed is tells = (open_, subst (λ (f : List (List ℕ)). Passed old new (f ∷ [])) (is refl) passed)
header_told old new fields names false open_ passed is tells = lacks_other old new fields names passed (λ same. let no : false ≡ true = tells same in cc)
