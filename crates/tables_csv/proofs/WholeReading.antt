-- tables, from what a reader of their bytes gives
use Rattle.std.proofs.Common.{◌≡◌, ◌∙◌, ◌++◌, ℕ, false, List, [], ◌∷◌, Some, Bor, sym, subst, inr}
use Rattle.csv.specs.Reading.{Reached, default_config, reader_state, source_of}
use Rattle.csv.specs.declared.parser.State.{State}
use Rattle.csv.specs.declared.parser.State.TheVariants as state
use Rattle.csv.specs.declared.reader.Reader.{Reader}
use Rattle.base_kit.specs.declared.value.Value.{Value}
use Rattle.tiql_query.specs.declared.relation.QTable.{QTable}
use Rattle.tables_csv.specs.declared.fault.TableFault.{TableFault}
use Rattle.tables_csv.specs.declared.fault.TableFault.TheVariants as fault
use Rattle.std.proofs.lemmas.Option.{same_Some}
use Rattle.tables_csv.specs.Passes.{GivesFault, GivesRows, LacksFirst, Passed}
use Rattle.tables_csv.specs.Records.{slice_bytes}
use Rattle.tables_csv.specs.WholeTables.{FaultsInRecord, IsFirstFault, IsTableOf, is_marked, names_of, without_mark}

module _ (start after : Reader (Bor (List ℕ))) (bytes text : List ℕ) (table : QTable) (text_is : text ≡ without_mark bytes) (source : source_of slice_bytes start ≡ Some text)
    (begins : reader_state start ≡ state.StartRecord) where
  -- a first record and then more of them
  more_reached : (first : List (List ℕ)) (s mid end : State) (from to rest : List ℕ) (records : List (List (List ℕ))) → Reached default_config s from (first ∷ []) mid to
      → Reached default_config mid to records end rest → Reached default_config s from (first ∷ records) end rest
  unfolding Reached
  more_reached first s mid end from to rest records one more =
      (one.0, one.1, one.2, rw (one.3.0, one.3.1) more)

  first_reached : (passed : Passed start after (names_of table.columns ∷ [])) → Reached default_config state.StartRecord text (names_of table.columns ∷ []) (reader_state after) passed.to
  first_reached passed =
      let same : passed.from ≡ text = same_Some passed.from text (sym passed.source ∙ source) in
      rw (same, begins) at passed.reached

  pub table_read : (rows : List (List Value)) → is_marked text ≡ false → Passed start after (names_of table.columns ∷ []) → GivesRows table after rows → IsTableOf bytes table rows
  table_read rows unmarked passed gives =
      let same : gives.left.bytes ≡ passed.to = same_Some gives.left.bytes passed.to (sym gives.left.source ∙ passed.left) in
      let all = gives.left.all in
      let rest : Reached default_config (reader_state after) passed.to gives.records all.0 all.1 =
      subst (λ (l : List ℕ). Reached default_config (reader_state after) l gives.records all.0 all.1) same all.2 in
      record {
        unmarked = rw text_is at unmarked;
        records = gives.records;
        all = rw (← text_is) (all.0, all.1, more_reached (names_of table.columns) state.StartRecord (reader_state after) all.0 text passed.to all.1 gives.records (first_reached passed) rest, all.3);
        given = gives.given;
      }

  record_fault : (told : TableFault) → is_marked text ≡ false → Passed start after (names_of table.columns ∷ []) → GivesFault table after told → FaultsInRecord (without_mark bytes) table told
  record_fault told unmarked passed gives =
      let more = gives.passed in
      let same : more.from ≡ passed.to = same_Some more.from passed.to (sym more.source ∙ passed.left) in
      let rest = rw same at more.reached in
      rw (← text_is) (record {
        unmarked = unmarked;
        records = gives.records;
        rows = gives.rows;
        before = gives.before;
        fields = gives.fields;
        begins = (reader_state gives.now, more.to, more_reached (names_of table.columns) state.StartRecord (reader_state after) (reader_state gives.now) text passed.to more.to (gives.records ++ gives.fields ∷ []) (first_reached passed) rest);
        fault = gives.fault;
      })

  first_fault : (told : TableFault) → FaultsInRecord (without_mark bytes) table told → IsFirstFault bytes table told
  first_fault fault.Header faults = absurd faults.fault.1.fault
  first_fault fault.TooManyRows faults = faults
  first_fault (fault.Ragged r) faults = faults
  first_fault (fault.NotUtf8 r c) faults = faults
  first_fault (fault.TooLongText r c) faults = faults
  first_fault (fault.BadNumber r c) faults = faults
  first_fault (fault.SameKey r e) faults = faults
  first_fault fault.Memory faults = faults

  pub table_refused : (told : TableFault) → is_marked text ≡ false → Passed start after (names_of table.columns ∷ []) → GivesFault table after told → IsFirstFault bytes table told
  table_refused told unmarked passed gives = first_fault told (record_fault told unmarked passed gives)

  pub header_refused : LacksFirst start (names_of table.columns) → IsFirstFault bytes table fault.Header
  header_refused lacks = inr (λ (s, rest, reached). lacks text source s rest (rw (begins, text_is) reached))
