-- tables that are loaded are tables of the query, and the first that is refused stops the loading
use Rattle.std.proofs.Common.{◌≡◌, ℕ, ◌+◌, ◌<◌, ◌≤◌, List, [], ◌∷◌, ◌++◌, length, take, drop, get_or, sym, ◌∙◌, ap, subst, inl, inr, arith}
use Rattle.std.specs.Prelude.{false, Result, Ok, Err, Some, IfSome, All}
use Rattle.std.specs.List.{AllZip}
use Rattle.std.proofs.lemmas.List.{length-take, take-append-drop, take_more, take_all, drop_more}
use Rattle.std.proofs.lemmas.List.Elements.{All-cons, All-nil}
use Rattle.base_kit.proofs.Results.{Ok-Err}
use Rattle.tiql_query.specs.declared.relation.QTable.{QTable}
use Rattle.outside_io.specs.Shelves.{Contents, Failures, NextFails, later}
use Rattle.tiql_query.specs.Rows.{AreRowsOf}
use Rattle.tables_csv.proofs.Outcomes.{table-rows}
use Rattle.world_def.specs.Columns.{Rows, Tables}
use Rattle.job_intake.specs.declared.refusal.Refusal.{Refusal}
use Rattle.job_intake.specs.declared.refusal.Stop.{Stop}
use Rattle.job_intake.specs.declared.refusal.Stop.TheVariants as stop
use Rattle.job_intake.specs.Loading.{TableComes, AreLoaded, IsFirstRefused, LoadComes}
use Rattle.job_intake.specs.Steps.{Follows}
use Rattle.job_intake.specs.Visits.{Visit, after_fetches}
use Rattle.job_intake.specs.Words.{table_path}

-- a table that is there is there whatever the counts are
pub table_later : (v w : Visit) (folder : List ℕ) (table : QTable) (rows : Rows) → v.held ≡ w.held → v.fails ≡ w.fails → TableComes v folder table (Ok rows) → TableComes w folder table (Ok rows)
table_later v w folder table rows same fails (inl read) =
    inl (read.0, (subst (λ (f : Failures). NextFails f false) fails read.1.0, subst (λ (h : Contents). IfSome h (λ held. held (table_path folder table.name) ≡ Some read.0)) same read.1.1, read.1.2), read.2)
table_later v w folder table rows same fails (inr refused) = absurd (Ok-Err rows refused.0 refused.2)

-- and so are several
pub loaded_later : (v w : Visit) (folder : List ℕ) (tables : List QTable) (made : Tables) → v.held ≡ w.held → v.fails ≡ w.fails → AreLoaded v folder tables made → AreLoaded w folder tables made
loaded_later v w folder [] [] same fails all = tt
loaded_later v w folder [] (rows ∷ made) same fails all = absurd all
loaded_later v w folder (table ∷ tables) [] same fails all = absurd all
loaded_later v w folder (table ∷ tables) (rows ∷ made) same fails all =
    (table_later v w folder table rows same fails all.0, loaded_later (after_fetches 1 v) (after_fetches 1 w) folder tables made same (ap later fails) all.1)

few_rows : (tables : List QTable) (made : Tables) → AllZip AreRowsOf tables made → All (λ rows. length rows ≤ 200000) made
few_rows [] [] all = All-nil (λ (rows : Rows). length rows ≤ 200000)
few_rows [] (rows ∷ made) all = absurd all
few_rows (table ∷ tables) [] all = absurd all
few_rows (table ∷ tables) (rows ∷ made) all = All-cons (λ (r : Rows). length r ≤ 200000) rows made all.0.few (few_rows tables made all.1)

module _ (folder : List ℕ) where
  rows_loaded : (v : Visit) (table : QTable) (rows : Rows) → TableComes v folder table (Ok rows) → AreRowsOf table rows
  rows_loaded v table rows (inl read) = table-rows read.0 table rows read.2
  rows_loaded v table rows (inr refused) = absurd (Ok-Err rows refused.0 refused.2)

  -- they are tables that the query may have
  pub tables_loaded : (v : Visit) (tables : List QTable) (made : Tables) → AreLoaded v folder tables made → AllZip AreRowsOf tables made
  tables_loaded v [] [] all = tt
  tables_loaded v [] (rows ∷ made) all = absurd all
  tables_loaded v (table ∷ tables) [] all = absurd all
  tables_loaded v (table ∷ tables) (rows ∷ made) all = (rows_loaded v table rows all.0, tables_loaded (after_fetches 1 v) tables made all.1)

  pub few_loaded : (v : Visit) (tables : List QTable) (made : Tables) → AreLoaded v folder tables made → All (λ rows. length rows ≤ 200000) made
  few_loaded v tables made all = few_rows tables made (tables_loaded v tables made all)

  push_loaded : (v : Visit) (tables : List QTable) (made : Tables) (table : QTable) (rows : Rows) → AreLoaded v folder tables made → TableComes (after_fetches (length tables) v) folder table (Ok rows) → AreLoaded v folder (tables ++ table ∷ []) (made ++ rows ∷ [])
  push_loaded v [] [] table rows all one = (one, tt)
  push_loaded v [] (r ∷ made) table rows all one = absurd all
  push_loaded v (t ∷ tables) [] table rows all one = absurd all
  push_loaded v (t ∷ tables) (r ∷ made) table rows all one = (all.0, push_loaded (after_fetches 1 v) tables made table rows all.1 one)

module _ (v : Visit) (folder : List ℕ) where
  so_many : (tables : List QTable) (i : ℕ) → i < length tables → length (take i tables) ≡ i
  so_many tables i lt = omega (arith, length-take i tables)

  pub loaded_more : (tables : List QTable) (i : ℕ) (table : QTable) (made more : Tables) (rows : Rows) → i < length tables → table ≡ get_or tables i table → more ≡ made ++ rows ∷ []
      → AreLoaded v folder (take i tables) made → TableComes (after_fetches i v) folder table (Ok rows) → AreLoaded v folder (take (i + 1) tables) more
  loaded_more tables i table made more rows lt is grown all one =
      let named : take (i + 1) tables ≡ take i tables ++ table ∷ [] = take_more tables i table lt ∙ ap (λ (t : QTable). take i tables ++ t ∷ []) (sym is) in
      let there = subst (λ (n : ℕ). TableComes (after_fetches n v) folder table (Ok rows)) (sym (so_many tables i lt)) one in
      subst (λ (ts : List QTable). AreLoaded v folder ts more) (sym named)
      (subst (λ (m : Tables). AreLoaded v folder (take i tables ++ table ∷ []) m) (sym grown) (push_loaded folder v (take i tables) made table rows all there))

  refused_at : (tables : List QTable) (i : ℕ) (table : QTable) (made : Tables) (why : Refusal) → i < length tables → table ≡ get_or tables i table → AreLoaded v folder (take i tables) made → TableComes (after_fetches i v) folder table (Err why) → IsFirstRefused v folder tables why
  refused_at tables i table made why lt is loaded refused = record {
    before = take i tables;
    table = table;
    behind = drop (i + 1) tables;
    are = sym (take-append-drop i tables) ∙ ap (λ (l : List QTable). take i tables ++ l) (drop_more tables i table lt ∙ ap (λ (t : QTable). t ∷ drop (i + 1) tables) (sym is));
    made = made;
    loaded = loaded;
    refused = subst (λ (n : ℕ). TableComes (after_fetches n v) folder table (Err why)) (sym (so_many tables i lt)) refused;
  }

  -- the table at which the loading stops
  pub stops_at : (tables : List QTable) (i : ℕ) (table : QTable) (made : Tables) (why : Stop) → i < length tables → table ≡ get_or tables i table → AreLoaded v folder (take i tables) made
      → Follows {A = Rows} (TableComes (after_fetches i v) folder table) (Err why) → Follows {A = Tables} (LoadComes v folder tables) (Err why)
  stops_at tables i table made (stop.Refused why) lt is loaded refused = refused_at tables i table made why lt is loaded refused
  stops_at tables i table made stop.Memory lt is loaded refused = tt
