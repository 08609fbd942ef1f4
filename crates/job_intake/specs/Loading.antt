-- the tables of a query, from the files of a folder
use Rattle.std.specs.Prelude.{◌≡◌, ◌≢◌, ℕ, List, [], ◌∷◌, ◌++◌, length, Result, Ok, Err}
use Rattle.tiql_query.specs.declared.relation.QTable.{QTable}
use Rattle.tables_csv.specs.declared.fault.TableFault.{TableFault}
use Rattle.tables_csv.specs.declared.fault.TableFault.TheVariants as faults
use Rattle.tables_csv.specs.WholeTables.{IsTableOf, IsFirstFault}
use Rattle.world_def.specs.Columns.{Rows, Tables}
use Rattle.job_intake.specs.declared.refusal.Refusal.{Refusal}
use Rattle.job_intake.specs.declared.refusal.Refusal.TheVariants as refusal
use Rattle.job_intake.specs.Files.{FileComes}
use Rattle.job_intake.specs.Steps.{Then}
use Rattle.job_intake.specs.Visits.{Visit, after_fetches}
use Rattle.job_intake.specs.Words.{table_path}

-- the rows that the bytes are, or the first fault in them
abbrev pub ReadComes : QTable → List ℕ → Result Rows Refusal → Type 0
ReadComes table bytes (Ok rows) = IsTableOf bytes table rows
ReadComes table bytes (Err why) = (fault : TableFault) × (why ≡ refusal.Table table.name fault) × (fault ≢ faults.Memory) × IsFirstFault bytes table fault

-- a table: its file, which has at most 16 MiB, and what that is read as
abbrev pub TableComes : Visit → List ℕ → QTable → Result Rows Refusal → Type 0
TableComes v folder table = Then (FileComes v 16777216 (table_path folder table.name)) (ReadComes table)

-- these tables are there, with these rows, each by the fetch behind the one before
abbrev pub AreLoaded : Visit → List ℕ → List QTable → Tables → Type 0
AreLoaded v folder [] [] = Unit {0}
AreLoaded v folder [] (rows ∷ made) = ⊥
AreLoaded v folder (table ∷ tables) [] = ⊥
AreLoaded v folder (table ∷ tables) (rows ∷ made) = TableComes v folder table (Ok rows) × AreLoaded (after_fetches 1 v) folder tables made

-- a table is refused, and each before it is there
pub record IsFirstRefused (v : Visit) (folder : List ℕ) (tables : List QTable) (why : Refusal) : Type 0 where
  pub before : List QTable
  pub table : QTable
  pub behind : List QTable
  pub are : tables ≡ before ++ table ∷ behind
  pub made : Tables
  pub loaded : AreLoaded v folder before made
  pub refused : TableComes (after_fetches (length before) v) folder table (Err why)

-- the tables, or the refusal of the first that is refused
abbrev pub LoadComes : Visit → List ℕ → List QTable → Result Tables Refusal → Type 0
LoadComes v folder tables (Ok made) = AreLoaded v folder tables made
LoadComes v folder tables (Err why) = IsFirstRefused v folder tables why
