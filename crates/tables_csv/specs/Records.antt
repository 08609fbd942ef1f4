-- the records that a reader of `csv` still has before it
use Rattle.std.specs.Prelude.{◌≡◌, ℕ, List, Option, Some}
use Rattle.std.specs.Borrow.{Bor}
use Rattle.csv.specs.Reading.{AreRecords, Ready, default_config, reader_config, reader_state, reader_trim, source_of}
use Rattle.csv.specs.declared.reader.Reader.{Reader}
use Rattle.csv.specs.declared.reader.Trim.TheVariants as trim

-- the bytes that a slice still gives
abbrev pub slice_bytes : Bor (List ℕ) → Option (List ℕ)
slice_bytes slice = Some slice.now

-- the reader gives the records of known bytes, with `csv`'s defaults, and takes none for a header row
pub record IsOpen (reader : Reader (Bor (List ℕ))) : Type 0 where
  pub bytes : List ℕ
  pub source : source_of slice_bytes reader ≡ Some bytes
  pub config : reader_config reader ≡ default_config
  pub trim : reader_trim reader ≡ trim.None
  pub ready : Ready reader

-- these are the records that it has left
pub record HasLeft (reader : Reader (Bor (List ℕ))) (records : List (List (List ℕ))) : Type 0 where
  pub bytes : List ℕ
  pub source : source_of slice_bytes reader ≡ Some bytes
  pub all : AreRecords default_config (reader_state reader) bytes records
