-- what a writer of `csv` over a vector has written
use Rattle.std.specs.Prelude.{◌≡◌, ℕ, false, List, Option, Some}
use Rattle.std.specs.Global.{Vec}
use Rattle.csv.specs.Writing.{default_writer, fields_written, has_written, text_written, writer_setup}
use Rattle.csv.specs.declared.writer.Writer.{Writer}

-- the bytes that a vector holds
abbrev pub vec_bytes : Vec ℕ → Option (List ℕ)
vec_bytes bytes = Some bytes.items

-- the writer, with `csv`'s defaults, has written this text, and stands before a record
pub record HasWritten (writer : Writer (Vec ℕ)) (whole : List ℕ) : Type 0 where
  pub setup : writer_setup writer ≡ default_writer
  pub fields : fields_written writer ≡ 0
  pub clean : has_written writer ≡ false
  pub text : text_written vec_bytes writer ≡ Some whole
