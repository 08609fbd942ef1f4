-- What was written of a text that goes out in pieces.
use Rattle.std.specs.Prelude.{ℕ, ◌*◌, List, Option, Result, Ok, Err, take}
use Rattle.std.specs.Io.KnownBytes.{Appends}
use Rattle.outside_io.specs.declared.sink.SinkFault.{SinkFault}
use Rattle.outside_io.specs.declared.sink.SinkFault.TheVariants as fault

-- the whole text, a beginning of it where a write failed, whole pieces of it where memory was wanting
abbrev pub WritesText : {T : Type 0} → Option (List ℕ) → Option (List ℕ) → List ℕ → Result T SinkFault → Type 0
WritesText before now text (Ok x) = Appends before now text
WritesText before now text (Err fault.Failed) = (n : ℕ) × Appends before now (take n text)
WritesText before now text (Err fault.Memory) = (n : ℕ) × Appends before now (take (65536 * n) text)
