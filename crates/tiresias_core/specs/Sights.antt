-- what a run saw
use Rattle.std.specs.Prelude.{◌≢◌, ℕ, List, Option, String, map, string_bytes}
use Rattle.std.specs.Global.{Global}
use Rattle.std.specs.Io.KnownBytes.{Appends}
use Rattle.base_kit.specs.declared.status.Status.{Status}
use Rattle.base_kit.specs.declared.status.Status.TheVariants as status
use Rattle.outside_io.specs.Shelves.{Contents, Failures}
use Rattle.job_intake.specs.Visits.{Visit, visit}

-- the words, the shelf, and the sink before and after: what was written, and its count of faults
pub record Run : Type 0 where
  pub words : List (List ℕ)
  pub visit : Visit
  pub before : Option (List ℕ)
  pub now : Option (List ℕ)
  pub faults : ℕ
  pub faults_now : ℕ

-- what a run saw that began with the shelf `shelf` and the sink `out` and ended with `shelf'` and `out'`
abbrev pub saw : {S K : Type 0} → List (String Global) → (S → Contents) → (S → Failures) → (S → ℕ) → (S → ℕ) → S → S → (K → Option (List ℕ)) → (K → ℕ) → K → K → Run
saw words held fails misses faults shelf shelf' written sink_faults out out' = record {
  words = map (λ word. string_bytes word) words;
  visit = visit held fails misses faults shelf shelf';
  before = written out;
  now = written out';
  faults = sink_faults out;
  faults_now = sink_faults out';
}

-- the text was written whole
abbrev pub Writes : Run → List ℕ → Type 0
Writes run text = Appends run.before run.now text

-- no write failed, and memory was not wanting
abbrev pub IsWhole : Status → Type 0
IsWhole told = (told ≢ status.Write) × (told ≢ status.Memory)
