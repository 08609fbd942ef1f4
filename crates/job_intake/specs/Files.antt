-- files: what fetching one comes to
use Rattle.std.specs.Prelude.{◌≡◌, ◌≤◌, ℕ, true, false, List, length, Result, Ok, Err}
use Rattle.outside_io.specs.Shelves.{NextFails}
use Rattle.job_intake.specs.declared.refusal.Refusal.{Refusal}
use Rattle.job_intake.specs.declared.refusal.Refusal.TheVariants as refusal
use Rattle.job_intake.specs.declared.refusal.FileFault.{FileFault}
use Rattle.job_intake.specs.declared.refusal.FileFault.TheVariants as fault
use Rattle.job_intake.specs.Visits.{Visit, Holds, IsAbsent, IsFailed, IsLong}

-- why the next fetch gives no file of this name with at most so many bytes
abbrev pub FileStops : Visit → ℕ → List ℕ → FileFault → Type 0
FileStops v most name fault.Absent = NextFails v.fails false × IsAbsent v name
FileStops v most name fault.ReadFailed = NextFails v.fails true × IsFailed v
FileStops v most name fault.TooLong = NextFails v.fails false × IsLong v name most

-- what the next fetch comes to: the file of this name, with at most so many bytes, or why there is none
abbrev pub FileComes : Visit → ℕ → List ℕ → Result (List ℕ) Refusal → Type 0
FileComes v most name (Ok bytes) = NextFails v.fails false × Holds v name bytes × (length bytes ≤ most)
FileComes v most name (Err why) = (told : FileFault) × (why ≡ refusal.File name told) × FileStops v most name told
