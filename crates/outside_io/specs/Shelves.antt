-- what a fetch gives, and what it does to the counts of a shelf
use Rattle.std.specs.Prelude.{◌≡◌, ℕ, ◌+◌, ◌≤◌, Bool, true, false, List, Option, Some, Result, Ok, Err, IfSome, option_map, take}
use Rattle.outside_io.specs.Counts.{Rose}
use Rattle.outside_io.specs.declared.shelf.ShelfFault.{ShelfFault}
use Rattle.outside_io.specs.declared.shelf.ShelfFault.TheVariants.{Absent, Failed, Memory}

-- the bytes under each name, where that is told
abbrev pub Contents : Type 0
Contents = Option (List ℕ → Option (List ℕ))

-- the bytes are the first `max` of those under the name
abbrev pub Fetches : List ℕ → List ℕ → ℕ → (List ℕ → Option (List ℕ)) → Type 0
Fetches bytes name max held = (whole : List ℕ) × (held name ≡ Some whole) × (bytes ≡ take max whole)

-- whether the fetch so many calls from now fails, where that is told
abbrev pub Failures : Type 0
Failures = Option (ℕ → Bool)

-- the same once the next fetch is done
abbrev pub later : Failures → Failures
later fails = option_map (λ due call. due (call + 1)) fails

-- the next fetch fails, or does not, as this says, where that is told
abbrev pub NextFails : Failures → Bool → Type 0
NextFails fails failed = IfSome fails (λ due. due 0 ≡ failed)

-- a fetch failed exactly where it was to fail; that may be left open where memory was wanting
abbrev pub FailsAsTold : {T : Type 0} → Failures → Result T ShelfFault → Type 0
FailsAsTold fails (Ok x) = NextFails fails false
FailsAsTold fails (Err Absent) = NextFails fails false
FailsAsTold fails (Err Failed) = NextFails fails true
FailsAsTold fails (Err Memory) = Unit {0}

-- misses rise where the name was absent, and stay as they are at every other answer
abbrev pub MissesAfter : {T : Type 0} → ℕ → ℕ → Result T ShelfFault → Type 0
MissesAfter before now (Ok x) = now ≡ before
MissesAfter before now (Err Absent) = Rose before now
MissesAfter before now (Err Failed) = now ≡ before
MissesAfter before now (Err Memory) = now ≡ before

-- faults rise where the file was not read, and stay as they are at every other answer
abbrev pub FaultsAfter : {T : Type 0} → ℕ → ℕ → Result T ShelfFault → Type 0
FaultsAfter before now (Ok x) = now ≡ before
FaultsAfter before now (Err Absent) = now ≡ before
FaultsAfter before now (Err Failed) = Rose before now
FaultsAfter before now (Err Memory) = now ≡ before

-- both counts never fall, and rise at their own answer alone
pub record Counts {T : Type 0} (misses misses' faults faults' : ℕ) (result : Result T ShelfFault) : Type 0 where
  pub misses_later : misses ≤ misses'
  pub faults_later : faults ≤ faults'
  pub missed : MissesAfter misses misses' result
  pub failed : FaultsAfter faults faults' result
