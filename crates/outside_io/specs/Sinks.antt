-- what a call of `put` appends, and what it does to the count of a sink
use Rattle.std.specs.Prelude.{◌≡◌, ℕ, ◌≤◌, List, Option, Result, Ok, Err, take}
use Rattle.std.specs.Io.KnownBytes.{Appends, Keeps}
use Rattle.outside_io.specs.Counts.{Rose}
use Rattle.outside_io.specs.declared.sink.SinkFault.{SinkFault}
use Rattle.outside_io.specs.declared.sink.SinkFault.TheVariants.{Failed, Memory}

-- the whole piece at `Ok`, a beginning of it at `Failed`, nothing at `Memory`
abbrev pub Puts : {T : Type 0} → Option (List ℕ) → Option (List ℕ) → List ℕ → Result T SinkFault → Type 0
Puts before now piece (Ok x) = Appends before now piece
Puts before now piece (Err Failed) = (n : ℕ) × Appends before now (take n piece)
Puts before now piece (Err Memory) = Keeps before now

-- faults rise where the piece was not written whole, and stay as they are at every other answer
abbrev pub FaultsAfter : {T : Type 0} → ℕ → ℕ → Result T SinkFault → Type 0
FaultsAfter before now (Ok x) = now ≡ before
FaultsAfter before now (Err Failed) = Rose before now
FaultsAfter before now (Err Memory) = now ≡ before

-- the count never falls, and rises at its own answer alone
pub record Counts {T : Type 0} (before now : ℕ) (result : Result T SinkFault) : Type 0 where
  pub later : before ≤ now
  pub failed : FaultsAfter before now result
