-- What a call finds at the shelf: what it holds, which of its coming fetches fail, and its counts before and after.
use Rattle.std.specs.Prelude.{◌≡◌, ◌⊎◌, ℕ, zero, suc, ◌<◌, List, Option, Some, None, IsSome, IfSome, length}
use Rattle.outside_io.specs.Counts.{Rose}
use Rattle.outside_io.specs.Shelves.{Contents, Failures, later}

-- the shelf at the beginning of a call, and its counts at the end too
pub record Visit : Type 0 where
  pub held : Contents
  pub fails : Failures
  pub misses : ℕ
  pub misses_now : ℕ
  pub faults : ℕ
  pub faults_now : ℕ

-- what a call finds that begins with the shelf `old` and ends with `new`
abbrev pub visit : {S : Type 0} → (S → Contents) → (S → Failures) → (S → ℕ) → (S → ℕ) → S → S → Visit
visit held fails misses faults old new = record { held = held old; fails = fails old; misses = misses old; misses_now = misses new; faults = faults old; faults_now = faults new }

-- which of the coming fetches fail once so many are done
abbrev pub later_by : ℕ → Failures → Failures
later_by zero fails = fails
later_by (suc n) fails = later_by n (later fails)

-- what is found behind so many fetches
abbrev pub after_fetches : ℕ → Visit → Visit
after_fetches n v = record v { fails = later_by n v.fails }

-- these bytes stand under the name, where that is told
abbrev pub Holds : Visit → List ℕ → List ℕ → Type 0
Holds v name bytes = IfSome v.held (λ held. held name ≡ Some bytes)

-- nothing stands under the name: the misses rose, and where it is told, nothing does
abbrev pub IsAbsent : Visit → List ℕ → Type 0
IsAbsent v name = Rose v.misses v.misses_now × IfSome v.held (λ held. held name ≡ None)

-- a file could not be read: the faults rose
abbrev pub IsFailed : Visit → Type 0
IsFailed v = Rose v.faults v.faults_now

-- more bytes stand under the name than a file may have
abbrev pub IsLong : Visit → List ℕ → ℕ → Type 0
IsLong v name limit = (bytes : List ℕ) × Holds v name bytes × (limit < length bytes)

-- the shelf tells what it holds, and it tells which fetches fail, or else none failed
pub record IsTold (v : Visit) : Type 0 where
  pub held : List ℕ → Option (List ℕ)
  pub told : v.held ≡ Some held
  pub failures : IsSome v.fails ⊎ ¬ IsFailed v
