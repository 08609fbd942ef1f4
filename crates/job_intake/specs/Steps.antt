-- steps of an intake: what each may come to, a result or a refusal
use Rattle.std.specs.Prelude.{◌≡◌, ◌⊎◌, ℕ, List, Result, Ok, Err}
use Rattle.job_intake.specs.declared.refusal.Refusal.{Refusal}
use Rattle.job_intake.specs.declared.refusal.Refusal.TheVariants as refusal
use Rattle.job_intake.specs.declared.refusal.FileFault.{FileFault}
use Rattle.job_intake.specs.declared.refusal.FileFault.TheVariants as fault
use Rattle.job_intake.specs.declared.refusal.Stop.{Stop}
use Rattle.job_intake.specs.declared.refusal.Stop.TheVariants as stop
use Rattle.job_intake.specs.Visits.{Visit}

-- first the one step, and then what follows on its result; a refusal of the first ends it
abbrev pub Then : {A B : Type 0} → (Result A Refusal → Type 0) → (A → Result B Refusal → Type 0) → Result B Refusal → Type 0
Then {A} first next outcome = ((a : A) × first (Ok a) × next a outcome) ⊎ ((why : Refusal) × first (Err why) × (outcome ≡ Err why))

-- what is given is what the step comes to, unless memory is wanting
abbrev pub Follows : {A : Type 0} → (Result A Refusal → Type 0) → Result A Stop → Type 0
Follows claim (Ok a) = claim (Ok a)
Follows claim (Err (stop.Refused why)) = claim (Err why)
Follows claim (Err stop.Memory) = Unit {0}

-- no fetch failed, unless that is told or memory was wanting
abbrev pub FailsAs : {A : Type 0} → ℕ → ℕ → Result A Stop → Type 0
FailsAs before now (Ok a) = now ≡ before
FailsAs before now (Err (stop.Refused why)) = ((name : List ℕ) × (why ≡ refusal.File name fault.ReadFailed)) ⊎ (now ≡ before)
FailsAs before now (Err stop.Memory) = Unit {0}

-- no count rose
pub record KeepsCounts (v : Visit) : Type 0 where
  pub misses : v.misses_now ≡ v.misses
  pub faults : v.faults_now ≡ v.faults

-- the file of this name is refused so, unless memory is wanting
abbrev pub IsRefusedFile : {A : Type 0} → List ℕ → FileFault → Result A Stop → Type 0
IsRefusedFile name why (Ok a) = ⊥
IsRefusedFile name why (Err (stop.Refused told)) = told ≡ refusal.File name why
IsRefusedFile name why (Err stop.Memory) = Unit {0}
