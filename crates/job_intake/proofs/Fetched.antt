-- what a fetch of one byte more than a file may have tells of the file, and what a later call finds
use Rattle.std.proofs.Common.{◌≡◌, ℕ, zero, suc, ◌+◌, ◌<◌, ◌≤◌, List, length, take, sym, ◌∙◌, ap, subst, arith, refl, add-one}
use Rattle.std.specs.Prelude.{Some, None, IfSome, Result, Ok, Err}
use Rattle.std.proofs.lemmas.List.{length-take}
use Rattle.outside_io.specs.Shelves.{Contents, Failures, Fetches, later}
use Rattle.job_intake.specs.declared.refusal.FileFault.{FileFault}
use Rattle.job_intake.specs.declared.refusal.Stop.{Stop}
use Rattle.job_intake.specs.declared.refusal.Stop.TheVariants as stop
use Rattle.job_intake.specs.Files.{FileStops, FileComes}
use Rattle.job_intake.specs.Steps.{Follows, IsRefusedFile}
use Rattle.job_intake.specs.Visits.{Visit, after_fetches, later_by}

-- a fetch of one byte more than a file may have shows where it is too long
pub long_if_long : (held : Contents) (name bytes : List ℕ) (limit : ℕ) → IfSome held (Fetches bytes name (limit + 1)) → limit < length bytes → (whole : List ℕ) × IfSome held (λ map. map name ≡ Some whole) × (limit < length whole)
long_if_long None name bytes limit fetched long = (bytes, tt, long)
long_if_long (Some map) name bytes limit fetched long =
    (fetched.0, fetched.1, omega (arith, ap length fetched.2, length-take (limit + 1) fetched.0))

-- one fetch more
pub one_later : (n : ℕ) (fails : Failures) → later (later_by n fails) ≡ later_by (n + 1) fails
one_later n fails = at_last n fails ∙ ap (λ (k : ℕ). later_by k fails) (sym (add-one n))
  where
    at_last : (n : ℕ) (fails : Failures) → later (later_by n fails) ≡ later_by (suc n) fails
    at_last zero fails = refl
    at_last (suc n) fails = at_last n (later fails)

-- what is found from the middle of a call on is what is found from its beginning, behind the fetches that were done
pub from_before : (n : ℕ) (held held' : Contents) (fails fails' : Failures) (misses misses' misses_now faults faults' faults_now : ℕ) → held' ≡ held → fails' ≡ later_by n fails → misses' ≡ misses → faults' ≡ faults →
    ◌≡◌ {A = Visit} (record { held = held'; fails = fails'; misses = misses'; misses_now = misses_now; faults = faults'; faults_now = faults_now })
    (after_fetches n (record { held = held; fails = fails; misses = misses; misses_now = misses_now; faults = faults; faults_now = faults_now }))
from_before n held held' fails fails' misses misses' misses_now faults faults' faults_now one two three four = cc

-- a file that is refused so is what the fetch comes to
pub refused_comes : (v : Visit) (most : ℕ) (name : List ℕ) (why : FileFault) (result : Result (List ℕ) Stop) → FileStops v most name why → IsRefusedFile name why result → Follows (FileComes v most name) result
refused_comes v most name why (Ok a) stops refused = absurd refused
refused_comes v most name why (Err (stop.Refused told)) stops refused = (why, refused, stops)
refused_comes v most name why (Err stop.Memory) stops refused = tt
