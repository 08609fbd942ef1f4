-- checks that end with the first broken rule
use Rattle.std.specs.Prelude.{◌≡◌, ◌≢◌, List, [], ◌∷◌, Result, Ok, Err}
use Rattle.tiql_check.specs.declared.fault.SoundFault.{SoundFault}
use Rattle.tiql_check.specs.declared.fault.SoundFault.TheVariants as fault

infixl 10 ◌>>=◌
-- the next check, where this one found no broken rule
abbrev pub ◌>>=◌ : {A B : Type 0} → Result A SoundFault → (A → Result B SoundFault) → Result B SoundFault
Ok a >>= f = f a
Err e >>= f = Err e

-- each part in turn, beside what was made of the parts before it
unfoldable pub in_turn : {S X : Type 0} → (S → X → Result S SoundFault) → S → List X → Result S SoundFault
in_turn f before [] = Ok before
in_turn f before (x ∷ xs) = f before x >>= (λ next. in_turn f next xs)

-- this is what the check comes to, unless memory is wanting
abbrev pub ChecksTo : {A : Type 0} → Result A SoundFault → Result A SoundFault → Type 0
ChecksTo outcome (Ok a) = outcome ≡ Ok a
ChecksTo outcome (Err e) = e ≢ fault.Memory → outcome ≡ Err e

-- likewise where what is made stands behind a reference, and is this
abbrev pub ChecksInto : {A : Type 0} → Result A SoundFault → A → Result (Unit {0}) SoundFault → Type 0
ChecksInto outcome made (Ok done) = outcome ≡ Ok made
ChecksInto outcome made (Err e) = e ≢ fault.Memory → outcome ≡ Err e

-- likewise where what is made is seen so
abbrev pub ChecksToAs : {A B : Type 0} → (B → A) → Result A SoundFault → Result B SoundFault → Type 0
ChecksToAs as_seen outcome (Ok made) = outcome ≡ Ok (as_seen made)
ChecksToAs as_seen outcome (Err e) = e ≢ fault.Memory → outcome ≡ Err e
