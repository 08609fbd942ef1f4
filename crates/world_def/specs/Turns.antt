-- items one after the other, by their numbers, up to the first fault
use Rattle.std.specs.Prelude.{ℕ, ◌+◌, List, [], ◌∷◌, Result, Ok}
use Rattle.base_kit.specs.Asking.{and_then}

-- each item in turn, beside what was made of those before it
unfoldable pub turns : {E S X : Type 0} → (ℕ → X → S → Result S E) → ℕ → List X → S → Result S E
turns f number [] made = Ok made
turns f number (x ∷ xs) made = and_then (f number x made) (λ more. turns f (number + 1) xs more)
