-- questions asked in turn, up to the first that has a fault for its answer
use Rattle.std.specs.Prelude.{ℕ, List, [], ◌∷◌, map, drop, Result, Ok, Err}

-- the next question, where this one had an answer
abbrev pub and_then : {E A B : Type 0} → Result A E → (A → Result B E) → Result B E
and_then (Ok a) f = f a
and_then (Err e) f = Err e

-- all the answers, or the first fault
abbrev pub all_of : {E A : Type 0} → List (Result A E) → Result (List A) E
all_of [] = Ok []
all_of (r ∷ rs) = and_then r (λ n. and_then (all_of rs) (λ ns. Ok (n ∷ ns)))

-- what the answers from the `i`th item on lead to
unfoldable pub left : {E X A B : Type 0} → (X → Result A E) → List X → ℕ → (List A → Result B E) → Result B E
left f xs i goes = and_then (all_of (map f (drop i xs))) goes
