-- walks: what is made of a list of formulas, one thing after the other, and the list behind it
use Rattle.std.specs.Prelude.{◌≡◌, ◌≢◌, ℕ, ◌+◌, ℤ, Bool, if◌then◌else◌, List, [], ◌∷◌, Result, Ok, Err, IfOk}
use Rattle.base_kit.specs.Asking.{and_then}
use Rattle.prov_fold.specs.Graphs.{Graph, Keeps}
use Rattle.prov_fold.specs.Meanings.{Means}
use Rattle.row_values.specs.declared.fault.Wide.{Wide}
use Rattle.prov_fold.specs.Rules.{Rule}
use Rattle.prov_fold.specs.declared.fault.FoldFault.{FoldFault}
use Rattle.prov_fold.specs.declared.fault.FoldFault.TheVariants as fold
use Rattle.sym_rows.specs.declared.fault.WalkFault.{WalkFault}
use Rattle.sym_rows.specs.declared.fault.WalkFault.TheVariants as fault

-- what a walk came to: what it gives, or where it stopped; in both cases with the list behind it
abbrev pub Walked : Type 0 → Type 0
Walked A = Result (A × Graph) (WalkFault × Graph)

-- a walk begins with a list
abbrev pub Walk : Type 0 → Type 0
Walk A = Graph → Walked A

-- code does what a walk comes to, unless memory is wanting
abbrev pub Follows : {A : Type 0} → Walked A → Result A WalkFault → Graph → Type 0
Follows walked (Ok a) after = walked ≡ Ok (a, after)
Follows walked (Err e) after = e ≢ fault.Memory → walked ≡ Err (e, after)

-- nothing is appended
abbrev pub gives : {A : Type 0} → A → Walk A
gives a g = Ok (a, g)

abbrev pub stops : {A : Type 0} → WalkFault → Walk A
stops e g = Err (e, g)

-- one walk, and then another with what the first gave
infixl 10 ◌>>=◌
abbrev pub ◌>>=◌ : {A B : Type 0} → Walked A → (A → Walk B) → Walked B
walked >>= next = and_then walked (λ made. next made.0 made.1)

-- items in turn, by their numbers from this one on
unfoldable pub each : {X A : Type 0} → (ℕ → X → Walk A) → ℕ → List X → Walk (List A)
each f i [] g = gives [] g
each f i (x ∷ xs) g = f i x g >>= λ made g. each f (i + 1) xs g >>= λ more g. gives (made ∷ more) g

-- what a fold rule stopped at
abbrev pub fault_of : FoldFault → WalkFault
fault_of (fold.Wide n) = fault.Wide n
fault_of fold.Full = fault.Full
fault_of fold.Memory = fault.Memory

-- what a call of the fold answers
abbrev pub lifted : Result ℕ FoldFault → Result ℕ WalkFault
lifted (Ok id) = Ok id
lifted (Err e) = Err (fault_of e)

abbrev pub walked_by : Result ℕ FoldFault → Walk ℕ
walked_by (Ok id) g = Ok (id, g)
walked_by (Err e) g = Err (fault_of e, g)

-- a fold rule as a walk
abbrev pub by_rule : Rule → Walk ℕ
by_rule rule g = walked_by (rule g).gives (rule g).list

-- a value that is asked, or the one that passes
abbrev pub told : {A : Type 0} → Result A Wide → Walk A
told (Ok a) g = gives a g
told (Err wide) g = stops (fault.Wide wide.number) g

-- code does what the walk comes to, and keeps the list before. What it gives is good in the list behind, and this is meant of it
pub record Makes {A : Type 0} (walked : Walked A) (Good : Graph → A → Type 0) (Tells : A → List ℤ → (ℕ → ℤ) → Type 0) (before : Graph) (result : Result A WalkFault) (after : Graph) : Type 0 where
  pub follows : Follows walked result after
  pub kept : Keeps before after
  pub good : IfOk result (Good after)
  pub means : IfOk result (λ a. Means after (Tells a))

-- items in turn, beside what was made of those before
unfoldable pub through : {X S : Type 0} → (X → S → Walk S) → List X → S → Walk S
through f [] made g = gives made g
through f (x ∷ xs) made g = f x made g >>= λ more g. through f xs more g

-- nothing is told of what is given
abbrev pub Untold : {A : Type 0} → A → List ℤ → (ℕ → ℤ) → Type 0
Untold a numbers v = Unit {0}

-- the place of a truth that is known
abbrev pub truth_of : Bool → ℕ
truth_of b = if b then 1 else 0
