-- steps one after the other: what is given of each is what is given of both, and where each comes to one outcome both do
use Rattle.std.proofs.Common.{◌≡◌, refl, sym, ◌∙◌, ap, subst, inl, inr}
use Rattle.std.specs.Prelude.{Result, Ok, Err}
use Rattle.base_kit.proofs.Results.{Ok-Err, same_Err, same_Ok}
use Rattle.job_intake.specs.declared.refusal.Refusal.{Refusal}
use Rattle.job_intake.specs.declared.refusal.Stop.{Stop}
use Rattle.job_intake.specs.declared.refusal.Stop.TheVariants as stop
use Rattle.job_intake.specs.Steps.{Then, Follows}

module _ {A B : Type 0} (first : Result A Refusal → Type 0) (next : A → Result B Refusal → Type 0) where
  pub then_stop : (why : Stop) → Follows {A = A} first (Err why) → Follows {A = B} (Then first next) (Err why)
  then_stop (stop.Refused why) g = inr (why, g, refl)
  then_stop stop.Memory g = tt

  pub then_goes : (a : A) (result : Result B Stop) → first (Ok a) → Follows (next a) result → Follows (Then first next) result
  then_goes a (Ok b) f g = inl (a, f, g)
  then_goes a (Err (stop.Refused why)) f g = inl (a, f, g)
  then_goes a (Err stop.Memory) f g = tt

-- a step comes to one outcome at most
abbrev pub IsOne : {A : Type 0} → (Result A Refusal → Type 0) → Type 0
IsOne {A} claim = (one other : Result A Refusal) → claim one → claim other → one ≡ other

-- steps that come to a result each came to one
pub came : {A B : Type 0} (first : Result A Refusal → Type 0) (next : A → Result B Refusal → Type 0) (b : B) → Then first next (Ok b) → (a : A) × first (Ok a) × next a (Ok b)
came first next b (inl x) = x
came first next b (inr x) = absurd (Ok-Err b x.0 x.2)

pub then_one : {A B : Type 0} (first : Result A Refusal → Type 0) (next : A → Result B Refusal → Type 0) → IsOne first → ((a : A) → IsOne (next a)) → IsOne (Then first next)
then_one first next f n one other (inl x) (inl y) = n y.0 one other (subst (λ a. next a one) (same_Ok x.0 y.0 (f (Ok x.0) (Ok y.0) x.1 y.1)) x.2) y.2
then_one first next f n one other (inl x) (inr y) = absurd (Ok-Err x.0 y.0 (f (Ok x.0) (Err y.0) x.1 y.1))
then_one first next f n one other (inr x) (inl y) = absurd (Ok-Err y.0 x.0 (f (Ok y.0) (Err x.0) y.1 x.1))
then_one {A} {B} first next f n one other (inr x) (inr y) = x.2 ∙ ap (λ why. Err why) (same_Err x.0 y.0 (f (Err x.0) (Err y.0) x.1 y.1)) ∙ sym y.2
