-- What is done about the first violated row is the rule's step.
use Rattle.std.proofs.Common.{ℕ, ℤ, Option, sym, subst}
use Rattle.rat128.specs.Rationals.{ℚ}
use Rattle.dict_pivot.specs.Tables.{Table}
use Rattle.dual_simplex.specs.declared.next.Step.{Step}
use Rattle.dual_simplex.specs.declared.next.Step.TheVariants.{Past, Solved, Stuck, Pivot}
use Rattle.dual_simplex.specs.Path.{FirstViolated, IsPast}
use Rattle.dual_simplex.specs.Choice.{IsStep, IsMended}

pub mended_step : (least : ℕ → ℚ) (best : Option ℤ) (t : Table) (r : ℕ) (step : Step) → (IsPast best t → ⊥) → FirstViolated least t r → IsMended t r step → IsStep least best t step
mended_step least best t r Past ahead v m = absurd m
mended_step least best t r Solved ahead v m = absurd m
mended_step least best t r (Stuck i) ahead v m = (ahead, subst (FirstViolated least t) (sym m.0) v, m.1)
mended_step least best t r (Pivot at) ahead v m = record {
  ahead = ahead;
  violated = subst (FirstViolated least t) (sym m.0) v;
  enters = m.1;
}
