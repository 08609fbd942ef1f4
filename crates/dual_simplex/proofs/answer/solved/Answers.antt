use Rattle.std.proofs.Common.{◌≡◌, ◌<◌, ℤ, Option, None, inl, inr, sym, ◌∙◌, subst, drop, length}
use Rattle.std.specs.Prelude.{IfSome}
use Rattle.rat128.specs.Fractions.{Fraction}
use Rattle.rat128.specs.Rationals.{value}
use Rattle.safe_bound.specs.Below.{AreNotNegative, IsAtMost}
use Rattle.safe_bound.specs.Exact.{exact_bound}
use Rattle.dict_pivot.specs.Dictionaries.{least_of, table}
use Rattle.dual_simplex.specs.declared.answer.Relaxed.{Relaxed}
use Rattle.dual_simplex.specs.declared.answer.Relaxed.TheVariants.{Wide}
use Rattle.dual_simplex.specs.Path.{NoneViolated, IsPast}
use Rattle.dual_simplex.specs.Shown.{first_columns, Stands}
use Rattle.dual_simplex.specs.Evidence.{Shows}
use Rattle.dual_simplex.proofs.Evidence.{optimum_shown}
use Rattle.dual_simplex.proofs.Outcomes.{on_ok, wide_end_shown, none_by_aim}
use Rattle.dual_simplex.proofs.answer.solved.Goals as goal

pub returns-in-None : goal.returns-in-None
returns-in-None c = on_ok (λ (answer : Relaxed). answer ≡ Wide (record { basis = drop 1 c.args.dict.now.free; pivot = None; cell = None })) (λ (answer : Relaxed). (best : Option ℤ) → Stands c.args.lp.now best c.args.dict.now → (IsPast best (table c.args.dict.now) → ⊥) → NoneViolated (least_of c.args.dict.now.low) (table c.args.dict.now) → Shows c.args.lp.now best answer) c.wide.result (λ x e best s ahead none. subst (Shows c.args.lp.now best) (sym e) (wide_end_shown c.args.lp.now best c.args.dict.now s (inl (inr (ahead, none), none_by_aim c.args.lp.now c.args.dict.now c.in_ok-made.made.multipliers c.in_ok-made.made.bound c.in_ok-made.ensures.those c.in_ok-made.ensures.bound c.in-None.is)))) c.wide.ensures

pub returns-in_ok-point-in-Some : goal.returns-in_ok-point-in-Some
returns-in_ok-point-in-Some c = λ best s ahead none. optimum_shown c.args.lp.now c.requires.formed (record { sides_open = c.requires.sides }) c.args.dict.now c.requires.least best s ahead none c.in_ok-made.made.multipliers c.in-Some.value c.in_ok-point-in-Some.point c.in_ok-made.ensures.those (sym c.in_ok-made.ensures.bound ∙ c.in-Some.is) (subst (λ (o : Option Fraction). IfSome o (λ z. value z ≡ exact_bound c.args.lp.now.rows c.args.lp.now.aim c.args.lp.now.sides c.in_ok-made.made.multipliers (first_columns (length c.args.lp.now.sides)))) c.in-Some.is c.in_ok-made.ensures.exact) (subst (λ (o : Option Fraction). IfSome o (λ z. AreNotNegative c.in_ok-made.made.multipliers → IsAtMost (value z) c.args.lp.now.rows c.args.lp.now.aim c.args.lp.now.sides c.in_ok-made.made.multipliers)) c.in-Some.is c.in_ok-made.ensures.below) (c.in_ok-point-in-Some.ensures.size ∙ c.len.ensures) (λ j l. c.in_ok-point-in-Some.ensures.each j (subst (λ m. j < m) (sym c.len.ensures) l))
