use Rattle.std.proofs.Common.{◌≡◌, ◌<◌, List, length, sym, ◌∙◌, ap, subst, arith}
use Rattle.std.specs.Prelude.{IfOk, IfSome}
use Rattle.rat128.specs.Rationals.{value}
use Rattle.ip_rows.specs.declared.rows.Coef.{Coef}
use Rattle.ip_rows.specs.Rows.{AreTerms}
use Rattle.safe_bound.specs.Below.{AreNotNegative, IsAtMost}
use Rattle.safe_bound.specs.Exact.{exact_bound}
use Rattle.dict_pivot.specs.Dictionaries.{number}
use Rattle.dual_simplex.specs.declared.closing.Bounded.{Bounded}
use Rattle.dual_simplex.specs.Shown.{objective_multiplier, multipliers_of, first_columns, bound_with}
use Rattle.dual_simplex.proofs.Reach.{multipliers_same}
use Rattle.dual_simplex.proofs.Outcomes.{on_ok, objective_by}
use Rattle.dual_simplex.proofs.closing.bound_by_aim.Goals as goal

pub overflow_cast-columns : goal.overflow_cast-columns
overflow_cast-columns c = omega (arith, c.len-columns.ensures, c.requires.columns)

pub surplus_factors-requires-clause-row : goal.surplus_factors-requires-clause-row
surplus_factors-requires-clause-row c = omega (arith, c.requires.height)

pub surplus_factors-requires-clause-columns : goal.surplus_factors-requires-clause-columns
surplus_factors-requires-clause-columns c = omega (arith, c.requires.width, c.len-columns.ensures)

pub surplus_factors-requires-clause-rows : goal.surplus_factors-requires-clause-rows
surplus_factors-requires-clause-rows c = omega (arith, c.requires.height, c.len-columns.ensures, c.len.ensures)

pub bound_by-requires-clause-aim : goal.bound_by-requires-clause-aim
bound_by-requires-clause-aim c = subst (λ (ts : List Coef). AreTerms (length c.args.lp.now.sides) ts) (sym c.as_slice.ensures) c.requires.formed.aim

pub bound_by-requires-clause-size : goal.bound_by-requires-clause-size
bound_by-requires-clause-size c = ap length c.as_slice-2.ensures.value ∙ c.in_ok-factors.ensures.size ∙ c.len.ensures

pub returns-clause-those : goal.returns-clause-those
returns-clause-those c = on_ok (λ (made : Bounded). made.multipliers ≡ multipliers_of (number c.as_slice-2.result.now) (length c.args.lp.now.rows)) (λ (made : Bounded). made.multipliers ≡ multipliers_of (objective_multiplier c.args.lp.now c.args.dict.now) (length c.args.lp.now.rows)) c.bound_by.result (λ made e. e ∙ multipliers_same (number c.as_slice-2.result.now) (objective_multiplier c.args.lp.now c.args.dict.now) (length c.args.lp.now.rows) (λ r l. objective_by c.args.lp.now c.args.dict.now r c.len-columns.result (number c.as_slice-2.result.now r) c.len-columns.ensures (ap (λ xs. number xs r) c.as_slice-2.ensures.value ∙ c.in_ok-factors.ensures.each r (subst (λ m. r < m) (sym c.len.ensures) l)))) c.bound_by.ensures.those

pub returns-clause-bound : goal.returns-clause-bound
returns-clause-bound c = subst (λ (ts : List Coef). IfOk c.bound_by.result (λ (made : Bounded). made.bound ≡ bound_with c.args.lp.now ts made.multipliers)) c.as_slice.ensures c.bound_by.ensures.bound

pub returns-clause-exact : goal.returns-clause-exact
returns-clause-exact c = subst (λ (ts : List Coef). IfOk c.bound_by.result (λ (made : Bounded). IfSome made.bound (λ z. value z ≡ exact_bound c.args.lp.now.rows ts c.args.lp.now.sides made.multipliers (first_columns (length c.args.lp.now.sides))))) c.as_slice.ensures c.bound_by.ensures.exact

pub returns-clause-below : goal.returns-clause-below
returns-clause-below c = subst (λ (ts : List Coef). IfOk c.bound_by.result (λ (made : Bounded). IfSome made.bound (λ z. AreNotNegative made.multipliers → IsAtMost (value z) c.args.lp.now.rows ts c.args.lp.now.sides made.multipliers))) c.as_slice.ensures c.bound_by.ensures.below

pub bound_by-requires-clause-formed : goal.bound_by-requires-clause-formed
bound_by-requires-clause-formed c = c.requires.formed

pub bound_by-requires-clause-columns : goal.bound_by-requires-clause-columns
bound_by-requires-clause-columns c = c.requires.columns

pub bound_by-requires-clause-rows : goal.bound_by-requires-clause-rows
bound_by-requires-clause-rows c = c.requires.rows
