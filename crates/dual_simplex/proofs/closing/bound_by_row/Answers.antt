use Rattle.std.proofs.Common.{◌≡◌, ◌<◌, length, sym, ◌∙◌, ap, subst, arith}
use Rattle.dict_pivot.specs.Dictionaries.{number}
use Rattle.dict_pivot.proofs.Kept.{stored}
use Rattle.dual_simplex.specs.declared.closing.Bounded.{Bounded}
use Rattle.dual_simplex.specs.Shown.{row_multiplier, multipliers_of}
use Rattle.dual_simplex.proofs.Reach.{multipliers_same, no_terms}
use Rattle.dual_simplex.proofs.Outcomes.{on_ok, row_by}
use Rattle.dual_simplex.proofs.closing.bound_by_row.Goals as goal

pub overflow_cast-columns : goal.overflow_cast-columns
overflow_cast-columns c = omega (arith, c.len-columns.ensures, c.requires.columns)

pub surplus_factors-requires-clause-columns : goal.surplus_factors-requires-clause-columns
surplus_factors-requires-clause-columns c = omega (arith, c.requires.width, c.len-columns.ensures)

pub surplus_factors-requires-clause-rows : goal.surplus_factors-requires-clause-rows
surplus_factors-requires-clause-rows c = omega (arith, c.requires.height, c.len-columns.ensures, c.len.ensures)

pub overflow_add-columns : goal.overflow_add-columns
overflow_add-columns c = omega (arith, c.len-columns.ensures, c.requires.columns)

pub note-requires : goal.note-requires
note-requires c = omega (arith, c.requires.row, c.requires.height, c.len-columns.ensures, c.len.ensures, (c.as_mut_slice-2.ensures.len ∙ sym c.as_mut_slice.ensures.len ∙ ap length c.as_mut_slice.ensures.value ∙ c.in_ok-factors.ensures.size))

pub bound_by-requires-clause-size : goal.bound_by-requires-clause-size
bound_by-requires-clause-size c = ap length (c.as_slice.ensures.value ∙ stored c.in_ok-factors.factors.len c.note.new.factors _ (c.note.auto.factors ∙ c.as_mut_slice-2.ensures.len)) ∙ c.note.auto.factors ∙ (c.as_mut_slice-2.ensures.len ∙ sym c.as_mut_slice.ensures.len ∙ ap length c.as_mut_slice.ensures.value ∙ c.in_ok-factors.ensures.size) ∙ c.len.ensures

pub returns-clause-those : goal.returns-clause-those
returns-clause-those c =
    on_ok (λ (made : Bounded). made.multipliers ≡ multipliers_of (number c.as_slice.result.now) (length c.args.lp.now.rows)) (λ (made : Bounded). made.multipliers ≡ multipliers_of (row_multiplier c.args.lp.now c.args.dict.now c.args.row) (length c.args.lp.now.rows)) c.bound_by.result (λ made e. e ∙ multipliers_same (number c.as_slice.result.now) (row_multiplier c.args.lp.now c.args.dict.now c.args.row) (length c.args.lp.now.rows) (λ r l. row_by c.args.lp.now c.args.dict.now c.args.row r c.len-columns.result (number c.as_slice.result.now r) (number c.as_mut_slice.result.now r) (number c.as_mut_slice-2.result.now r) c.from.result c.len-columns.ensures (ap (λ xs. number xs r) c.as_mut_slice.ensures.value ∙ c.in_ok-factors.ensures.each r (subst (λ m. r < m) (sym c.len.ensures) l)) (ap (λ xs. number xs r) (c.as_mut_slice-2.ensures.value ∙ stored c.in_ok-factors.factors.len c.negate.new.factors _ (c.negate.auto.factors ∙ c.as_mut_slice.ensures.len)) ∙ c.negate.ensures r (subst (λ m. r < m) (sym (ap length c.as_mut_slice.ensures.value ∙ c.in_ok-factors.ensures.size)) (subst (λ m. r < m) (sym c.len.ensures) l))) c.from.ensures (ap (λ xs. number xs r) (c.as_slice.ensures.value ∙ stored c.in_ok-factors.factors.len c.note.new.factors _ (c.note.auto.factors ∙ c.as_mut_slice-2.ensures.len)) ∙ c.note.ensures r (subst (λ m. r < m) (sym (c.as_mut_slice-2.ensures.len ∙ sym c.as_mut_slice.ensures.len ∙ ap length c.as_mut_slice.ensures.value ∙ c.in_ok-factors.ensures.size)) (subst (λ m. r < m) (sym c.len.ensures) l))))) c.bound_by.ensures.those

pub surplus_factors-requires-clause-row : goal.surplus_factors-requires-clause-row
surplus_factors-requires-clause-row c = c.requires.row

pub bound_by-requires-clause-formed : goal.bound_by-requires-clause-formed
bound_by-requires-clause-formed c = c.requires.formed

pub bound_by-requires-clause-columns : goal.bound_by-requires-clause-columns
bound_by-requires-clause-columns c = c.requires.columns

pub bound_by-requires-clause-rows : goal.bound_by-requires-clause-rows
bound_by-requires-clause-rows c = c.requires.rows

pub bound_by-requires-clause-aim : goal.bound_by-requires-clause-aim
bound_by-requires-clause-aim c = no_terms (length c.args.lp.now.sides)

pub returns-clause-bound : goal.returns-clause-bound
returns-clause-bound c = c.bound_by.ensures.bound

pub returns-clause-exact : goal.returns-clause-exact
returns-clause-exact c = c.bound_by.ensures.exact
