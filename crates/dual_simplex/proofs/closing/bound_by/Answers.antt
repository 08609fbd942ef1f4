use Rattle.std.proofs.Common.{◌<◌, List, length, sym, ◌∙◌, ap, subst, arith}
use Rattle.std.specs.List.{All}
use Rattle.ip_rows.specs.declared.Bounds.{Bounds}
use Rattle.ip_rows.specs.declared.rows.IpRow.{IpRow}
use Rattle.ip_rows.specs.declared.mult.Mult.{Mult}
use Rattle.ip_rows.specs.Rows.{AreTerms}
use Rattle.safe_bound.specs.Bound.{bound_of}
use Rattle.dict_pivot.specs.Dictionaries.{number}
use Rattle.dual_simplex.specs.Shown.{multipliers_of, first_columns}
use Rattle.dual_simplex.proofs.Reach.{all_listed, reach_is}
use Rattle.dual_simplex.proofs.Outcomes.{reach_for, exact_for, below_for}
use Rattle.dual_simplex.proofs.closing.bound_by.Goals as goal

pub listed-requires : goal.listed-requires
listed-requires c = omega (arith, c.requires.size, c.requires.rows)

pub columns_of-requires : goal.columns_of-requires
columns_of-requires c = omega (arith, c.len.ensures, c.requires.columns)

pub bound-found-requires-clause-rows : goal.bound-found-requires-clause-rows
bound-found-requires-clause-rows c = subst (λ (s : List Bounds). All (λ (row : IpRow). AreTerms (length s) row.terms) c.args.lp.now.rows) (sym c.as_slice.ensures) c.requires.formed.rows

pub bound-found-requires-clause-aim : goal.bound-found-requires-clause-aim
bound-found-requires-clause-aim c = subst (λ (s : List Bounds). AreTerms (length s) c.args.aim.now) (sym c.as_slice.ensures) c.requires.aim

pub bound-found-requires-clause-named : goal.bound-found-requires-clause-named
bound-found-requires-clause-named c = subst (All (λ (m : Mult). m.row < length c.args.lp.now.rows)) (sym (c.as_slice-3.ensures.value ∙ (c.in_ok-multipliers.ensures ∙ ap (multipliers_of (number c.args.factors.now)) c.requires.size))) (all_listed (λ (m : Mult). m.row < length c.args.lp.now.rows) (number c.args.factors.now) (length c.args.lp.now.rows) (λ r l. l))

pub bound-found-requires-clause-reach : goal.bound-found-requires-clause-reach
bound-found-requires-clause-reach c = reach_for (length c.args.lp.now.sides) (length c.as_slice.result.now) c.args.lp.now.rows c.args.aim.now (multipliers_of (number c.args.factors.now) (length c.args.lp.now.rows)) c.as_slice-3.result.now c.as_slice-2.result.now (ap length c.as_slice.ensures) (c.as_slice-3.ensures.value ∙ (c.in_ok-multipliers.ensures ∙ ap (multipliers_of (number c.args.factors.now)) c.requires.size)) (c.as_slice-2.ensures.value ∙ c.in_ok-reach.ensures ∙ ap first_columns c.len.ensures) (reach_is (length c.args.lp.now.sides) c.args.lp.now.rows c.args.aim.now (multipliers_of (number c.args.factors.now) (length c.args.lp.now.rows)) c.requires.aim c.requires.formed.rows (all_listed (λ (m : Mult). m.row < length c.args.lp.now.rows) (number c.args.factors.now) (length c.args.lp.now.rows) (λ r l. l)))

pub returns-clause-those : goal.returns-clause-those
returns-clause-those c = c.from_vec.ensures ∙ (c.in_ok-multipliers.ensures ∙ ap (multipliers_of (number c.args.factors.now)) c.requires.size)

pub returns-clause-bound : goal.returns-clause-bound
returns-clause-bound c = c.bound-found.ensures.gives ∙ (λ i. bound_of c.args.lp.now.rows c.args.aim.now (c.as_slice.ensures i) ((c.as_slice-3.ensures.value ∙ sym c.from_vec.ensures) i) ((c.as_slice-2.ensures.value ∙ c.in_ok-reach.ensures ∙ ap first_columns c.len.ensures) i))

pub returns-clause-exact : goal.returns-clause-exact
returns-clause-exact c = exact_for c.bound-found.result c.args.lp.now.rows c.args.aim.now _ _ _ _ _ _ c.as_slice.ensures (c.as_slice-3.ensures.value ∙ sym c.from_vec.ensures) (c.as_slice-2.ensures.value ∙ c.in_ok-reach.ensures ∙ ap first_columns c.len.ensures) c.bound-found.ensures.exact

pub returns-clause-below : goal.returns-clause-below
returns-clause-below c = below_for c.bound-found.result c.args.lp.now.rows c.args.aim.now _ _ _ _ c.as_slice.ensures (c.as_slice-3.ensures.value ∙ sym c.from_vec.ensures) c.bound-found.ensures.below
