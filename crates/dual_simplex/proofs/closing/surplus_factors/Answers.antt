use Rattle.std.proofs.Common.{suc, ◌+◌, ◌<◌, length, sym, ◌∙◌, ap, subst}
use Rattle.std.proofs.lemmas.List.{length-replicate}
use Rattle.dict_pivot.specs.Dictionaries.{number}
use Rattle.dict_pivot.proofs.Kept.{stored}
use Rattle.dict_pivot.proofs.StartRows.{zeros_number}
use Rattle.dual_simplex.proofs.closing.surplus_factors.Goals as goal

pub scatter-requires-clause-rows : goal.scatter-requires-clause-rows
scatter-requires-clause-rows c = c.requires.rows ∙ ap (λ m. suc (c.args.columns + c.args.columns + m)) (sym (ap length c.as_mut_slice.ensures.value ∙ ap length c.in_ok-made.ensures ∙ length-replicate _ _))

pub scatter-requires-clause-zeros : goal.scatter-requires-clause-zeros
scatter-requires-clause-zeros c = zeros_number c.as_mut_slice.result.now c.args.rows (c.as_mut_slice.ensures.value ∙ c.in_ok-made.ensures)

pub returns-clause-each : goal.returns-clause-each
returns-clause-each c = λ r l. ap (λ xs. number xs r) (stored c.in_ok-made.made.len c.scatter.new.factors c.in_ok-made.made.items (c.scatter.auto.factors ∙ c.as_mut_slice.ensures.len)) ∙ c.scatter.ensures r (subst (λ n. r < n) (sym (ap length c.as_mut_slice.ensures.value ∙ ap length c.in_ok-made.ensures ∙ length-replicate _ _)) l)
