use Rattle.std.proofs.Common.{sym, ◌∙◌, arith, rules, [], ◌∷◌}
use Rattle.std.proofs.lemmas.Int.{ints}
use Rattle.base_kit.proofs.Asking.{left_err}
use Rattle.row_values.specs.Asked.{asked}
use Rattle.row_values.proofs.Evaluate.{summed_step, summed_end}
use Rattle.world_def.proofs.Judging.{sum-init}
use Rattle.world_def.proofs.judge.sum_over.Goals as goal

pub loop-row-init : goal.loop-row-init
loop-row-init c = (sum-init _ _, omega (arith, ints))

pub loop-row-preserved : goal.loop-row-preserved
loop-row-preserved c = (summed_step (λ row. asked (row ∷ []) c.args.part.now) _ _ _ _ _ _ _ (omega arith) c.row-item.is (sym c.number.ensures.value ∙ c.in_ok-number.was) (omega (arith, ints)) c.loop-row.invariant.0, omega (arith, ints, c.in_ok-number.ensures.small))

pub returns-in_err-number-clause-value : goal.returns-in_err-number-clause-value
returns-in_err-number-clause-value c = search (rules, left_err (λ row. asked (row ∷ []) c.args.part.now) _ _ _ _ _ _ (omega arith) c.row-item.is (sym c.number.ensures.value ∙ c.in_err-number.was) c.loop-row.invariant.0)

pub returns-clause-value : goal.returns-clause-value
returns-clause-value c = c.within.ensures.value ∙ summed_end _ _ _ _ _ (omega arith) c.loop-row.invariant.0
