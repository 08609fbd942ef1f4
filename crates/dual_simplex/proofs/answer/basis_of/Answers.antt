use Rattle.std.proofs.Common.{[], ◌∷◌, ◌++◌, drop, ◌∙◌, ap, arith}
use Rattle.std.proofs.lemmas.List.{take_all}
use Rattle.dual_simplex.proofs.Outcomes.{basis_none, basis_more}
use Rattle.dual_simplex.proofs.answer.basis_of.Goals as goal

pub loop-column-init : goal.loop-column-init
loop-column-init c = c.in_ok-basis.ensures.items ∙ basis_none c.args.dict.now.free

pub loop-column-preserved : goal.loop-column-preserved
loop-column-preserved c = basis_more c.args.dict.now.free c.loop-column.basis.items _ c.loop-column.column (omega (arith, c.loop-column.auto.column)) (omega (arith, c.loop-column-test.true, c.width-width.ensures.width, c.width-width.ensures.dictionary.free)) c.loop-column.invariant (c.in_ok-push.ensures.items ∙ ap (λ x. c.loop-column.basis.items ++ x ∷ []) c.free.ensures.free)

pub returns : goal.returns
returns c = c.from_vec.ensures ∙ c.loop-column.invariant ∙ ap (drop 1) (take_all c.loop-column.column c.args.dict.now.free (omega (arith, c.loop-column-test.false, c.width-width.ensures.width, c.width-width.ensures.dictionary.free)))
