use Rattle.std.proofs.Common.{sym, ◌∙◌, ap, arith, rules, Bool}
use Rattle.std.specs.Prelude.{Ok}
use Rattle.world_def.proofs.Judging.{broken-step, broken-here, broken-err, broken-end}
use Rattle.world_def.proofs.judge.first_broken.Goals as goal

pub loop-at-preserved : goal.loop-at-preserved
loop-at-preserved c = broken-step c.args.test.now c.args.rows.now _ _ (omega arith) c.index-rows-at.is _ _ (sym c.truth.ensures ∙ c.in_ok-truth.was ∙ ap (λ (b : Bool). Ok b) c.if-not-branch.false) c.loop-at.invariant

pub returns-then-not-branch : goal.returns-then-not-branch
returns-then-not-branch c = search (rules, broken-here c.args.test.now c.args.rows.now _ _ (omega arith) c.index-rows-at.is _ _ (sym c.truth.ensures ∙ c.in_ok-truth.was ∙ ap (λ (b : Bool). Ok b) c.if-not-branch.true) c.loop-at.invariant)

pub returns-in_err-truth : goal.returns-in_err-truth
returns-in_err-truth c = search (rules, broken-err c.args.test.now c.args.rows.now _ _ (omega arith) c.index-rows-at.is _ _ _ (sym c.truth.ensures ∙ c.in_err-truth.was) c.loop-at.invariant)

pub returns : goal.returns
returns c = broken-end c.args.test.now c.args.rows.now c.loop-at.at (omega arith) _ _ c.loop-at.invariant
