use Rattle.std.proofs.Common.{sym, ◌∙◌, ap, arith, rules, Bool}
use Rattle.std.specs.Prelude.{Ok}
use Rattle.world_def.proofs.Judging.{meets-step, meets-here, meets-err, meets-end}
use Rattle.world_def.proofs.judge.one_meets.Goals as goal

pub loop-row-preserved : goal.loop-row-preserved
loop-row-preserved c = meets-step c.args.test.now c.args.rows.now _ _ (omega arith) c.row-item.is _ (sym c.truth.ensures ∙ c.in_ok-truth.was ∙ ap (λ (b : Bool). Ok b) c.if-branch.false) c.loop-row.invariant

pub returns-then-branch : goal.returns-then-branch
returns-then-branch c = meets-here c.args.test.now c.args.rows.now _ _ (omega arith) c.row-item.is _ (sym c.truth.ensures ∙ c.in_ok-truth.was ∙ ap (λ (b : Bool). Ok b) c.if-branch.true) c.loop-row.invariant

pub returns-in_err-truth : goal.returns-in_err-truth
returns-in_err-truth c = search (rules, meets-err c.args.test.now c.args.rows.now _ _ (omega arith) c.row-item.is _ _ (sym c.truth.ensures ∙ c.in_err-truth.was) c.loop-row.invariant)

pub returns : goal.returns
returns c = meets-end c.args.test.now c.args.rows.now c.loop-row.row-index (omega arith) _ c.loop-row.invariant
