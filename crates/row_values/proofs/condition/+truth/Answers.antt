use Rattle.std.proofs.Common.{sym, ◌∙◌, arith, rules}
use Rattle.base_kit.proofs.Asking.{left_err}
use Rattle.row_values.proofs.Evaluate.{all_init, all_step, all_end, any_init, any_step, any_end}
use Rattle.row_values.proofs.condition.+truth.Goals as goal
use Rattle.row_values.proofs.condition.+truth.Goals.{all_hold-then-all, all_hold-else-all, one_holds-then-one, one_holds-else-one}

pub all_hold-loop-part-init : goal.all_hold-loop-part-init
all_hold-loop-part-init t c = all_init _ _

pub all_hold-loop-part-preserved : goal.all_hold-loop-part-preserved
all_hold-loop-part-preserved t c = all_step _ _ _ _ _ _ _ _ (omega arith) c.part-item.is (sym c.truth.ensures ∙ c.in_ok-holds.was)
    (elim c.if-all.branch [ all_hold-then-all w ↦ rw w.if-all.true w.all-is | all_hold-else-all w ↦ rw w.if-all.false (w.all-is ∙ w.if-all.false) ])
    c.loop-part.invariant

pub all_hold-returns-in_err-holds : goal.all_hold-returns-in_err-holds
all_hold-returns-in_err-holds t c = search (rules, left_err _ _ _ _ _ _ _ (omega arith) c.part-item.is (sym c.truth.ensures ∙ c.in_err-holds.was) c.loop-part.invariant)

pub all_hold-returns : goal.all_hold-returns
all_hold-returns t c = all_end _ _ _ _ _ (omega arith) c.loop-part.invariant

pub one_holds-loop-part-init : goal.one_holds-loop-part-init
one_holds-loop-part-init t c = any_init _ _

pub one_holds-loop-part-preserved : goal.one_holds-loop-part-preserved
one_holds-loop-part-preserved t c = any_step _ _ _ _ _ _ _ _ (omega arith) c.part-item.is (sym c.truth.ensures ∙ c.in_ok-holds.was)
    (elim c.if-one.branch [ one_holds-then-one w ↦ rw w.if-one.true (w.one-is ∙ w.if-one.true) | one_holds-else-one w ↦ rw w.if-one.false w.one-is ])
    c.loop-part.invariant

pub one_holds-returns-in_err-holds : goal.one_holds-returns-in_err-holds
one_holds-returns-in_err-holds t c = search (rules, left_err _ _ _ _ _ _ _ (omega arith) c.part-item.is (sym c.truth.ensures ∙ c.in_err-holds.was) c.loop-part.invariant)

pub one_holds-returns : goal.one_holds-returns
one_holds-returns t c = any_end _ _ _ _ _ (omega arith) c.loop-part.invariant
