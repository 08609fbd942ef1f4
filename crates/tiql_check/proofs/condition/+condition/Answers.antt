use Rattle.std.proofs.Common.{◌∙◌, arith, rules}
use Rattle.tiql_check.specs.Scopes.{scope_of}
use Rattle.tiql_check.specs.Conditions.{with_part, cond_in}
use Rattle.tiql_check.proofs.Turns.{turn_map-step, turn_map-err, turn_map-end}
use Rattle.tiql_check.proofs.Forms.{cond-Compare, part-Ok, part-Err, not-Ok, not-Err, and-Ok, and-Err, or-Ok, or-Err}
use Rattle.tiql_check.proofs.condition.+condition.Goals as goal

pub check_condition-returns-in-Compare : goal.check_condition-returns-in-Compare
check_condition-returns-in-Compare t c = rw (cond-Compare (scope_of c.args.scope.now) c.args.cond.now _ _ _ c.in-Compare.is) (search rules)

pub check_condition-returns-in_err-part-in-Not : goal.check_condition-returns-in_err-part-in-Not
check_condition-returns-in_err-part-in-Not t c = search (rules, not-Err (scope_of c.args.scope.now) c.args.cond.now c.in-Not.part _ _ c.in-Not.is c.get.ensures c.in_err-part-in-Not.ensures)

pub check_condition-returns-in_ok-new-in-Not : goal.check_condition-returns-in_ok-new-in-Not
check_condition-returns-in_ok-new-in-Not t c = not-Ok (scope_of c.args.scope.now) c.args.cond.now c.in-Not.part _ _ c.in-Not.is c.get.ensures c.in_ok-part-in-Not.ensures ∙ search rules

pub check_condition-returns-in_err-check_conditions-in-And : goal.check_condition-returns-in_err-check_conditions-in-And
check_condition-returns-in_err-check_conditions-in-And t c = search (rules, and-Err (scope_of c.args.scope.now) c.args.cond.now c.in-And.parts _ _ c.in-And.is c.as_slice.ensures c.in_err-check_conditions-in-And.ensures)

pub check_condition-returns-in_err-check_conditions-in-Or : goal.check_condition-returns-in_err-check_conditions-in-Or
check_condition-returns-in_err-check_conditions-in-Or t c = search (rules, or-Err (scope_of c.args.scope.now) c.args.cond.now c.in-Or.parts _ _ c.in-Or.is c.as_slice-in-Or.ensures c.in_err-check_conditions-in-Or.ensures)

pub check_condition-returns-in_ok-check_conditions-in-And : goal.check_condition-returns-in_ok-check_conditions-in-And
check_condition-returns-in_ok-check_conditions-in-And t c = and-Ok (scope_of c.args.scope.now) c.args.cond.now c.in-And.parts _ _ c.in-And.is c.as_slice.ensures c.in_ok-check_conditions-in-And.ensures

pub check_condition-returns-in_ok-check_conditions-in-Or : goal.check_condition-returns-in_ok-check_conditions-in-Or
check_condition-returns-in_ok-check_conditions-in-Or t c = or-Ok (scope_of c.args.scope.now) c.args.cond.now c.in-Or.parts _ _ c.in-Or.is c.as_slice-in-Or.ensures c.in_ok-check_conditions-in-Or.ensures

pub check_conditions-loop-part-preserved : goal.check_conditions-loop-part-preserved
check_conditions-loop-part-preserved t c = turn_map-step with_part (cond_in (scope_of c.args.scope.now)) c.args.parts.now _ _ _ _ _ (omega arith) c.part-item.is (part-Ok _ _ _ _ c.in_ok-check_condition.ensures (search rules)) c.loop-part.invariant

pub check_conditions-returns-in_err-check_condition : goal.check_conditions-returns-in_err-check_condition
check_conditions-returns-in_err-check_condition t c = search (rules, turn_map-err with_part (cond_in (scope_of c.args.scope.now)) c.args.parts.now _ _ _ _ _ (omega arith) c.part-item.is (part-Err _ _ _ c.in_err-check_condition.ensures) c.loop-part.invariant)

pub check_conditions-returns : goal.check_conditions-returns
check_conditions-returns t c = turn_map-end with_part (cond_in (scope_of c.args.scope.now)) c.args.parts.now _ _ _ (omega arith) c.loop-part.invariant
