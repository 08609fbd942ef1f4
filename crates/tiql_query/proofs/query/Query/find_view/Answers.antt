use Rattle.std.proofs.Common.{◌+◌, rules, arith, ap, length, refl, None}
use Rattle.tiql_query.proofs.Finding.{none_before_none, first_here, none_here, both_none, not_none, none_left}
use Rattle.tiql_query.proofs.query.Query.find_view.Goals as goal

pub loop-view-init : goal.loop-view-init
loop-view-init c = (refl, none_before_none _ _)

pub returns-then-eq-clause-first : goal.returns-then-eq-clause-first
returns-then-eq-clause-first c = first_here (λ it. it.name) c.args.name.now c.args.self.now.views c.loop-view.view-index c.loop-view.number c.view-item.result c.loop-view.invariant.0 (omega (arith, ap length c.as_slice-view-items.ensures)) (search rules) (search rules) c.loop-view.invariant.1

pub returns-then-eq-clause-none : goal.returns-then-eq-clause-none
returns-then-eq-clause-none c = λ few. not_none (λ it. it.name) c.args.name.now c.args.self.now.views c.loop-view.view-index c.loop-view.number c.view-item.result (omega (arith, ap length c.as_slice-view-items.ensures)) (search rules) (search rules)

pub returns-in_err-number-clause-none : goal.returns-in_err-number-clause-none
returns-in_err-number-clause-none c = λ few. both_none (λ it. it.name) c.args.name.now c.args.self.now.views c.from_residual.result (c.loop-view.view-index + 1) c.from_residual.ensures (none_left few (c.loop-view.invariant.0) (λ more. c.in_err-number.ensures more)) (none_here (λ it. it.name) c.args.name.now c.args.self.now.views c.loop-view.view-index c.view-item.result (omega (arith, ap length c.as_slice-view-items.ensures)) (search rules) (search rules) c.loop-view.invariant.1)

pub loop-view-preserved : goal.loop-view-preserved
loop-view-preserved c = (grind arith, none_here (λ it. it.name) c.args.name.now c.args.self.now.views c.loop-view.view-index c.view-item.result (omega (arith, ap length c.as_slice-view-items.ensures)) (search rules) (search rules) c.loop-view.invariant.1)

pub returns-clause-none : goal.returns-clause-none
returns-clause-none c = λ few. both_none (λ it. it.name) c.args.name.now c.args.self.now.views None c.loop-view.view-index refl (omega (arith, ap length c.as_slice-view-items.ensures)) c.loop-view.invariant.1
