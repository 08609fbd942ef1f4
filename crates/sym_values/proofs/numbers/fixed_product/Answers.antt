use Rattle.std.proofs.Common.{sym, ap, ◌∙◌, ◌+◌, map, ℤ, arith, rules, FitsSigned}
use Rattle.std.specs.Int.{w128}
use Rattle.std.proofs.lemmas.Int.{ints}
use Rattle.std.proofs.Math.Facts.{to_z-of_z}
use Rattle.sym_values.proofs.PlainValues.{fixed_left, fixed_init, fixed_step, fixed_stop, fixed_end}
use Rattle.sym_values.proofs.numbers.fixed_product.Goals as goal

pub loop-factor-init : goal.loop-factor-init
loop-factor-init c = (fixed_init _ _ c.args.factors.now, omega (arith, ints))

pub loop-factor-preserved : goal.loop-factor-preserved
loop-factor-preserved c =
    let fits : FitsSigned w128 c.in_ok-partial.partial = search rules in (
      ap (λ (p : ℤ). fixed_left (map (λ columns. columns.now) c.args.scope.now) (map (λ row. row.now) c.args.rows.now) c.args.factors.now (c.loop-factor.factor-index + 1) p) (to_z-of_z fits)
          ∙ fixed_step _ _ c.args.factors.now _ c.factor-item.result _ _ (omega arith) c.factor-item.is c.loop-factor.invariant.0 _ (sym c.with_fixed.ensures.value ∙ c.in_ok-partial.was),
      search rules,
    )

pub returns-in_err-partial-clause-value : goal.returns-in_err-partial-clause-value
returns-in_err-partial-clause-value c = search (rules, fixed_stop _ _ c.args.factors.now _ c.factor-item.result _ _ (omega arith) c.factor-item.is c.loop-factor.invariant.0 _ (sym c.with_fixed.ensures.value ∙ c.in_err-partial.was))

pub returns-clause-value : goal.returns-clause-value
returns-clause-value c = c.within.ensures.value ∙ fixed_end _ _ c.args.factors.now _ _ _ (omega arith) c.loop-factor.invariant.0
