use Rattle.std.proofs.Common.{refl, sym, ◌∙◌, ap, arith}
use Rattle.rat128.specs.Fractions.{minus}
use Rattle.dual_simplex.proofs.Reach.{negated_more, still_left}
use Rattle.dual_simplex.proofs.closing.negate.Goals as goal

pub loop-factor-preserved : goal.loop-factor-preserved
loop-factor-preserved c = record {
  done = negated_more c.args.factors.now c.loop-factor.factors _ c.loop-factor.factor-index c.factor-item.result c.negated.result (omega (arith, c.loop-factor-test.true, c.loop-factor.auto.factors)) c.factor-item.is refl (c.negated.ensures.gives ∙ ap minus (sym c.factor-item.is)) c.loop-factor.invariant.done c.loop-factor.invariant.left;
  left = still_left c.args.factors.now c.loop-factor.factors _ c.loop-factor.factor-index c.negated.result refl c.loop-factor.invariant.left;
}
