use Rattle.std.proofs.Common.{◌≡◌, ℕ, ◌<◌, ◌≤◌}
use Rattle.rat128.specs.Fractions.{minus}
use Rattle.dict_pivot.specs.Dictionaries.{number}
use Rattle.dual_simplex.proofs.closing.negate.Given as goal

abbrev pub invariant-loop-factor : goal.invariant-loop-factor
invariant-loop-factor l = record {
  done : (k : ℕ) → k < l.factor-index → number l.factors k ≡ minus (number l.fn.factors k);
  left : (k : ℕ) → l.factor-index ≤ k → number l.factors k ≡ number l.fn.factors k;
}
