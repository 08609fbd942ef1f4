use Rattle.std.proofs.Common.{◌≡◌, ◌+◌, ◌*◌, ◌≤◌, ◌^◌, ◌+ℤ◌, ◌*ℤ◌, unsigned_abs, drop}
use Rattle.prov_arena.specs.declared.part.Term.{Term}
use Rattle.prov_fold.specs.Sums.{added_by, total_by}
use Rattle.prov_fold.specs.Values.{number_at}
use Rattle.prov_fold.proofs.values.linear.Given as goal

abbrev pub invariant-loop-term : goal.invariant-loop-term
invariant-loop-term l = record {
  value : l.sum +ℤ total_by (λ (t : Term). t.factor *ℤ number_at l.values t.node) (drop l.term-index l.terms) ≡ l.constant +ℤ total_by (λ (t : Term). t.factor *ℤ number_at l.values t.node) l.terms;
  small : unsigned_abs l.sum + 300000000000000000 * added_by (λ (t : Term). unsigned_abs t.factor) (drop l.term-index l.terms) ≤ 4 * 10 ^ 35;
}
