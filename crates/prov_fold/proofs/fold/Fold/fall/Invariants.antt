use Rattle.std.proofs.Common.{◌≡◌, ◌+◌, ◌≤◌, ◌+ℤ◌, unsigned_abs, drop}
use Rattle.prov_fold.specs.Sums.{added_by, total_by}
use Rattle.prov_fold.specs.Scraps.{weight_of, fall_of}
use Rattle.prov_fold.proofs.fold.Fold.fall.Given as goal

abbrev pub invariant-loop-term : goal.invariant-loop-term
invariant-loop-term l = record {
  value : l.fall +ℤ total_by (fall_of l.self) (drop l.term-index l.terms) ≡ total_by (fall_of l.self) l.terms;
  small : unsigned_abs l.fall + added_by (weight_of l.self) (drop l.term-index l.terms) ≤ 200000000000000000;
}
