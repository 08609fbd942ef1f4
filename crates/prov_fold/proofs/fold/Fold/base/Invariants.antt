use Rattle.std.proofs.Common.{◌≡◌, ◌+◌, ◌*◌, ◌≤◌, ◌^◌, ◌+ℤ◌, ◌*ℤ◌, unsigned_abs, drop}
use Rattle.prov_fold.specs.Sums.{added_by, total_by}
use Rattle.prov_fold.specs.declared.span.Scaled.{Scaled}
use Rattle.prov_fold.specs.Scraps.{base_of, base_in}
use Rattle.prov_fold.proofs.fold.Fold.base.Given as goal

abbrev pub invariant-loop-part : goal.invariant-loop-part
invariant-loop-part l = record {
  value : l.base +ℤ total_by (λ (p : Scaled). p.factor *ℤ base_in l.self p.number) (drop l.part-index l.parts) ≡ base_of l.self l.constant l.parts;
  small : unsigned_abs l.base + 300000000000000000 * added_by (λ (p : Scaled). unsigned_abs p.factor) (drop l.part-index l.parts) ≤ 4 * 10 ^ 35;
}
