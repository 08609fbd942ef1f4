use Rattle.std.proofs.Common.{◌≡◌, ◌+◌, ◌≤◌, ◌^◌, unsigned_abs, drop, ◌++◌}
use Rattle.prov_fold.specs.Sums.{added_by}
use Rattle.prov_fold.specs.declared.sums.Scrap.{Scrap}
use Rattle.prov_fold.specs.Scraps.{joins_from}
use Rattle.prov_fold.proofs.sums.join.Given as goal

abbrev pub invariant-loop-scrap : goal.invariant-loop-scrap
invariant-loop-scrap l = record {
  listed : l.all.items ++ joins_from l.current (drop l.scrap-index l.rest) ≡ joins_from l.initial.current l.rest;
  small : unsigned_abs l.current.factor + added_by (λ (s : Scrap). unsigned_abs s.factor) (drop l.scrap-index l.rest) ≤ 10 ^ 36;
}
