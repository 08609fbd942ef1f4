use Rattle.std.proofs.Common.{◌≡◌, ◌+◌, ◌<◌, ◌^◌, unsigned_abs, drop, ◌++◌}
use Rattle.prov_fold.specs.Sums.{added_by}
use Rattle.bool_encode.specs.declared.scrap.Scrap.{Scrap}
use Rattle.bool_encode.specs.Scraps.{joins_from}
use Rattle.bool_encode.proofs.scrap.join.Given as goal

abbrev pub invariant-loop-scrap : goal.invariant-loop-scrap
invariant-loop-scrap l = record {
  listed : l.all.items ++ joins_from l.current (drop l.scrap-index l.rest) ≡ joins_from l.initial.current l.rest;
  small : unsigned_abs l.current.factor + added_by (λ (s : Scrap). unsigned_abs s.factor) (drop l.scrap-index l.rest) < 2 ^ 63;
}
