use Rattle.std.proofs.Common.{◌≡◌, drop, ◌++◌}
use Rattle.bool_encode.specs.Scraps.{kept}
use Rattle.bool_encode.proofs.scrap.narrowed.Given as goal

abbrev pub invariant-loop-scrap : goal.invariant-loop-scrap
invariant-loop-scrap l = l.terms ++ kept (drop l.scrap-index l.scraps) ≡ kept l.scraps
