use Rattle.std.proofs.Common.{◌≡◌, ◌++◌, drop}
use Rattle.prov_fold.specs.Spans.{sure}
use Rattle.least_encode.proofs.narrow.sure_pairs.Given as goal

abbrev pub invariant-loop-pair : goal.invariant-loop-pair
invariant-loop-pair l = l.some.items ++ sure (drop l.pair-index l.pairs) ≡ sure l.pairs
