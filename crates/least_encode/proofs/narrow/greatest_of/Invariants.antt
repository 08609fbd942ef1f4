use Rattle.std.proofs.Common.{◌≡◌, drop, fold}
use Rattle.prov_fold.specs.Spans.{greater}
use Rattle.least_encode.proofs.narrow.greatest_of.Given as goal

abbrev pub invariant-loop-number : goal.invariant-loop-number
invariant-loop-number l = fold greater l.end (drop l.number-index l.rest) ≡ fold greater l.initial.end l.rest
