use Rattle.std.proofs.Common.{◌≡◌, drop, fold}
use Rattle.prov_fold.specs.Spans.{lesser}
use Rattle.least_encode.proofs.narrow.least_of.Given as goal

abbrev pub invariant-loop-number : goal.invariant-loop-number
invariant-loop-number l = fold lesser l.end (drop l.number-index l.rest) ≡ fold lesser l.initial.end l.rest
