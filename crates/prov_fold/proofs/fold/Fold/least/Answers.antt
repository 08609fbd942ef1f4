use Rattle.std.proofs.Common.{ap, of_z, w64}
use Rattle.prov_fold.proofs.LeastLemmas.{min_fits}
use Rattle.prov_fold.proofs.fold.Fold.least.Goals as goal

pub number-requires-clause-fits : goal.number-requires-clause-fits
number-requires-clause-fits c =
    min_fits c.args.self.now c.in_ok-span.span c.args.pairs.now c.requires.pairs c.in_ok-span.ensures.span c.in_ok-span.ensures.fits (λ e. c.if-span.false (ap (of_z w64) e))
