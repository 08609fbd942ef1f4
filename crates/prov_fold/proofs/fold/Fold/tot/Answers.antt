use Rattle.std.proofs.Common.{refl, arith}
use Rattle.prov_fold.proofs.NumberLemmas.{tot_fits}
use Rattle.prov_arena.specs.Formulas.{TotNode}
use Rattle.prov_fold.specs.Rules.{number_of}
use Rattle.prov_fold.proofs.PlaceLemmas.{means_by}
use Rattle.prov_fold.proofs.MeantLemmas.{said, IsWorth, number_meant}
use Rattle.prov_fold.proofs.fold.Fold.tot.Goals as goal

pub number-requires-clause-fits : goal.number-requires-clause-fits
number-requires-clause-fits c =
    tot_fits c.args.self.now c.range-span.result c.args.number c.linear.result.0 c.linear.result.1.now c.range-span.ensures.fold c.requires.below c.linear.ensures.node c.range-span.ensures.range c.range-span.ensures.fits (omega (arith, c.if-terms-lt2.false))

pub returns-clause-means : goal.returns-clause-means
returns-clause-means c =
    said (number_of c.range-span.result (TotNode c.args.number)) c.args.self.now c.number.new.self c.number.result (IsWorth (λ world v. v c.args.number))
    (number_meant c.range-span.result (TotNode c.args.number) c.args.self.now (λ world v. v c.args.number) c.range-span.ensures.fold.count (λ h world later. refl)) c.number.ensures.made

pub returns-then-terms-lt2-clause-means : goal.returns-then-terms-lt2-clause-means
returns-then-terms-lt2-clause-means c = means_by c.args.self.now (IsWorth (λ world v. v c.args.number) c.args.number) (λ h world later. refl)
