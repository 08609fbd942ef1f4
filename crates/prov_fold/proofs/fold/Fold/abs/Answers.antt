use Rattle.std.proofs.Common.{rules, Ok}
use Rattle.prov_fold.specs.Rules.{abs}
use Rattle.prov_fold.proofs.MeantLemmas.{said, IsWorth}
use Rattle.prov_fold.proofs.NumberMeanings.{AbsOf, abs_means}
use Rattle.prov_fold.proofs.fold.Fold.abs.Goals as goal

pub returns-then-span-ge0-clause-made : goal.returns-then-span-ge0-clause-made
unfolding abs
returns-then-span-ge0-clause-made c = search rules

pub returns-then-span-ge0-clause-means : goal.returns-then-span-ge0-clause-means
returns-then-span-ge0-clause-means c =
    said (abs c.args.number) c.args.self.now c.args.self.now (Ok c.args.number) (IsWorth (AbsOf c.args.number)) (abs_means c.args.number c.args.self.now c.range-span.ensures.fold c.requires.below) (returns-then-span-ge0-clause-made c)

pub returns-then-span-le0-clause-made : goal.returns-then-span-le0-clause-made
unfolding abs
returns-then-span-le0-clause-made c = search rules

pub returns-then-span-le0-clause-means : goal.returns-then-span-le0-clause-means
returns-then-span-le0-clause-means c =
    said (abs c.args.number) c.args.self.now c.sum.new.self c.sum.result (IsWorth (AbsOf c.args.number)) (abs_means c.args.number c.args.self.now c.range-span.ensures.fold c.requires.below) (returns-then-span-le0-clause-made c)

pub returns-clause-made : goal.returns-clause-made
unfolding abs
returns-clause-made c = search rules

pub returns-clause-means : goal.returns-clause-means
returns-clause-means c =
    said (abs c.args.number) c.args.self.now c.number.new.self c.number.result (IsWorth (AbsOf c.args.number)) (abs_means c.args.number c.args.self.now c.range-span.ensures.fold c.requires.below) (returns-clause-made c)
