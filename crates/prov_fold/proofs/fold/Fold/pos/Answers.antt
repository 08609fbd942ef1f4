use Rattle.std.proofs.Common.{rules, Ok}
use Rattle.prov_fold.specs.Rules.{pos_of}
use Rattle.prov_fold.proofs.MeantLemmas.{said, IsWorth}
use Rattle.prov_fold.proofs.NumberMeanings.{PosOf, pos_means}
use Rattle.prov_fold.proofs.fold.Fold.pos.Goals as goal

pub returns-then-span-ge0-clause-made : goal.returns-then-span-ge0-clause-made
unfolding pos_of
returns-then-span-ge0-clause-made c = search rules

pub returns-then-span-ge0-clause-means : goal.returns-then-span-ge0-clause-means
returns-then-span-ge0-clause-means c =
    said (pos_of c.args.number) c.args.self.now c.args.self.now (Ok c.fixed.result) (IsWorth (PosOf c.args.number)) (pos_means c.args.number c.args.self.now c.range-span.ensures.fold c.requires.below) (returns-then-span-ge0-clause-made c)

pub returns-then-span-lt0-clause-made : goal.returns-then-span-lt0-clause-made
unfolding pos_of
returns-then-span-lt0-clause-made c = search rules

pub returns-then-span-lt0-clause-means : goal.returns-then-span-lt0-clause-means
returns-then-span-lt0-clause-means c =
    said (pos_of c.args.number) c.args.self.now c.args.self.now (Ok c.fixed-then-span-lt0.result) (IsWorth (PosOf c.args.number)) (pos_means c.args.number c.args.self.now c.range-span.ensures.fold c.requires.below) (returns-then-span-lt0-clause-made c)

pub returns-clause-made : goal.returns-clause-made
unfolding pos_of
returns-clause-made c = search rules

pub returns-clause-means : goal.returns-clause-means
returns-clause-means c =
    said (pos_of c.args.number) c.args.self.now c.append.new.self c.append.result (IsWorth (PosOf c.args.number)) (pos_means c.args.number c.args.self.now c.range-span.ensures.fold c.requires.below) (returns-clause-made c)
