use Rattle.std.proofs.Common.{rules, Ok}
use Rattle.prov_fold.specs.Rules.{guard}
use Rattle.prov_fold.proofs.MeantLemmas.{said, IsWorth}
use Rattle.prov_fold.proofs.NumberMeanings.{GuardOf, guard_means}
use Rattle.prov_fold.proofs.fold.Fold.guard.Goals as goal

pub returns-in-False-clause-made : goal.returns-in-False-clause-made
unfolding guard
returns-in-False-clause-made c = search rules

pub returns-in-False-clause-means : goal.returns-in-False-clause-means
returns-in-False-clause-means c =
    said (guard c.args.truth c.args.number) c.args.self.now c.constant.new.self c.constant.result (IsWorth (GuardOf c.args.truth c.args.number)) (guard_means c.args.truth c.args.number c.args.self.now c.node.ensures.fold c.requires.truth c.requires.number.below) (returns-in-False-clause-made c)

pub returns-in-True-clause-made : goal.returns-in-True-clause-made
unfolding guard
returns-in-True-clause-made c = search rules

pub returns-in-True-clause-means : goal.returns-in-True-clause-means
returns-in-True-clause-means c =
    said (guard c.args.truth c.args.number) c.args.self.now c.args.self.now (Ok c.args.number) (IsWorth (GuardOf c.args.truth c.args.number)) (guard_means c.args.truth c.args.number c.args.self.now c.node.ensures.fold c.requires.truth c.requires.number.below) (returns-in-True-clause-made c)

pub returns-in-Not-clause-made : goal.returns-in-Not-clause-made
unfolding guard
returns-in-Not-clause-made c = search rules

pub returns-in-Not-clause-means : goal.returns-in-Not-clause-means
returns-in-Not-clause-means c =
    said (guard c.args.truth c.args.number) c.args.self.now c.guard_not.new.self c.guard_not.result (IsWorth (GuardOf c.args.truth c.args.number)) (guard_means c.args.truth c.args.number c.args.self.now c.node.ensures.fold c.requires.truth c.requires.number.below) (returns-in-Not-clause-made c)

pub returns-in_default-clause-made : goal.returns-in_default-clause-made
unfolding guard
returns-in_default-clause-made c = search rules

pub returns-in_default-clause-means : goal.returns-in_default-clause-means
returns-in_default-clause-means c =
    said (guard c.args.truth c.args.number) c.args.self.now c.guard_plain.new.self c.guard_plain.result (IsWorth (GuardOf c.args.truth c.args.number)) (guard_means c.args.truth c.args.number c.args.self.now c.node.ensures.fold c.requires.truth c.requires.number.below) (returns-in_default-clause-made c)
