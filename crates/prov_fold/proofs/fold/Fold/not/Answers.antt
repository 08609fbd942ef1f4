use Rattle.std.proofs.Common.{subst, rules, Ok}
use Rattle.prov_fold.specs.Folds.{IsFold}
use Rattle.prov_fold.specs.Rules.{not_of}
use Rattle.prov_fold.proofs.MeantLemmas.{said}
use Rattle.prov_fold.proofs.NumberMeanings.{NotOf, not_means}
use Rattle.prov_fold.proofs.fold.Fold.not.Goals as goal

pub returns-in-False-clause-made : goal.returns-in-False-clause-made
unfolding not_of
returns-in-False-clause-made c = search rules

pub returns-in-False-clause-means : goal.returns-in-False-clause-means
returns-in-False-clause-means c =
    said (not_of c.args.truth) c.args.self.now c.args.self.now (Ok c.fixed.result) (NotOf c.args.truth) (not_means c.args.truth c.args.self.now (subst IsFold c.self.view_is c.self.invariant) c.requires.below) (returns-in-False-clause-made c)

pub returns-in-True-clause-made : goal.returns-in-True-clause-made
unfolding not_of
returns-in-True-clause-made c = search rules

pub returns-in-True-clause-means : goal.returns-in-True-clause-means
returns-in-True-clause-means c =
    said (not_of c.args.truth) c.args.self.now c.args.self.now (Ok c.fixed-in-True.result) (NotOf c.args.truth) (not_means c.args.truth c.args.self.now (subst IsFold c.self.view_is c.self.invariant) c.requires.below) (returns-in-True-clause-made c)

pub returns-in-Not-clause-made : goal.returns-in-Not-clause-made
unfolding not_of
returns-in-Not-clause-made c = search rules

pub returns-in-Not-clause-means : goal.returns-in-Not-clause-means
returns-in-Not-clause-means c =
    said (not_of c.args.truth) c.args.self.now c.args.self.now (Ok c.in-Not.kid) (NotOf c.args.truth) (not_means c.args.truth c.args.self.now (subst IsFold c.self.view_is c.self.invariant) c.requires.below) (returns-in-Not-clause-made c)

pub returns-in_default-clause-made : goal.returns-in_default-clause-made
unfolding not_of
returns-in_default-clause-made c = search rules

pub returns-in_default-clause-means : goal.returns-in_default-clause-means
returns-in_default-clause-means c =
    said (not_of c.args.truth) c.args.self.now c.append.new.self c.append.result (NotOf c.args.truth) (not_means c.args.truth c.args.self.now (subst IsFold c.self.view_is c.self.invariant) c.requires.below) (returns-in_default-clause-made c)
