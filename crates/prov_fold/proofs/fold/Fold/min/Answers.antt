use Rattle.std.proofs.Common.{rules, ◌∙◌, sym, subst, All}
use Rattle.prov_fold.specs.Graphs.{HasPair}
use Rattle.prov_fold.proofs.PairLemmas.{All-pairs_left}
use Rattle.prov_fold.specs.Rules.{min_of}
use Rattle.prov_fold.proofs.MeantLemmas.{said, IsWorth}
use Rattle.prov_fold.proofs.MinMeanings.{LeastOf, min_means}
use Rattle.prov_fold.proofs.fold.Fold.min.Goals as goal

pub min_some-requires : goal.min_some-requires
min_some-requires c =
    subst (All (HasPair c.args.self.now)) (sym (c.as_slice.ensures.value ∙ c.in_ok-some.ensures)) (All-pairs_left (HasPair c.args.self.now) c.args.pairs.now c.requires)

pub returns-clause-made : goal.returns-clause-made
unfolding min_of
returns-clause-made c = search rules

pub returns-clause-means : goal.returns-clause-means
returns-clause-means c =
    said (min_of c.args.pairs.now) c.args.self.now c.min_some.new.self c.min_some.result (IsWorth (LeastOf c.args.pairs.now)) (min_means c.args.pairs.now c.args.self.now c.alloc.ensures c.requires) (returns-clause-made c)
