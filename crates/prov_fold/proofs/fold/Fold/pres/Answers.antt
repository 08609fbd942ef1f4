use Rattle.std.proofs.Common.{rules}
use Rattle.prov_fold.specs.Values.{number_at}
use Rattle.prov_fold.specs.Rules.{pres}
use Rattle.prov_fold.proofs.MeantLemmas.{said, IsWorth}
use Rattle.prov_fold.proofs.NumberMeanings.{pres_means}
use Rattle.prov_fold.proofs.fold.Fold.pres.Goals as goal

pub returns-clause-made : goal.returns-clause-made
unfolding pres
returns-clause-made c = search rules

pub returns-clause-means : goal.returns-clause-means
returns-clause-means c =
    said (pres c.args.column) c.args.self.now c.append.new.self c.append.result (IsWorth (λ world v. number_at world c.args.column)) (pres_means c.args.column c.args.self.now c.append.ensures.before) (returns-clause-made c)
