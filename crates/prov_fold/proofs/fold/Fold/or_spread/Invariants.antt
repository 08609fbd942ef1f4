use Rattle.std.proofs.Common.{◌≡◌, ◌++◌, drop, All}
use Rattle.std.specs.List.{flat_map}
use Rattle.prov_fold.specs.Graphs.{node, HasTruth}
use Rattle.prov_fold.specs.Rules.{or_kids}
use Rattle.prov_fold.proofs.fold.Fold.or_spread.Given as goal

abbrev pub invariant-loop-kid : goal.invariant-loop-kid
invariant-loop-kid l = record {
  listed : l.all.items ++ flat_map (λ kid. or_kids kid (node l.self kid)) (drop l.kid-index l.kids) ≡ flat_map (λ kid. or_kids kid (node l.self kid)) l.kids;
  truths : All (HasTruth l.self) l.all.items;
}
