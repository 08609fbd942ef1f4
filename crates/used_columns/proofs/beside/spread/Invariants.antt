use Rattle.std.proofs.Common.{◌≡◌, ◌<◌, ◌++◌, drop, All}
use Rattle.std.specs.List.{flat_map}
use Rattle.prov_fold.specs.Graphs.{node, size}
use Rattle.prov_fold.specs.Rules.{or_kids}
use Rattle.used_columns.proofs.beside.spread.Given as goal

abbrev pub invariant-loop-kid : goal.invariant-loop-kid
invariant-loop-kid l = record {
  listed : l.all.items ++ flat_map (λ kid. or_kids kid (node l.fold kid)) (drop l.kid-index l.kids) ≡ flat_map (λ kid. or_kids kid (node l.fold kid)) l.kids;
  there : All (λ k. k < size l.fold) l.all.items;
}
