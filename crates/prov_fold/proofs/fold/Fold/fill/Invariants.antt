use Rattle.prov_fold.proofs.FillLemmas.{IsFilled}
use Rattle.prov_fold.proofs.fold.Fold.fill.Given as goal

abbrev pub invariant-nodes : goal.invariant-nodes
invariant-nodes l = IsFilled l.self l.world l.id l.out
