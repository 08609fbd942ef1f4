use Rattle.dict_pivot.specs.Dictionaries.{cell_of, least_of, IsDictionary}
use Rattle.dict_pivot.specs.Quantities.{AreLeast}
use Rattle.dual_simplex.specs.Rising.{room, listed}
use Rattle.dual_simplex.specs.Shown.{Stands}
use Rattle.dual_simplex.proofs.walk.walk.Given as goal

abbrev pub invariant-path : goal.invariant-path
invariant-path l = record {
  stands : Stands l.lp l.best l.dict;
  least : AreLeast l.lp (least_of l.dict.low);
  dictionary : IsDictionary l.dict;
}

abbrev pub decreases-path : goal.decreases-path
decreases-path l = room (listed l.dict.height (λ i. cell_of l.dict i 0))
