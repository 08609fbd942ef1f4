use Rattle.rat128.proofs.Rationals.{not_zero}
use Rattle.dual_simplex.proofs.Walks.{walks_on, least_stays, less_room}
use Rattle.dual_simplex.proofs.walk.walk.Goals as goal

pub path-init : goal.path-init
path-init c = record {
  stands = record { steps = 0; on = c.in_ok-dict.ensures.start };
  least = c.in_ok-dict.ensures.least;
  dictionary = c.in_ok-dict.ensures.dictionary;
}

pub pivot-requires-clause-cell : goal.pivot-requires-clause-cell
pivot-requires-clause-cell c = not_zero _ c.in-Pivot.ensures.enters.positive

pub path-preserved : goal.path-preserved
path-preserved c = record {
  stands = walks_on c.args.lp.now c.requires.formed c.args.best c.path.dict c.pivot.new.self c.path.invariant.least c.path.invariant.dictionary c.in-Ok.ensures.dictionary c.path.invariant.stands c.in-Pivot.at.row c.in-Pivot.at.column c.in-Pivot.ensures c.in-Ok.ensures.done c.in-Ok.ensures.pivot;
  least = least_stays c.args.lp.now c.requires.formed c.args.best c.path.dict c.pivot.new.self c.path.invariant.least c.path.invariant.dictionary c.in-Ok.ensures.dictionary c.path.invariant.stands c.in-Pivot.at.row c.in-Pivot.at.column c.in-Pivot.ensures c.in-Ok.ensures.done c.in-Ok.ensures.pivot;
  dictionary = c.in-Ok.ensures.dictionary;
}

pub path-smaller : goal.path-smaller
path-smaller c = less_room c.args.lp.now c.requires.formed c.args.best c.path.dict c.pivot.new.self c.path.invariant.least c.path.invariant.dictionary c.in-Ok.ensures.dictionary c.path.invariant.stands c.in-Pivot.at.row c.in-Pivot.at.column c.in-Pivot.ensures c.in-Ok.ensures.done c.in-Ok.ensures.pivot
