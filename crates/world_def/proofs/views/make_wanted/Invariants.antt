use Rattle.world_def.specs.Views.{wanted}
use Rattle.world_def.proofs.Making.{Upto}
use Rattle.world_def.proofs.views.make_wanted.Given as goal

abbrev pub invariant-loop-at : goal.invariant-loop-at
invariant-loop-at l = Upto l.query l.tables l.world (wanted l.query.views l.number) l.at l.views.made.items
