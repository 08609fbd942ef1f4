use Rattle.world_def.specs.Views.{views_among}
use Rattle.world_def.proofs.Marking.{marks_none}
use Rattle.world_def.proofs.marks.mark_source.Goals as goal

pub returns-in-Table : goal.returns-in-Table
unfolding views_among
returns-in-Table c = rw c.in-Table.is (marks_none c.args.marks.now)

pub returns-in-Hypo : goal.returns-in-Hypo
unfolding views_among
returns-in-Hypo c = rw c.in-Hypo.is (marks_none c.args.marks.now)

pub returns-in-View : goal.returns-in-View
unfolding views_among
returns-in-View c = rw c.in-View.is c.mark.ensures
