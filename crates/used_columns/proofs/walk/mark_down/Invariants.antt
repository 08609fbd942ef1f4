use Rattle.used_columns.specs.Marks.{IsDoneFrom}
use Rattle.used_columns.proofs.walk.mark_down.Given as goal

abbrev pub invariant-loop-id : goal.invariant-loop-id
invariant-loop-id l = IsDoneFrom l.fold l.id l.initial.marks l.marks
