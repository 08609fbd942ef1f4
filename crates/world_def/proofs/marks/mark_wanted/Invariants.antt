use Rattle.std.proofs.Common.{◌≡◌, ◌≤◌, ◌+◌, length}
use Rattle.world_def.specs.Views.{wanted}
use Rattle.world_def.proofs.Marking.{IsLeft}
use Rattle.world_def.proofs.marks.mark_wanted.Given as goal

abbrev pub invariant-loop-at : goal.invariant-loop-at
invariant-loop-at l = (length l.marks ≡ l.number + 1) × (l.at ≤ l.number + 1) × IsLeft l.views (wanted l.views l.number) l.at l.marks

abbrev pub decreases-loop-at : goal.decreases-loop-at
decreases-loop-at l = l.at
