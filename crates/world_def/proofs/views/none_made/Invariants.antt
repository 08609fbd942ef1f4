use Rattle.std.proofs.Common.{◌≡◌}
use Rattle.world_def.specs.Made.{none_of}
use Rattle.world_def.proofs.views.none_made.Given as goal

abbrev pub invariant-loop-view : goal.invariant-loop-view
invariant-loop-view l = l.made.items ≡ none_of l._view-index
