use Rattle.std.proofs.Common.{◌≢◌, ℕ, ◌<◌}
use Rattle.std.specs.Prelude.{IsSome}
use Rattle.dict_pivot.specs.Steps.{new_cell}
use Rattle.dict_pivot.proofs.pivot.wide_cell.Given as goal

abbrev pub invariant-loop-i : goal.invariant-loop-i
invariant-loop-i l = (k j : ℕ) → k < l.i → k ≢ l.row → j < l.width → IsSome (new_cell l.cells l.width l.column l.shares k j)
