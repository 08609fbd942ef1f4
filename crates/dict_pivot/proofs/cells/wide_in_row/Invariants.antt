use Rattle.std.proofs.Common.{ℕ, ◌<◌}
use Rattle.std.specs.Prelude.{IsSome, slice_index}
use Rattle.dict_pivot.specs.Steps.{new_at}
use Rattle.dict_pivot.proofs.cells.wide_in_row.Given as goal

abbrev pub invariant-loop-s : goal.invariant-loop-s
invariant-loop-s l = (t : ℕ) → t < l.s → IsSome (new_at l.row l.column l.shares (slice_index l.active t))
