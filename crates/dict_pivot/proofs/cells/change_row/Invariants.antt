use Rattle.std.proofs.Common.{◌≡◌, ◌≢◌, ℕ, ◌<◌, ◌≤◌, length, Some}
use Rattle.std.specs.Prelude.{slice_index}
use Rattle.dict_pivot.specs.Dictionaries.{number}
use Rattle.dict_pivot.specs.Steps.{new_at}
use Rattle.dict_pivot.proofs.cells.change_row.Given as goal

abbrev pub invariant-loop-s : goal.invariant-loop-s
invariant-loop-s l = record {
  done : (k : ℕ) → k < length l.fn.row → ((t : ℕ) → l.s ≤ t → t < length l.active → slice_index l.active t ≢ k) → new_at l.fn.row l.column l.shares k ≡ Some (number l.row k);
  left : (t : ℕ) → l.s ≤ t → t < length l.active → number l.row (slice_index l.active t) ≡ number l.fn.row (slice_index l.active t);
}
