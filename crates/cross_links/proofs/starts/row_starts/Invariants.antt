use Rattle.std.proofs.Common.{◌≡◌, ℕ, ◌<◌, length, slice_index}
use Rattle.cross_links.specs.Linkage.{IsStart}
use Rattle.cross_links.proofs.starts.row_starts.Given as goal

abbrev pub invariant-loop-row : goal.invariant-loop-row
invariant-loop-row l = record {
  count : length l.starts.items ≡ l.row;
  start : IsStart l.entries l.row l.start;
  each : (row : ℕ) → row < l.row → IsStart l.entries row (slice_index l.starts.items row);
}
