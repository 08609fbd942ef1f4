use Rattle.std.proofs.Common.{◌≡◌, ℕ, ◌-◌, ◌<◌, ◌≤◌, length}
use Rattle.cross_links.specs.Linkage.{entry_at}
use Rattle.cross_links.proofs.starts.row_end.Given as goal

abbrev pub invariant-loop-end : goal.invariant-loop-end
invariant-loop-end l = record {
  order : l.start ≤ l.end;
  within : l.end ≤ length l.entries;
  here : (i : ℕ) → l.start ≤ i → i < l.end → (entry_at l.entries i).row ≡ l.row;
}

abbrev pub decreases-loop-end : goal.decreases-loop-end
decreases-loop-end l = length l.entries - l.end
