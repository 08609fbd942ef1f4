use Rattle.std.proofs.Common.{◌≡◌, ◌≤◌, length, drop}
use Rattle.std.specs.Str.{bytes_eq}
use Rattle.branch_tree.specs.Listing.{open_from}
use Rattle.cert_check.proofs.part.are_open.Given as goal

abbrev pub invariant-loop-at : goal.invariant-loop-at
invariant-loop-at l = record {
  within : l.next ≤ l.at;
  room : l.next ≤ length l.columns;
  left : bytes_eq (drop l.next l.columns) (open_from l.at (drop l.at l.sides)) ≡ bytes_eq l.columns (open_from 0 l.sides);
}
