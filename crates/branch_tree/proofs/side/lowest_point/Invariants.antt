use Rattle.std.proofs.Common.{◌≡◌, ◌++◌, drop}
use Rattle.branch_tree.specs.Listing.{lows}
use Rattle.branch_tree.proofs.side.lowest_point.Given as goal

abbrev pub invariant-loop-side : goal.invariant-loop-side
invariant-loop-side l = l.point ++ lows (drop l.side-index l.sides) ≡ lows l.sides
