use Rattle.std.proofs.Common.{◌≡◌, ◌++◌, drop}
use Rattle.branch_tree.specs.Listing.{open_from}
use Rattle.program_leaves.proofs.part.unfixed.Given as goal

abbrev pub invariant-loop-column : goal.invariant-loop-column
invariant-loop-column l = l.columns ++ open_from l.column (drop l.column l.sides) ≡ open_from 0 l.sides
