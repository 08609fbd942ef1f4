use Rattle.ip_rows.proofs.SumLemmas.{IsOnTheWay}
use Rattle.branch_tree.specs.Listing.{lows}
use Rattle.program_leaves.specs.Leaves.{root_of}
use Rattle.program_leaves.proofs.row.least_total.Given as goal

abbrev pub invariant-loop-term : goal.invariant-loop-term
invariant-loop-term l = IsOnTheWay (lows (root_of l.program)) l.terms l.term-index l.sum
