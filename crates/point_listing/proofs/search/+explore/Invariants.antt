use Rattle.std.proofs.Common.{sum_by}
use Rattle.branch_tree.proofs.Columns.{width}
use Rattle.point_listing.proofs.search.+explore.Given as goal

abbrev pub decreases-explore : goal.decreases-explore
decreases-explore l = sum_by width l.sides.now
