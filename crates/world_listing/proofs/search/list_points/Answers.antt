use Rattle.world_listing.proofs.Steps.{few_nodes}
use Rattle.world_listing.proofs.search.list_points.Goals as goal

pub from_nodes-requires : goal.from_nodes-requires
from_nodes-requires c = few_nodes _ _ _ _ _ c.in_ok-explore.ensures.works c.new.ensures c.requires.budget
