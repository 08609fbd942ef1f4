use Rattle.std.proofs.Common.{◌∙◌}
use Rattle.point_listing.proofs.Steps.{few_nodes}
use Rattle.point_listing.proofs.Worlds.{root_inside}
use Rattle.point_listing.proofs.search.list_worlds.Goals as goal

pub explore-requires-clause-inside : goal.explore-requires-clause-inside
explore-requires-clause-inside c = root_inside c.args.program.now c.requires.measured c.as_mut_slice.result.now (c.as_mut_slice.ensures.value ∙ c.in_ok-sides.ensures ∙ c.as_slice.ensures ∙ c.in_ok-root.ensures)

pub from_nodes-requires : goal.from_nodes-requires
from_nodes-requires c = few_nodes c.args.program.now c.args.fold.now c.args.map.now.stands _ _ _ c.in_ok-explore.ensures.works c.new.ensures c.requires.budget
